-- Where a block's bytes and a write's data stand in the message: what the reader says of a block that it yields.
-- Assumes nothing.
use Rattle.std.specs.Prelude.{◌≡◌, ℕ, ◌+◌, ◌-◌, ◌*◌, ◌≤◌, min, Bool, true, false, ◌&&◌, ◌||◌, List, [], ◌∷◌, length, take, drop, ◌==◌, nat_le, Some as Whole, None as Malformed}
use Rattle.std.proofs.Math.Path.{refl}
use Rattle.std.proofs.Common.{ap, ◌∙◌, length-drop, take-take, drop-drop}
use native.Mathlib.Omega.{arith}
use Rattle.std.proofs.Math.ListN.{length-take}
use borrow.Author.Tests.{leb-true}
use Rattle.lists.specs.Truth.{both_hold, chosen}
use Rattle.chain.specs.Layout.{CLOSE, PROCESS_EXIT, LOCKING, READ, WRITE, TREE_DISCONNECT, LOGOFF, CORE-READ, CORE-WRITE, LOCK_BYTE_RANGE, UNLOCK_BYTE_RANGE, OPEN, word_count, byte_area, byte_count, block_end, unlock_count, lock_count, lock_type, data_length, data_offset, core_count, marked_data}
use Rattle.chain.specs.Parse.{shaped, is_large, locking_fits, data_inside, write_fits, core_write_fits, link_fits, link_at, answer, parse_locking, parse_read, parse_write, parse_logoff, parse_bare, parse_core_write, terminated, bytes_at, open_fits, parse_open, parse}
use Rattle.chain.specs.ParseLaws.{shaped-words, locking-inside, write-inside, open-inside}
use Rattle.locks.specs.Wire.{range_size}
use Rattle.chain.specs.declared.block.Body.{Body}
use Rattle.chain.specs.declared.block.Body.TheVariants.{Locking, Read, Write, Close, Logoff, TreeDisconnect, ProcessExit, CoreRead, CoreWrite, LockByteRange, UnlockByteRange, Open}
use Rattle.chain.specs.Next.{Next}
use Rattle.chain.specs.declared.block.Block.{Block}
use Rattle.chain.specs.declared.block.WriteFields.{WriteFields}
use Rattle.invariants.specs.BlockTests.{core-write-exact}
use Rattle.message.specs.Command.{name_asked}
use Rattle.message.specs.JustOpened.{body_meant}
use Rattle.requests.specs.ReadPart.{drop-take}

-- a LOCKING block of that place and length
pub record LockingPart (s : List ℕ) (at size : ℕ) : Type 0 where
  pub area : byte_area s at ≡ at + 19
  pub end : at + size ≡ block_end s at
  pub inside : block_end s at ≤ length s

-- a WRITE block with those fields
pub record WritePart (s : List ℕ) (at : ℕ) (f : WriteFields) : Type 0 where
  pub from : f.from ≡ data_offset s at
  pub count : f.count ≡ data_length s at
  pub inside : data_offset s at + data_length s at ≤ length s

-- a core WRITE block with those fields: its data stand behind the mark and the length of its data block
pub record CoreWritePart (s : List ℕ) (at : ℕ) (f : WriteFields) : Type 0 where
  pub from : f.from ≡ marked_data s at
  pub count : byte_count s at ≡ 3 + f.count
  pub inside : block_end s at ≤ length s

-- an OPEN block of that place and length: its name and one zero byte are its byte area
pub record OpeningPart (s : List ℕ) (at size : ℕ) : Type 0 where
  pub area : byte_area s at ≡ at + 33
  pub end : at + size ≡ block_end s at
  pub inside : block_end s at ≤ length s
  pub some : 1 ≤ byte_count s at

unfoldable pub Part : List ℕ → ℕ → ℕ → Body → Type 0
Part s at size (Locking f) = LockingPart s at size
Part s at size (Read f) = ◌≡◌ {A = ℕ} 0 0
Part s at size (Write f) = WritePart s at f
Part s at size (Close fid) = ◌≡◌ {A = ℕ} 0 0
Part s at size Logoff = ◌≡◌ {A = ℕ} 0 0
Part s at size TreeDisconnect = ◌≡◌ {A = ℕ} 0 0
Part s at size ProcessExit = ◌≡◌ {A = ℕ} 0 0
Part s at size (CoreRead f) = ◌≡◌ {A = ℕ} 0 0
Part s at size (CoreWrite f) = CoreWritePart s at f
Part s at size (LockByteRange f) = ◌≡◌ {A = ℕ} 0 0
Part s at size (UnlockByteRange f) = ◌≡◌ {A = ℕ} 0 0
Part s at size (Open f) = OpeningPart s at size

-- what FID 0xFFFF means in a READ_ANDX moves nothing
pub part-meant : (s : List ℕ) (at size just : ℕ) (body : Body) → Part s at size body → Part s at size (body_meant just body)
unfolding Part body_meant
part-meant s at size just (Locking f) p = p
part-meant s at size just (Read f) p = refl
part-meant s at size just (Write f) p = p
part-meant s at size just (Close fid) p = refl
part-meant s at size just Logoff p = refl
part-meant s at size just TreeDisconnect p = refl
part-meant s at size just ProcessExit p = refl
part-meant s at size just (CoreRead f) p = refl
part-meant s at size just (CoreWrite f) p = p
part-meant s at size just (LockByteRange f) p = refl
part-meant s at size just (UnlockByteRange f) p = refl
part-meant s at size just (Open f) p = p

-- an area that ends with its one zero byte is not empty
terminated-some : (xs : List ℕ) → terminated xs ≡ true → 1 ≤ length xs
unfolding terminated
terminated-some [] e = let never : ◌≡◌ {A = ℕ} 0 1 = cc in absurd (omega arith)
terminated-some (x ∷ xs) e = omega arith

-- a block is yielded only where it fits
module _ (s : List ℕ) (command at : ℕ) where
  yielded : (fits : Bool) (body : Body) (next : Next) (b : Block) → (fits ≡ true → Part s at (block_end s at - at) body)
      → answer s command at fits body next ≡ Whole b → Part s at b.length b.body
  unfolding answer
  yielded true body next b h e =
      let same : record { command = command; at = at; length = block_end s at - at; body = body; next = next } ≡ b = cc in
      rw (← same) (h refl)
  yielded false body next b h e = let never : ◌≡◌ {A = ℕ} 0 1 = cc in absurd (omega arith)

module _ (s : List ℕ) (at : ℕ) where
  locking-part : locking_fits s at ≡ true → LockingPart s at (block_end s at - at)
  unfolding locking_fits
  locking-part e =
      let words : word_count s at ≡ 8 =
      shaped-words s at 8
      (both_hold (shaped s at 8) (byte_count s at == (unlock_count s at + lock_count s at) * range_size (is_large (lock_type s at))) e).0 in
      record { area = omega arith; end = omega arith; inside = locking-inside s at e }

  write-part : write_fits s at ≡ true → (f : WriteFields) → f.from ≡ data_offset s at → f.count ≡ data_length s at → WritePart s at f
  unfolding write_fits data_inside
  write-part e f from count =
      let both = both_hold (shaped s at 12 || shaped s at 14) (nat_le (byte_area s at) (data_offset s at) && nat_le (data_offset s at + data_length s at) (block_end s at)) e in
      let last : data_offset s at + data_length s at ≤ block_end s at =
      leb-true (data_offset s at + data_length s at) (block_end s at)
      (both_hold (nat_le (byte_area s at) (data_offset s at)) (nat_le (data_offset s at + data_length s at) (block_end s at)) both.1).1 in
      let whole : block_end s at ≤ length s = write-inside s at e in
      record { from = from; count = count; inside = omega arith }

  core-write-part : core_write_fits s at ≡ true → (f : WriteFields) → f.from ≡ marked_data s at → f.count ≡ core_count s at → CoreWritePart s at f
  core-write-part e f from count =
      let m = (core-write-exact s at).0 e in
      let filled = m.filled in
      record { from = from; count = omega arith; inside = m.shape.inside }

  opening-part : open_fits s at ≡ true → OpeningPart s at (block_end s at - at)
  unfolding open_fits
  opening-part e =
      let both = both_hold (shaped s at 15) (terminated (bytes_at s at)) e in
      let words : word_count s at ≡ 15 = shaped-words s at 15 both.0 in
      let last = terminated-some (bytes_at s at) both.1 in
      let few : length (bytes_at s at) ≡ min (byte_count s at) (length (drop (byte_area s at) s)) = length-take (byte_count s at) (drop (byte_area s at) s) in
      record { area = omega arith; end = omega arith; inside = open-inside s at e; some = omega arith }

  -- whatever its command
  pub block-part : (command : ℕ) (b : Block) → parse s command at ≡ Whole b → Part s at b.length b.body
  unfolding parse parse_locking parse_read parse_write parse_logoff parse_bare parse_core_write parse_open Part
  block-part command b e =
      chosen (command == LOCKING) _ _ (Whole b)
      (yielded s LOCKING at (locking_fits s at && link_fits s LOCKING at) _ (link_at s at) b (λ h. locking-part (both_hold (locking_fits s at) (link_fits s LOCKING at) h).0))
      (chosen (command == READ) _ _ (Whole b) (yielded s READ at _ _ (link_at s at) b (λ h. refl))
      (chosen (command == WRITE) _ _ (Whole b)
      (yielded s WRITE at (write_fits s at && link_fits s WRITE at) _ (link_at s at) b (λ h. write-part (both_hold (write_fits s at) (link_fits s WRITE at) h).0 _ refl refl))
      (chosen (command == CLOSE) _ _ (Whole b) (yielded s CLOSE at _ _ _ b (λ h. refl))
      (chosen (command == LOGOFF) _ _ (Whole b) (yielded s LOGOFF at _ Logoff (link_at s at) b (λ h. refl))
      (chosen (command == TREE_DISCONNECT) _ _ (Whole b) (yielded s TREE_DISCONNECT at _ TreeDisconnect _ b (λ h. refl))
      (chosen (command == PROCESS_EXIT) _ _ (Whole b) (yielded s PROCESS_EXIT at _ ProcessExit _ b (λ h. refl))
      (chosen (command == CORE-READ) _ _ (Whole b) (yielded s CORE-READ at _ _ _ b (λ h. refl))
      (chosen (command == CORE-WRITE) _ _ (Whole b) (yielded s CORE-WRITE at (core_write_fits s at) _ _ b (λ h. core-write-part h _ refl refl))
      (chosen (command == LOCK_BYTE_RANGE) _ _ (Whole b) (yielded s LOCK_BYTE_RANGE at _ _ _ b (λ h. refl))
      (chosen (command == UNLOCK_BYTE_RANGE) _ _ (Whole b) (yielded s UNLOCK_BYTE_RANGE at _ _ _ b (λ h. refl))
      (chosen (command == OPEN) _ Malformed (Whole b)
      (yielded s OPEN at (open_fits s at && link_fits s OPEN at) _ (link_at s at) b (λ h. opening-part (both_hold (open_fits s at) (link_fits s OPEN at) h).0))
      (λ z. let never : ◌≡◌ {A = ℕ} 0 1 = cc in absurd (omega arith)))))))))))))
      e

-- a LOCKING block's byte area, as a part of the message
pub area-part : (s : List ℕ) (at size : ℕ) → LockingPart s at size
    → take (byte_count s at) (drop (byte_area s at) s) ≡ take (at + size - (at + 19)) (drop (at + 19) s)
area-part s at size p =
    let area = p.area in
    let end = p.end in
    let count : byte_count s at ≡ at + size - (at + 19) = omega arith in
    ap (λ (n : ℕ). take n (drop (byte_area s at) s)) count ∙ ap (λ (n : ℕ). take (at + size - (at + 19)) (drop n s)) area

-- an OPEN's name, as a part of the message: its byte area less its last byte
pub name-part : (s : List ℕ) (at size : ℕ) → OpeningPart s at size
    → name_asked (take (byte_count s at) (drop (byte_area s at) s)) ≡ take (at + size - 1 - (at + 33)) (drop (at + 33) s)
unfolding name_asked
name-part s at size p =
    let area = p.area in
    let end = p.end in
    let inside = p.inside in
    let some = p.some in
    let rest : length (drop (byte_area s at) s) ≡ length s - byte_area s at = length-drop (byte_area s at) s in
    let few : length (take (byte_count s at) (drop (byte_area s at) s)) ≡ min (byte_count s at) (length (drop (byte_area s at) s)) = length-take (byte_count s at) (drop (byte_area s at) s) in
    let less : length (take (byte_count s at) (drop (byte_area s at) s)) - 1 ≡ at + size - 1 - (at + 33) = omega arith in
    let fewer : at + size - 1 - (at + 33) ≤ byte_count s at = omega arith in
    ap (λ (n : ℕ). take n (take (byte_count s at) (drop (byte_area s at) s))) less
    ∙ take-take (at + size - 1 - (at + 33)) (byte_count s at) (drop (byte_area s at) s) fewer
    ∙ ap (λ (n : ℕ). take (at + size - 1 - (at + 33)) (drop n s)) area

-- a core WRITE's data, as a part of the message
pub data-part : (s : List ℕ) (at : ℕ) (f : WriteFields) → CoreWritePart s at f
    → drop 3 (take (byte_count s at) (drop (byte_area s at) s)) ≡ take f.count (drop f.from s)
data-part s at f p =
    let count = p.count in
    let left : byte_count s at - 3 ≡ f.count = omega arith in
    drop-take 3 (byte_count s at) (drop (byte_area s at) s)
    ∙ rw (drop-drop 3 (byte_area s at) s, left, p.from)

-- "Sent one to a message" (document 01): the message that a block of a chain makes of its own, and that it is read as that block alone.
-- Assumes nothing.
use Rattle.std.specs.Prelude.{◌≡◌, refl, ℕ, ◌+◌, ◌-◌, ◌/◌, ◌%◌, ◌≤◌, ◌<◌, Bool, true, false, cond, ◌||◌, List, ◌++◌, take, drop, set, get_or, eqb}
use Rattle.std.proofs.Common.{sym, ◌∙◌, length-drop, get_or-take, get_or-drop, eqb-true}
use Rattle.std.proofs.Math.Path.{ap}
use native.Mathlib.Omega.{arith}
use Rattle.std.proofs.Math.ListN.{length, length-append, length-set, get_or-append}
use Rattle.std.proofs.Math.Seq.{length-take-le, get_or-append-add, get_or-set_same, get_or-set_other}
use Rattle.wire.specs.LittleEndian.{byte_at, le16_at}
use Rattle.chain.specs.Layout.{LOCKING, READ, WRITE, LOGOFF, OPEN, NO_COMMAND, header_command, FIRST, word_count, byte_area, block_end, andx_command, data_length, data_offset}
use Rattle.chain.specs.Grammar.{IsBlock, locking-10, locking-20, read-10, read-12, write-12, write-14, close, logoff, tree-disconnect, process-exit, core-read, core-write, lock-byte-range, unlock-byte-range, open-15, NamedAndx, locking-andx, read-andx, write-andx, logoff-andx, open-andx, Plain, close-plain, tree-disconnect-plain, process-exit-plain, core-read-plain, core-write-plain, lock-byte-range-plain, unlock-byte-range-plain}
use Rattle.chain.specs.declared.block.Block.{Block}
use Rattle.invariants.specs.BlockParse.{block_inside, write-words, andx-words, block_size}
use Rattle.readings.specs.Moved.{Kept, kept-plain, kept-count, kept-front, kept-behind, kept-not-write, Moved}

-- the requests named ANDX
unfoldable pub named_andx : ℕ → Bool
named_andx command = eqb command LOCKING || (eqb command READ || (eqb command WRITE || (eqb command LOGOFF || eqb command OPEN)))

-- "with AndXCommand 0xFF where it has one": it is a block's byte 1
unfoldable pub end_set : ℕ → List ℕ → List ℕ
end_set command bytes = cond (named_andx command) (set bytes 1 0xFF) bytes

-- "and a WRITE_ANDX's DataOffset": bytes 23 and 24, the lower first
unfoldable pub data_set : ℕ → ℕ → List ℕ → List ℕ
data_set command offset bytes = cond (eqb command WRITE) (set (set bytes 23 (offset % 256)) 24 (offset / 256 % 256)) bytes

-- the block's bytes, with these set; its DataOffset is "less by what the block moved", from its place to 32
unfoldable pub alone_block : List ℕ → Block → List ℕ
alone_block s b = data_set b.command (data_offset s b.at - (b.at - 32)) (end_set b.command (take b.length (drop b.at s)))

-- "the chain's header with the block's command, then the block at 32"
unfoldable pub alone : List ℕ → Block → List ℕ
alone s b = set (take 32 s) 4 b.command ++ alone_block s b

-- ---- its bytes

-- a byte set under a condition leaves the others and the length
set_if : (t : Bool) (l : List ℕ) (i v k : ℕ) → (t ≡ true → k ≡ i → ⊥) → get_or (cond t (set l i v) l) k 0 ≡ get_or l k 0
set_if true l i v k n = get_or-set_other l i k v 0 (n refl)
set_if false l i v k n = refl

length-if : (t : Bool) (l m : List ℕ) → length m ≡ length l → length (cond t m l) ≡ length l
length-if true l m e = e
length-if false l m e = refl

end-byte : (command k : ℕ) (bytes : List ℕ) → (named_andx command ≡ true → k ≡ 1 → ⊥) → byte_at (end_set command bytes) k ≡ byte_at bytes k
unfolding end_set
end-byte command k bytes n = set_if (named_andx command) bytes 1 0xFF k n

length-end : (command : ℕ) (bytes : List ℕ) → length (end_set command bytes) ≡ length bytes
unfolding end_set
length-end command bytes = length-if (named_andx command) bytes (set bytes 1 0xFF) (length-set bytes 1 0xFF)

data-if : (t : Bool) (l : List ℕ) (a b k : ℕ) → (t ≡ true → k ≡ 23 → ⊥) → (t ≡ true → k ≡ 24 → ⊥) → get_or (cond t (set (set l 23 a) 24 b) l) k 0 ≡ get_or l k 0
data-if true l a b k n m = get_or-set_other (set l 23 a) 24 k b 0 (m refl) ∙ get_or-set_other l 23 k a 0 (n refl)
data-if false l a b k n m = refl

data-byte : (command offset k : ℕ) (bytes : List ℕ) → (eqb command WRITE ≡ true → k ≡ 23 → ⊥) → (eqb command WRITE ≡ true → k ≡ 24 → ⊥)
    → byte_at (data_set command offset bytes) k ≡ byte_at bytes k
unfolding data_set
data-byte command offset k bytes n m = data-if (eqb command WRITE) bytes (offset % 256) (offset / 256 % 256) k n m

length-data : (command offset : ℕ) (bytes : List ℕ) → length (data_set command offset bytes) ≡ length bytes
unfolding data_set
length-data command offset bytes =
    length-if (eqb command WRITE) bytes (set (set bytes 23 (offset % 256)) 24 (offset / 256 % 256))
    (length-set (set bytes 23 (offset % 256)) 24 (offset / 256 % 256) ∙ length-set bytes 23 (offset % 256))

-- a request not named ANDX is not taken for one
plain-not : {command : ℕ} → Plain command → named_andx command ≡ true → ⊥
unfolding named_andx
plain-not close-plain e = let z : ◌≡◌ {A = ℕ} 0 1 = cc in omega arith
plain-not tree-disconnect-plain e = let z : ◌≡◌ {A = ℕ} 0 1 = cc in omega arith
plain-not process-exit-plain e = let z : ◌≡◌ {A = ℕ} 0 1 = cc in omega arith
plain-not core-read-plain e = let z : ◌≡◌ {A = ℕ} 0 1 = cc in omega arith
plain-not core-write-plain e = let z : ◌≡◌ {A = ℕ} 0 1 = cc in omega arith
plain-not lock-byte-range-plain e = let z : ◌≡◌ {A = ℕ} 0 1 = cc in omega arith
plain-not unlock-byte-range-plain e = let z : ◌≡◌ {A = ℕ} 0 1 = cc in omega arith

plain-not-write : {command : ℕ} → Plain command → eqb command WRITE ≡ true → ⊥
plain-not-write close-plain e = let z : ◌≡◌ {A = ℕ} 0 1 = cc in omega arith
plain-not-write tree-disconnect-plain e = let z : ◌≡◌ {A = ℕ} 0 1 = cc in omega arith
plain-not-write process-exit-plain e = let z : ◌≡◌ {A = ℕ} 0 1 = cc in omega arith
plain-not-write core-read-plain e = let z : ◌≡◌ {A = ℕ} 0 1 = cc in omega arith
plain-not-write core-write-plain e = let z : ◌≡◌ {A = ℕ} 0 1 = cc in omega arith
plain-not-write lock-byte-range-plain e = let z : ◌≡◌ {A = ℕ} 0 1 = cc in omega arith
plain-not-write unlock-byte-range-plain e = let z : ◌≡◌ {A = ℕ} 0 1 = cc in omega arith

andx-is : {command : ℕ} → NamedAndx command → named_andx command ≡ true
unfolding named_andx
andx-is locking-andx = refl
andx-is read-andx = refl
andx-is write-andx = refl
andx-is logoff-andx = refl
andx-is open-andx = refl

-- a WRITE block's data: where it starts and ends
write-data : {s : List ℕ} {at command : ℕ} → IsBlock s at command → command ≡ WRITE
    → (byte_area s at ≤ data_offset s at) × (data_offset s at + data_length s at ≤ block_end s at)
write-data (locking-10 p h) e = absurd (omega arith)
write-data (locking-20 p h) e = absurd (omega arith)
write-data (read-10 h) e = absurd (omega arith)
write-data (read-12 h) e = absurd (omega arith)
write-data (write-12 h) e = (h.starts, h.ends)
write-data (write-14 h) e = (h.starts, h.ends)
write-data (close h) e = absurd (omega arith)
write-data (logoff h) e = absurd (omega arith)
write-data (tree-disconnect h) e = absurd (omega arith)
write-data (process-exit h) e = absurd (omega arith)
write-data (core-read h) e = absurd (omega arith)
write-data (core-write h) e = absurd (omega arith)
write-data (lock-byte-range h) e = absurd (omega arith)
write-data (unlock-byte-range h) e = absurd (omega arith)
write-data (open-15 h) e = absurd (omega arith)

-- bytes kept are not those set
kept-end : {command k : ℕ} → Kept command k → named_andx command ≡ true → k ≡ 1 → ⊥
kept-end (kept-plain p) e f = plain-not p e
kept-end kept-count e f = omega arith
kept-end (kept-front a b) e f = omega arith
kept-end (kept-behind a) e f = omega arith
kept-end (kept-not-write n a) e f = omega arith

kept-data : {command k : ℕ} → Kept command k → eqb command WRITE ≡ true → 23 ≤ k → k ≤ 24 → ⊥
kept-data (kept-plain p) e f g = plain-not-write p e
kept-data kept-count e f g = omega arith
kept-data (kept-front a b) e f g = omega arith
kept-data (kept-behind a) e f g = omega arith
kept-data {command} (kept-not-write n a) e f g = n (eqb-true command WRITE e)

module _ (s : List ℕ) (b : Block) (long : 32 ≤ length s) where
  -- the header's length
  length_front : length (set (take 32 s) 4 b.command) ≡ 32
  length_front = length-set (take 32 s) 4 b.command ∙ length-take-le 32 s long

  -- behind it stands the block
  pub alone-byte : (k : ℕ) → byte_at (alone s b) (32 + k) ≡ byte_at (alone_block s b) k
  unfolding alone
  alone-byte k =
      ap (λ (n : ℕ). byte_at (set (take 32 s) 4 b.command ++ alone_block s b) (n + k)) (sym length_front)
      ∙ get_or-append-add (set (take 32 s) 4 b.command) (alone_block s b) k 0

  front-byte : (k : ℕ) → k < 32 → byte_at (alone s b) k ≡ byte_at (set (take 32 s) 4 b.command) k
  unfolding alone
  front-byte k h =
      let l : k < length (set (take 32 s) 4 b.command) = rw length_front h in
      get_or-append (set (take 32 s) 4 b.command) (alone_block s b) 0 k l

  -- the header has the block's command
  pub alone-command : header_command (alone s b) ≡ b.command
  alone-command =
      let l : 4 < length (take 32 s) = rw (length-take-le 32 s long) (omega arith) in
      front-byte 4 (omega arith) ∙ get_or-set_same (take 32 s) 4 b.command 0 l

  -- and the chain's other bytes
  pub alone-header : (k : ℕ) → k < 32 → (k ≡ 4 → ⊥) → byte_at (alone s b) k ≡ byte_at s k
  alone-header k h n = front-byte k h ∙ get_or-set_other (take 32 s) 4 k b.command 0 n ∙ get_or-take 32 s k 0 h

  length-alone-block : b.at + b.length ≤ length s → length (alone_block s b) ≡ b.length
  unfolding alone_block
  length-alone-block h =
      length-data b.command (data_offset s b.at - (b.at - 32)) (end_set b.command (take b.length (drop b.at s)))
      ∙ length-end b.command (take b.length (drop b.at s))
      ∙ length-take-le b.length (drop b.at s) (rw (length-drop b.at s) (omega arith))

  -- its length
  pub length-alone : b.at + b.length ≤ length s → length (alone s b) ≡ 32 + b.length
  unfolding alone
  length-alone h =
      length-append (set (take 32 s) 4 b.command) (alone_block s b)
      ∙ rw (length_front, length-alone-block h)

  -- it has a whole header, whatever the block
  pub length-alone-more : 32 ≤ length (alone s b)
  unfolding alone
  length-alone-more = rw (length-append, length_front) (omega arith)

  -- a byte of the block
  part-byte : (k : ℕ) → k < b.length → byte_at (take b.length (drop b.at s)) k ≡ byte_at s (b.at + k)
  part-byte k h = get_or-take b.length (drop b.at s) k 0 h ∙ get_or-drop b.at s k 0

  alone-kept : (k : ℕ) → k < b.length → Kept b.command k → byte_at (alone s b) (32 + k) ≡ byte_at s (b.at + k)
  unfolding alone_block
  alone-kept k h p =
      alone-byte k
      ∙ data-byte b.command (data_offset s b.at - (b.at - 32)) k (end_set b.command (take b.length (drop b.at s)))
      (λ e f. kept-data p e (omega arith) (omega arith)) (λ e f. kept-data p e (omega arith) (omega arith))
      ∙ end-byte b.command k (take b.length (drop b.at s)) (kept-end p)
      ∙ part-byte k h

  -- "AndXCommand 0xFF"
  pub alone-end : b.at + b.length ≤ length s → 2 ≤ b.length → NamedAndx b.command → andx_command (alone s b) FIRST ≡ NO_COMMAND
  unfolding alone_block end_set
  alone-end h l a =
      let n : length (take b.length (drop b.at s)) ≡ b.length =
      length-take-le b.length (drop b.at s) (rw (length-drop b.at s) (omega arith)) in
      let i : 1 < length (take b.length (drop b.at s)) = rw n (omega arith) in
      alone-byte 1
      ∙ data-byte b.command (data_offset s b.at - (b.at - 32)) 1 (end_set b.command (take b.length (drop b.at s)))
      (λ e f. omega arith) (λ e f. omega arith)
      ∙ rw (andx-is a) (get_or-set_same (take b.length (drop b.at s)) 1 0xFF 0 i)

  -- a WRITE block's two bytes
  alone-low : b.at + b.length ≤ length s → 25 ≤ b.length → b.command ≡ WRITE → byte_at (alone s b) 55 ≡ (data_offset s b.at - (b.at - 32)) % 256
  unfolding alone_block data_set
  alone-low h l e =
      let n : length (end_set b.command (take b.length (drop b.at s))) ≡ b.length =
      length-end b.command (take b.length (drop b.at s)) ∙ length-take-le b.length (drop b.at s) (rw (length-drop b.at s) (omega arith)) in
      let i : 23 < length (end_set b.command (take b.length (drop b.at s))) = rw n (omega arith) in
      alone-byte 23
      ∙ rw e (rw e at (
      get_or-set_other (set (end_set b.command (take b.length (drop b.at s))) 23 ((data_offset s b.at - (b.at - 32)) % 256)) 24 23 ((data_offset s b.at - (b.at - 32)) / 256 % 256) 0 (λ f. omega arith)
      ∙ get_or-set_same (end_set b.command (take b.length (drop b.at s))) 23 ((data_offset s b.at - (b.at - 32)) % 256) 0 i))

  alone-high : b.at + b.length ≤ length s → 25 ≤ b.length → b.command ≡ WRITE → byte_at (alone s b) 56 ≡ (data_offset s b.at - (b.at - 32)) / 256 % 256
  unfolding alone_block data_set
  alone-high h l e =
      let n : length (set (end_set b.command (take b.length (drop b.at s))) 23 ((data_offset s b.at - (b.at - 32)) % 256)) ≡ b.length =
      length-set (end_set b.command (take b.length (drop b.at s))) 23 ((data_offset s b.at - (b.at - 32)) % 256)
      ∙ length-end b.command (take b.length (drop b.at s)) ∙ length-take-le b.length (drop b.at s) (rw (length-drop b.at s) (omega arith)) in
      let i : 24 < length (set (end_set b.command (take b.length (drop b.at s))) 23 ((data_offset s b.at - (b.at - 32)) % 256)) = rw n (omega arith) in
      alone-byte 24
      ∙ rw e (rw e at (get_or-set_same (set (end_set b.command (take b.length (drop b.at s))) 23 ((data_offset s b.at - (b.at - 32)) % 256)) 24 ((data_offset s b.at - (b.at - 32)) / 256 % 256) 0 i))

  -- "less by what the block moved": the number in them
  alone-offset : b.at + b.length ≤ length s → 25 ≤ b.length → b.command ≡ WRITE → data_offset s b.at - (b.at - 32) < 65536
      → data_offset (alone s b) FIRST ≡ data_offset s b.at - (b.at - 32)
  unfolding le16_at
  alone-offset h l e small = let a = alone-low h l e in let c = alone-high h l e in omega arith

-- the block at its place in its own message
pub alone-moved : {s : List ℕ} (b : Block) → IsBlock s b.at b.command → b.length ≡ block_size s b.at → 32 ≤ b.at → length s ≤ 8192
    → Moved s b.at (alone s b) FIRST b.command
alone-moved {s} b h size from small =
    let i : block_end s b.at ≤ length s = block_inside h in
    let long : 32 ≤ length s = omega arith in
    let n : length (alone s b) ≡ 32 + b.length = length-alone s b long (omega arith) in
    record {
      kept = λ k l p. alone-kept s b long k (omega arith) p.0;
      inside = omega arith;
      data-moved = λ e.
          let w : 12 ≤ word_count s b.at = write-words h e in
          let d = write-data h e in
          let starts : byte_area s b.at ≤ data_offset s b.at = d.0 in
          let ends : data_offset s b.at + data_length s b.at ≤ block_end s b.at = d.1 in
          let o : data_offset (alone s b) FIRST ≡ data_offset s b.at - (b.at - 32) = alone-offset s b long (omega arith) (omega arith) e (omega arith) in
          omega arith;
    }

-- its AndX words end the chain
pub alone-ends : {s : List ℕ} (b : Block) → IsBlock s b.at b.command → b.length ≡ block_size s b.at → 32 ≤ b.at
    → NamedAndx b.command → andx_command (alone s b) FIRST ≡ NO_COMMAND
alone-ends {s} b h size from a =
    let i : block_end s b.at ≤ length s = block_inside h in
    let w : 2 ≤ word_count s b.at = andx-words h a in
    alone-end s b (omega arith) (omega arith) (omega arith) a

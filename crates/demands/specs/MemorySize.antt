-- A message leaves a file memory of 65,536 bytes (document 01, "Tables and room"), so the next one may be given it. Assumes nothing.
use Rattle.std.specs.Prelude.{◌≡◌, refl, ℕ, ◌+◌, ◌-◌, ◌*◌, ◌≤◌, false, List, [], length, drop, get_or, replicate, eqb, ltb, Option, None, Some}
use Rattle.std.proofs.Common.{◌∙◌, arith, length-take, length-drop, ne_eqb, ltb-false}
use Rattle.std.proofs.lemmas.List.{length-replicate}
use Rattle.std.proofs.lemmas.Bool.{eqb-false}
use Rattle.lists.specs.Put.{put}
use Rattle.lists.specs.PutLaws.{length-put}
use Rattle.records.specs.declared.Tables.{Tables}
use Rattle.records.specs.Empty.{no_open}
use Rattle.records.specs.Held.{opens_of, locks_of}
use Rattle.locks.specs.Wire.{range_size}
use Rattle.locks.specs.Request.{ranges_of, Result, refused as refused_by, settle, request, locking}
use Rattle.locks.specs.declared.types.Request.{Request}
use Rattle.locks.specs.declared.types.LockRefusal.TheVariants.{Malformed}
use Rattle.soundness.specs.File.{file_of}
use Rattle.invariants.specs.SoundParts.{sound-says}
use Rattle.chain.specs.Layout.{header_command, FIRST, byte_area, byte_count, data_length, data_offset}
use Rattle.chain.specs.Grammar.{IsBlock, locking-10, locking-20, read-10, read-12, write-12, write-14, close, logoff, tree-disconnect, process-exit, core-read, core-write, lock-byte-range, unlock-byte-range, open-15}
use Rattle.chain.specs.Chain.{blocks}
use Rattle.chain.specs.declared.block.LockingFields.{LockingFields}
use Rattle.chain.specs.declared.block.ReadFields.{ReadFields}
use Rattle.chain.specs.declared.block.RangeFields.{RangeFields}
use Rattle.chain.specs.declared.block.WriteFields.{WriteFields}
use Rattle.chain.specs.declared.block.OpenFields.{OpenFields}
use Rattle.chain.specs.declared.block.Block.{Block}
use Rattle.invariants.specs.BlockParse.{body_at, block_at}
use Rattle.invariants.specs.Chained.{Chained, chained-end, chained_more, read-chained}
use Rattle.message.specs.Caller.{caller_of}
use Rattle.message.specs.declared.caller.Caller.{Caller}
use Rattle.message.specs.Refusal.{forms_of}
use Rattle.message.specs.Contents.{size_of, grown, written}
use Rattle.message.specs.Command.{Said, Given, refused, done, served_type, request_of, locking_end, locking_after, do_locking, do_read, do_write, ends_past, as_core, one_range, do_range, do_set_size, do_core_write, do_open, perform}
use Rattle.message.specs.JustOpened.{NOBODY, body_meant}
use Rattle.message.specs.Message.{area_of, data_of, Ran, after, after_given, run, served, only_status, run_chain, answered}
use Rattle.message.specs.declared.refusal.Refusal.{Refusal}
use Rattle.message.specs.declared.refusal.Refusal.TheVariants.{NotServed, NoAccess, LockType}
use Rattle.invariants.specs.GivenCases.{cond-case, request-case, session-case, tree-case, open-case, barred-case, writing-case, opening-case}
use Rattle.invariants.specs.Sound.{Good, Keeps, keeps-good, perform-keeps, size-most, open-file}

-- a command refused, or done with that many bytes of file memory left
data Leaves : Given → Type 0 where
  leaves-refused : {why : Refusal} → Leaves (refused why)
  leaves-done : {t : Tables} {memory : List ℕ} {said : Said} → length memory ≡ 65536 → Leaves (done t memory said)

leaves-size : {t : Tables} {memory : List ℕ} {said : Said} → Leaves (done t memory said) → length memory ≡ 65536
leaves-size (leaves-done h) = h

core-leaves : {d : Given} → Leaves d → Leaves (as_core d)
unfolding as_core
core-leaves leaves-refused = leaves-refused
core-leaves (leaves-done h) = leaves-done h

-- a write ends inside its file
pub write-ends : (offset count : ℕ) → ends_past offset count ≡ false → (count ≡ 0 → ⊥) → offset + count ≤ 4096
unfolding ends_past
write-ends offset count e n =
    let f : ltb 4096 (offset + count) ≡ false = rw (ne_eqb count 0 n) at e in ltb-false 4096 (offset + count) f

-- two writes inside keep the length
length-puts : (memory zeros bytes : List ℕ) (at to n : ℕ) → length memory ≡ n → at + length zeros ≤ n → to + length bytes ≤ n
    → length (put (put memory at zeros) to bytes) ≡ n
length-puts memory zeros bytes at to n full h k =
    let a : at + length zeros ≤ length memory = omega arith in
    let b : length (put memory at zeros) ≡ length memory = length-put memory zeros at a in
    let d : to + length bytes ≤ length (put memory at zeros) = omega arith in
    length-put (put memory at zeros) bytes to d ∙ b ∙ full

length-written : (t : Tables) (memory : List ℕ) (file offset count : ℕ) (bytes : List ℕ) → length memory ≡ 65536 → file ≤ 15 → size_of t file ≤ 4096
    → ends_past offset count ≡ false → length bytes ≤ count → length (written t memory file offset bytes) ≡ 65536
unfolding written
length-written t memory file offset count bytes full low most e few =
    cond-case (λ (m : List ℕ). length m ≡ 65536) (eqb (length bytes) 0) memory _ (λ _. full)
    (λ f. let n : length bytes ≡ 0 → ⊥ = eqb-false (length bytes) 0 f in
    let z : count ≡ 0 → ⊥ = λ g. n (omega arith) in
    let ends : offset + count ≤ 4096 = write-ends offset count e z in
    length-puts memory (replicate (offset - size_of t file) 0) bytes (file * 4096 + size_of t file) (file * 4096 + offset) 65536 full
    (rw (length-replicate {A = ℕ} (offset - size_of t file) 0) (omega arith)) (omega arith))

-- zeros up to a new size
length-grown : (t : Tables) (memory : List ℕ) (file size : ℕ) → length memory ≡ 65536 → file ≤ 15 → size_of t file ≤ 4096 → size ≤ 4096
    → length (grown t memory file size) ≡ 65536
length-grown t memory file size full low most h =
    let zeros : length (replicate {A = ℕ} (size - size_of t file) 0) ≡ size - size_of t file = length-replicate (size - size_of t file) 0 in
    length-put memory (replicate (size - size_of t file) 0) (file * 4096 + size_of t file) (omega arith) ∙ full

module _ (c : Caller) (t : Tables) (memory : List ℕ) (full : length memory ≡ 65536) where
  request-leaves : (q : Request) (area : List ℕ) → Leaves (locking_after t memory (locking (file_of (opens_of t)) t.locks t.nlocks q area))
  unfolding locking settle locking_after locking_end
  request-leaves q area =
      cond-case (λ (r : Result). Leaves (locking_after t memory (settle t.locks t.nlocks r))) (eqb (length area) ((q.unlocks + q.locks) * range_size q.large))
      (request (file_of (opens_of t)) q.fid q.shared (ranges_of q area 0 q.unlocks) (ranges_of q area q.unlocks q.locks) (locks_of t))
      (refused_by Malformed)
      (λ _. request-case (λ (r : Result). Leaves (locking_after t memory (settle t.locks t.nlocks r))) leaves-refused leaves-refused (λ h. leaves-refused) leaves-refused
      (file_of (opens_of t)) q.fid q.shared (ranges_of q area q.unlocks q.locks) (ranges_of q area 0 q.unlocks) (locks_of t)
      (λ left list _ _ _ _. leaves-done full))
      (λ _. leaves-refused)

  locking-leaves : (f : LockingFields) (area : List ℕ) → Leaves (do_locking c t memory f area)
  unfolding do_locking
  locking-leaves f area =
      open-case Leaves c t f.fid _ leaves-refused leaves-refused leaves-refused
      (λ k e. cond-case Leaves (served_type f.kind) _ (refused LockType) (λ _. request-leaves (request_of c f) area) (λ _. leaves-refused))

  read-leaves : (f : ReadFields) → Leaves (do_read c t memory f)
  unfolding do_read
  read-leaves f =
      open-case Leaves c t f.fid _ leaves-refused leaves-refused leaves-refused
      (λ k _. cond-case Leaves (eqb (get_or (opens_of t) k no_open).access 1) (refused NoAccess) _ (λ _. leaves-refused)
      (λ _. barred-case Leaves t _ _ (λ h. leaves-refused) (λ _. leaves-done full)))

  write-leaves : (f : WriteFields) (bytes : List ℕ) → Good t → length bytes ≤ f.count → Leaves (do_write c t memory f bytes)
  unfolding do_write
  write-leaves f bytes g few =
      writing-case Leaves c t f.fid _ (ends_past f.offset f.count) _ leaves-refused leaves-refused leaves-refused leaves-refused (λ h. leaves-refused) leaves-refused
      (λ k o e. leaves-done (length-written t memory (get_or (opens_of t) k no_open).file f.offset f.count bytes full
      (open-file c t f.fid k o (sound-says t g.sound)) (size-most t (get_or (opens_of t) k no_open).file (sound-says t g.sound)) e few))

  set-size-leaves : (f : WriteFields) → Good t → Leaves (do_set_size c t memory f)
  unfolding do_set_size
  set-size-leaves f g =
      writing-case Leaves c t f.fid _ (ltb 4096 f.offset) _ leaves-refused leaves-refused leaves-refused leaves-refused (λ h. leaves-refused) leaves-refused
      (λ k o e. leaves-done (length-grown t memory (get_or (opens_of t) k no_open).file f.offset full (open-file c t f.fid k o (sound-says t g.sound))
      (size-most t (get_or (opens_of t) k no_open).file (sound-says t g.sound)) (ltb-false 4096 f.offset e)))

  core-write-leaves : (f : WriteFields) (bytes : List ℕ) → Good t → length bytes ≤ f.count → Leaves (do_core_write c t memory f bytes)
  unfolding do_core_write
  core-write-leaves f bytes g few = cond-case Leaves (eqb f.count 0) _ _ (λ _. set-size-leaves f g) (λ _. core-leaves (write-leaves f bytes g few))

  range-leaves : (f : RangeFields) (unlocks locks : ℕ) → Leaves (do_range c t memory f unlocks locks)
  unfolding do_range
  range-leaves f unlocks locks = core-leaves (locking-leaves (one_range f unlocks locks) _)

  open-leaves : (f : OpenFields) (name : List ℕ) → Leaves (do_open c t memory f name)
  open-leaves f name =
      opening-case Leaves c t memory f name leaves-refused leaves-refused leaves-refused leaves-refused leaves-refused leaves-refused leaves-refused leaves-refused
      (λ k _. leaves-done full)

-- a write's data is no longer than announced
length-data : (s : List ℕ) (b : Block) → length (data_of s b) ≤ data_length s b.at
unfolding data_of
length-data s b = rw (length-take (data_length s b.at) (drop (data_offset s b.at) s)) (omega arith)

length-area : (s : List ℕ) (b : Block) → length (area_of s b) ≤ byte_count s b.at
unfolding area_of
length-area s b = rw (length-take (byte_count s b.at) (drop (byte_area s b.at) s)) (omega arith)

-- a block of a reading
block-leaves : {s : List ℕ} {at command : ℕ} (c : Caller) (t : Tables) (memory : List ℕ) → length memory ≡ 65536 → IsBlock s at command → Good t → (area bytes : List ℕ)
    → length area ≤ byte_count s at → length bytes ≤ data_length s at → (just : ℕ) → Leaves (perform c t memory (body_meant just (body_at s command at)) area bytes)
unfolding perform body_at body_meant
block-leaves c t memory full (locking-10 p h) g area bytes long few just = locking-leaves c t memory full _ area
block-leaves c t memory full (locking-20 p h) g area bytes long few just = locking-leaves c t memory full _ area
block-leaves c t memory full (read-10 h) g area bytes long few just = read-leaves c t memory full _
block-leaves c t memory full (read-12 h) g area bytes long few just = read-leaves c t memory full _
block-leaves c t memory full (write-12 h) g area bytes long few just = write-leaves c t memory full _ bytes g few
block-leaves c t memory full (write-14 h) g area bytes long few just = write-leaves c t memory full _ bytes g few
block-leaves c t memory full (close h) g area bytes long few just = open-case Leaves c t _ _ leaves-refused leaves-refused leaves-refused (λ k _. leaves-done full)
block-leaves c t memory full (logoff h) g area bytes long few just = session-case Leaves c t _ leaves-refused (λ _. leaves-done full)
block-leaves c t memory full (tree-disconnect h) g area bytes long few just = tree-case Leaves c t _ leaves-refused leaves-refused (leaves-done full)
block-leaves c t memory full (process-exit h) g area bytes long few just = session-case Leaves c t _ leaves-refused (λ _. leaves-done full)
block-leaves c t memory full (core-read h) g area bytes long few just = core-leaves (read-leaves c t memory full _)
block-leaves c t memory full (core-write h) g area bytes long few just = core-write-leaves c t memory full _ _ g (rw (length-drop 3 area) (omega arith))
block-leaves c t memory full (lock-byte-range h) g area bytes long few just = range-leaves c t memory full _ 0 1
block-leaves c t memory full (unlock-byte-range h) g area bytes long few just = range-leaves c t memory full _ 1 0
block-leaves c t memory full (open-15 h) g area bytes long few just = open-leaves c t memory full _ _

after-leaves : (d : Given) → Leaves d → Keeps d → (bs : List Block) (place : ℕ) (t : Tables) (memory : List ℕ) (rest : ℕ → ℕ → Tables → List ℕ → Ran) → length memory ≡ 65536
    → ((j p : ℕ) (u : Tables) (m : List ℕ) → Good u → length m ≡ 65536 → length (rest j p u m).memory ≡ 65536) → length (after_given d bs place t memory rest).memory ≡ 65536
unfolding after_given after
after-leaves (refused why) l k bs place t memory rest full f = full
after-leaves (done u m said) l k bs place t memory rest full f = f _ _ u m (keeps-good k) (leaves-size l)

run-leaves : {s : List ℕ} {command at : ℕ} {bs : List Block} (c : Caller) → Chained s command at bs → (just place : ℕ) (t : Tables) (memory : List ℕ) → Good t → length memory ≡ 65536
    → length (run c s just bs place t memory).memory ≡ 65536
unfolding run block_at
run-leaves {s} c (chained-end {command} {at} h l) just place t memory g full =
    after-leaves _ (block-leaves c t memory full h g _ _ (length-area s (block_at s command at _)) (length-data s (block_at s command at _)) just) (perform-keeps t g c memory (body_meant just (body_at s command at)) _ _) [] place t memory
    (λ j p u m. run c s j [] p u m) full (λ j p u m _ e. e)
run-leaves {s} c (chained_more {command} {at} {rest = rest} h l r) just place t memory g full =
    after-leaves _ (block-leaves c t memory full h g _ _ (length-area s (block_at s command at _)) (length-data s (block_at s command at _)) just) (perform-keeps t g c memory (body_meant just (body_at s command at)) _ _) rest place t memory
    (λ j p u m. run c s j rest p u m) full (λ j p u m k e. run-leaves c r j p u m k e)

chain-leaves : (c : Caller) (s : List ℕ) (o : Option (List Block)) → blocks s ≡ o → (t : Tables) (memory : List ℕ) → Good t → length memory ≡ 65536
    → length (run_chain c s o t memory).memory ≡ 65536
unfolding run_chain only_status blocks
chain-leaves c s None e t memory g full = full
chain-leaves c s (Some bs) e t memory g full = run-leaves c (read-chained s (header_command s) FIRST bs e) NOBODY FIRST t memory g full

-- "file memory of 65,536 bytes": a message leaves one of that length
pub answered-memory : (connection : ℕ) (s : List ℕ) (t : Tables) (memory : List ℕ) → Good t → length memory ≡ 65536
    → length (answered connection s t memory).memory ≡ 65536
unfolding answered only_status
answered-memory connection s t memory g full =
    cond-case (λ (r : Ran). length r.memory ≡ 65536) (served (header_command s)) (run_chain (caller_of connection s) s (blocks s) t memory)
    (only_status (forms_of NotServed) t memory) (λ _. chain-leaves (caller_of connection s) s (blocks s) refl t memory g full) (λ _. full)

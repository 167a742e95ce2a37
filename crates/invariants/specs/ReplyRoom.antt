-- "reply room under 12,292 bytes" (document 01, "What a call returns"): that room suffices for every reply. No reply block but READ's is longer
-- than its request block; READ_ANDX's is longer by at most 4 + 4,096, and only CLOSE follows it, the core READ's by at most 3 + 4,096, and nothing follows it.
-- Assumes nothing.
use Rattle.std.specs.Prelude.{◌≡◌, refl, ℕ, min, ◌+◌, ◌-◌, ◌*◌, ◌≤◌, Bool, cond, List, [], ◌∷◌, take, drop, get_or, ltb, eqb, Option, None, Some, None as End}
use native.Mathlib.Omega.{arith}
use Rattle.std.proofs.Math.Bool.{true, false}
use Rattle.std.proofs.Math.ListN.{length}
use Rattle.std.proofs.Common.{length-append, length-take, length-drop}
use Rattle.records.specs.declared.Tables.{Tables}
use Rattle.records.specs.Empty.{no_open}
use Rattle.records.specs.Held.{opens_of, locks_of}
use Rattle.locks.specs.Wire.{range_size}
use Rattle.locks.specs.Request.{ranges_of, Result, refused as refused_by, settle, request, locking}
use Rattle.locks.specs.declared.types.Request.{Request}
use Rattle.locks.specs.declared.types.LockRefusal.TheVariants.{Malformed}
use Rattle.soundness.specs.File.{file_of}
use Rattle.invariants.specs.SoundParts.{sound-says}
use Rattle.chain.specs.Layout.{CLOSE, READ, CORE-READ, header_command, FIRST, block_end, andx_command}
use Rattle.chain.specs.Grammar.{IsBlock, locking-10, locking-20, read-10, read-12, write-12, write-14, close, logoff, tree-disconnect, process-exit, core-read, core-write, lock-byte-range, unlock-byte-range, open-15, MayFollow, locking-read, locking-write, locking-core-read, locking-core-write, read-close, write-write, write_read, write-close, open-read}
use Rattle.chain.specs.Chain.{blocks}
use Rattle.chain.specs.declared.block.LockingFields.{LockingFields}
use Rattle.chain.specs.declared.block.ReadFields.{ReadFields}
use Rattle.chain.specs.declared.block.WriteFields.{WriteFields}
use Rattle.chain.specs.declared.block.RangeFields.{RangeFields}
use Rattle.chain.specs.declared.block.OpenFields.{OpenFields}
use Rattle.chain.specs.declared.block.Block.{Block}
use Rattle.chain.specs.Next.{Next, Follow, same-command}
use Rattle.invariants.specs.BlockParse.{body_at, block_at, block_size, behind, block_inside, Linked, link-plain, link-end, link-next}
use Rattle.invariants.specs.Chained.{Chained, chained-end, chained_more, read-chained}
use Rattle.message.specs.Caller.{caller_of}
use Rattle.message.specs.declared.caller.Caller.{Caller}
use Rattle.message.specs.Refusal.{forms_of}
use Rattle.message.specs.Contents.{size_of, contents, read_bytes}
use Rattle.message.specs.Command.{Said, locked, read, wrote, Given, refused, done, served_type, request_of, locking_end, locking_after, do_locking, do_read, do_write, ends_past, core_said, as_core, one_range, do_range, do_set_size, do_core_write, opened_said, do_open, perform}
use Rattle.message.specs.JustOpened.{NOBODY, opened_by, body_meant}
use Rattle.message.specs.Reply.{reply_header, reply_block, refused_block, reply_size}
use Rattle.message.specs.Message.{Ran, after, link_to, after_given, run, served, only_status, run_chain, answered, reply_of}
use Rattle.message.specs.declared.refusal.Refusal.{Refusal}
use Rattle.message.specs.declared.refusal.Refusal.TheVariants.{NotServed, NoAccess, LockType}
use Rattle.invariants.specs.GivenCases.{cond-case, request-case, session-case, tree-case, open-case, barred-case, writing-case, opening-case}
use Rattle.invariants.specs.ReplySize.{length-block, length-header}
use Rattle.invariants.specs.Sound.{Good, Keeps, keeps-good, perform-keeps, size-most}

-- a command refused, or done with a reply block of at most that many bytes, by that measure of what is said
data Says (size : Said → ℕ) (n : ℕ) : Given → Type 0 where
  says-refused : {why : Refusal} → Says size n (refused why)
  says-done : {t : Tables} {memory : List ℕ} {said : Said} → size said ≤ n → Says size n (done t memory said)

says-size : {size : Said → ℕ} {n : ℕ} {t : Tables} {memory : List ℕ} {said : Said} → Says size n (done t memory said) → size said ≤ n
says-size (says-done h) = h

-- a core command says what its counterpart says, in its own block
core_size : Said → ℕ
core_size said = reply_size (core_said said)

core-says : {n : ℕ} {d : Given} → Says core_size n d → Says reply_size n (as_core d)
unfolding as_core core_size
core-says says-refused = says-refused
core-says (says-done h) = says-done h

-- "the file's bytes in the range below its size": no more than its size
pub length-read : (t : Tables) (memory : List ℕ) (file offset most : ℕ) → length (read_bytes t memory file offset most) ≤ size_of t file
unfolding read_bytes contents
length-read t memory file offset most =
    let a : length (take (size_of t file) (drop (file * 4096) memory)) ≡ min (size_of t file) (length (drop (file * 4096) memory)) =
    length-take (size_of t file) (drop (file * 4096) memory) in
    rw (length-take most (drop offset (take (size_of t file) (drop (file * 4096) memory))), length-drop offset (take (size_of t file) (drop (file * 4096) memory)), a)
    (omega arith)

module _ (size : Said → ℕ) (n : ℕ) (c : Caller) (t : Tables) (memory : List ℕ) where
  request-says : (q : Request) (area : List ℕ) → size locked ≤ n → Says size n (locking_after t memory (locking (file_of (opens_of t)) t.locks t.nlocks q area))
  unfolding locking settle locking_after locking_end
  request-says q area h =
      cond-case (λ (r : Result). Says size n (locking_after t memory (settle t.locks t.nlocks r))) (eqb (length area) ((q.unlocks + q.locks) * range_size q.large))
      (request (file_of (opens_of t)) q.fid q.shared (ranges_of q area 0 q.unlocks) (ranges_of q area q.unlocks q.locks) (locks_of t))
      (refused_by Malformed)
      (λ _. request-case (λ (r : Result). Says size n (locking_after t memory (settle t.locks t.nlocks r))) says-refused says-refused (λ k. says-refused) says-refused
      (file_of (opens_of t)) q.fid q.shared (ranges_of q area q.unlocks q.locks) (ranges_of q area 0 q.unlocks) (locks_of t)
      (λ left list _ _ _ _. says-done h))
      (λ _. says-refused)

  locking-says : (f : LockingFields) (area : List ℕ) → size locked ≤ n → Says size n (do_locking c t memory f area)
  unfolding do_locking
  locking-says f area h =
      open-case (Says size n) c t f.fid _ says-refused says-refused says-refused
      (λ k e. cond-case (Says size n) (served_type f.kind) _ (refused LockType) (λ _. request-says (request_of c f) area h) (λ _. says-refused))

  read-says : (f : ReadFields) (front : ℕ) → ((bytes : List ℕ) → size (read bytes) ≡ front + length bytes) → Good t → front + 4096 ≤ n → Says size n (do_read c t memory f)
  unfolding do_read
  read-says f front is g h =
      open-case (Says size n) c t f.fid _ says-refused says-refused says-refused
      (λ k _. cond-case (Says size n) (eqb (get_or (opens_of t) k no_open).access 1) (refused NoAccess) _ (λ _. says-refused)
      (λ _. barred-case (Says size n) t _ _ (λ j. says-refused)
      (λ _. let a : length (read_bytes t memory (get_or (opens_of t) k no_open).file f.offset f.max) ≤ size_of t (get_or (opens_of t) k no_open).file =
      length-read t memory (get_or (opens_of t) k no_open).file f.offset f.max in
      let b : size_of t (get_or (opens_of t) k no_open).file ≤ 4096 = size-most t (get_or (opens_of t) k no_open).file (sound-says t g.sound) in
      let e = is (read_bytes t memory (get_or (opens_of t) k no_open).file f.offset f.max) in
      let l : size (read (read_bytes t memory (get_or (opens_of t) k no_open).file f.offset f.max)) ≤ n = omega arith in
      says-done l)))

  write-says : (f : WriteFields) (bytes : List ℕ) → size (wrote f.count) ≤ n → Says size n (do_write c t memory f bytes)
  unfolding do_write
  write-says f bytes h =
      writing-case (Says size n) c t f.fid _ (ends_past f.offset f.count) _ says-refused says-refused says-refused says-refused (λ j. says-refused) says-refused
      (λ k _ _. says-done h)

-- the core commands
module _ (n : ℕ) (c : Caller) (t : Tables) (memory : List ℕ) where
  core-read-says : (f : ReadFields) → Good t → 4112 ≤ n → Says reply_size n (as_core (do_read c t memory f))
  unfolding core_size core_said reply_size
  core-read-says f g h = core-says (read-says core_size n c t memory f 16 (λ bytes. refl) g h)

  core-write-says : (f : WriteFields) (bytes : List ℕ) → 5 ≤ n → Says reply_size n (do_core_write c t memory f bytes)
  unfolding do_core_write do_set_size core_size core_said reply_size
  core-write-says f bytes h =
      cond-case (Says reply_size n) (eqb f.count 0) _ _
      (λ _. writing-case (Says reply_size n) c t f.fid _ (ltb 4096 f.offset) _ says-refused says-refused says-refused says-refused (λ j. says-refused) says-refused
      (λ k _ _. says-done h))
      (λ _. core-says (write-says core_size n c t memory f bytes h))

  range-says : (f : RangeFields) (unlocks locks : ℕ) → 3 ≤ n → Says reply_size n (do_range c t memory f unlocks locks)
  unfolding do_range core_size core_said reply_size
  range-says f unlocks locks h = core-says (locking-says core_size n c t memory (one_range f unlocks locks) _ h)

  -- an OPEN_ANDX's reply has 33 bytes, whether it is full or not
  opened-says : (full : Bool) (u : Tables) (fid size access : ℕ) → 33 ≤ n → Says reply_size n (done u memory (opened_said full fid size access))
  unfolding opened_said reply_size
  opened-says true u fid size access h = says-done h
  opened-says false u fid size access h = says-done h

  open-says : (f : OpenFields) (name : List ℕ) → 33 ≤ n → Says reply_size n (do_open c t memory f name)
  open-says f name h =
      opening-case (Says reply_size n) c t memory f name says-refused says-refused says-refused says-refused says-refused says-refused says-refused says-refused
      (λ k _. opened-says f.full _ _ _ _ h)

-- by how much a command's reply block may be longer than its request block, and a chain's from that command on
unfoldable extra : ℕ → ℕ
extra command = cond (eqb command READ) 4100 (cond (eqb command CORE-READ) 4099 0)

unfoldable slack : ℕ → ℕ
slack command = cond (eqb command CLOSE) 0 4100

-- one block
block-says : {s : List ℕ} {at command : ℕ} (c : Caller) (t : Tables) (memory : List ℕ) → IsBlock s at command → Good t → (area bytes : List ℕ)
    → (just : ℕ) → Says reply_size (block_size s at + extra command) (perform c t memory (body_meant just (body_at s command at)) area bytes)
unfolding perform body_at body_meant extra reply_size
block-says c t memory (locking-10 p h) g area bytes just = locking-says reply_size _ c t memory _ area (omega arith)
block-says c t memory (locking-20 p h) g area bytes just = locking-says reply_size _ c t memory _ area (omega arith)
block-says c t memory (read-10 h) g area bytes just = read-says reply_size _ c t memory _ 27 (λ bytes. refl) g (omega arith)
block-says c t memory (read-12 h) g area bytes just = read-says reply_size _ c t memory _ 27 (λ bytes. refl) g (omega arith)
block-says c t memory (write-12 h) g area bytes just = write-says reply_size _ c t memory _ bytes (omega arith)
block-says c t memory (write-14 h) g area bytes just = write-says reply_size _ c t memory _ bytes (omega arith)
block-says {s} {at} c t memory (close h) g area bytes just =
    let l : 3 ≤ block_size s at + 0 = omega arith in
    open-case (Says reply_size (block_size s at + 0)) c t _ _ says-refused says-refused says-refused (λ k _. says-done l)
block-says {s} {at} c t memory (logoff h) g area bytes just =
    let l : 7 ≤ block_size s at + 0 = omega arith in session-case (Says reply_size (block_size s at + 0)) c t _ says-refused (λ _. says-done l)
block-says {s} {at} c t memory (tree-disconnect h) g area bytes just =
    let l : 3 ≤ block_size s at + 0 = omega arith in tree-case (Says reply_size (block_size s at + 0)) c t _ says-refused says-refused (says-done l)
block-says {s} {at} c t memory (process-exit h) g area bytes just =
    let l : 3 ≤ block_size s at + 0 = omega arith in session-case (Says reply_size (block_size s at + 0)) c t _ says-refused (λ _. says-done l)
block-says c t memory (core-read h) g area bytes just = core-read-says _ c t memory _ g (omega arith)
block-says c t memory (core-write h) g area bytes just = core-write-says _ c t memory _ _ (omega arith)
block-says c t memory (lock-byte-range h) g area bytes just = range-says _ c t memory _ 0 1 (omega arith)
block-says c t memory (unlock-byte-range h) g area bytes just = range-says _ c t memory _ 1 0 (omega arith)
block-says c t memory (open-15 h) g area bytes just = open-says _ c t memory _ _ (omega arith)

-- the blocks after it
after-says : (n more : ℕ) (d : Given) → Says reply_size n d → Keeps d → (bs : List Block) (place : ℕ) (t : Tables) (memory : List ℕ) (rest : ℕ → ℕ → Tables → List ℕ → Ran) → 3 ≤ n
    → ((j p : ℕ) (u : Tables) (m : List ℕ) → Good u → length (rest j p u m).blocks ≤ more) → length (after_given d bs place t memory rest).blocks ≤ n + more
unfolding after_given after refused_block
after-says n more (refused why) says keeps bs place t memory rest h f = omega arith
after-says n more (done u m said) says keeps bs place t memory rest h f =
    let a : reply_size said ≤ n = says-size says in
    let b : length (rest (opened_by said) (place + reply_size said) u m).blocks ≤ more = f (opened_by said) (place + reply_size said) u m (keeps-good keeps) in
    let e : length (reply_block said place (link_to bs (place + reply_size said))) ≡ reply_size said = length-block said place (link_to bs (place + reply_size said)) in
    rw (length-append (reply_block said place (link_to bs (place + reply_size said))) (rest (opened_by said) (place + reply_size said) u m).blocks) (omega arith)

-- what follows a block
follows : {s : List ℕ} {command at : ℕ} {nx : Next} (c a : ℕ) → Linked s command at nx → nx ≡ Follow c a → MayFollow command c
follows c a (link-plain p) e = let z : ◌≡◌ {A = ℕ} 0 1 = cc in absurd (omega arith)
follows c a (link-end n f) e = let z : ◌≡◌ {A = ℕ} 0 1 = cc in absurd (omega arith)
follows {s} {command} {at} c a (link-next f g) e = let z : andx_command s at ≡ c = same-command e in rw (← z) f

extra-slack : {s : List ℕ} {at command : ℕ} → IsBlock s at command → extra command ≤ slack command
unfolding extra slack
extra-slack (locking-10 p h) = omega arith
extra-slack (locking-20 p h) = omega arith
extra-slack (read-10 h) = omega arith
extra-slack (read-12 h) = omega arith
extra-slack (write-12 h) = omega arith
extra-slack (write-14 h) = omega arith
extra-slack (close h) = omega arith
extra-slack (logoff h) = omega arith
extra-slack (tree-disconnect h) = omega arith
extra-slack (process-exit h) = omega arith
extra-slack (core-read h) = omega arith
extra-slack (core-write h) = omega arith
extra-slack (lock-byte-range h) = omega arith
extra-slack (unlock-byte-range h) = omega arith
extra-slack (open-15 h) = omega arith

follow-slack : {command next : ℕ} → MayFollow command next → extra command + slack next ≤ slack command
unfolding extra slack
follow-slack locking-read = omega arith
follow-slack locking-write = omega arith
follow-slack locking-core-read = omega arith
follow-slack locking-core-write = omega arith
follow-slack read-close = omega arith
follow-slack write-write = omega arith
follow-slack write_read = omega arith
follow-slack write-close = omega arith
follow-slack open-read = omega arith

-- the reply blocks of a reading, against its request's bytes from there on
run_room : {s : List ℕ} {command at : ℕ} {bs : List Block} (c : Caller) → Chained s command at bs → (just place : ℕ) (t : Tables) (memory : List ℕ) → Good t
    → length (run c s just bs place t memory).blocks ≤ length s - at + slack command
unfolding run block_at
run_room {s} c (chained-end {command} {at} h l) just place t memory g =
    let i : block_end s at ≤ length s = block_inside h in
    let e : extra command ≤ slack command = extra-slack h in
    let r : length (run c s just (block_at s command at End ∷ []) place t memory).blocks ≤ block_size s at + extra command + 0 =
    after-says (block_size s at + extra command) 0 _ (block-says c t memory h g _ _ just) (perform-keeps t g c memory (body_meant just (body_at s command at)) _ _) [] place t memory
    (λ j p u m. run c s j [] p u m) (omega arith) (λ j p u m k. omega arith) in
    omega arith
run_room {s} c (chained_more {command} {at} {c = n} {a} {rest} h l b) just place t memory g =
    let i : block_end s at ≤ length s = block_inside h in
    let f : block_end s at ≤ a = behind n a l refl in
    let e : extra command + slack n ≤ slack command = follow-slack (follows n a l refl) in
    let r : length (run c s just (block_at s command at (Follow n a) ∷ rest) place t memory).blocks ≤ block_size s at + extra command + (length s - a + slack n) =
    after-says (block_size s at + extra command) (length s - a + slack n) _ (block-says c t memory h g _ _ just) (perform-keeps t g c memory (body_meant just (body_at s command at)) _ _) rest place t memory
    (λ j p u m. run c s j rest p u m) (omega arith) (λ j p u m k. run_room c b j p u m k) in
    omega arith

slack-most : (command : ℕ) → slack command ≤ 4100
unfolding slack
slack-most command = cond-case (λ (n : ℕ). n ≤ 4100) (eqb command CLOSE) 0 4100 (λ _. omega arith) (λ _. omega arith)

-- the reply blocks of any message that is answered
pub chain-room : (c : Caller) (s : List ℕ) (o : Option (List Block)) → blocks s ≡ o → (t : Tables) (memory : List ℕ) → Good t
    → length (run_chain c s o t memory).blocks ≤ length s - 32 + 4100
unfolding run_chain only_status refused_block blocks
chain-room c s None e t memory g = omega arith
chain-room c s (Some bs) e t memory g =
    omega (arith, run_room c (read-chained s (header_command s) FIRST bs e) NOBODY FIRST t memory g, slack-most (header_command s))

-- "reply room 12,292": every reply to a message that is not dropped fits
pub reply-room : (connection : ℕ) (s : List ℕ) (t : Tables) (memory : List ℕ) → Good t → 35 ≤ length s → length s ≤ 8192
    → length (reply_of s (answered connection s t memory)) ≤ 12292
unfolding reply_of answered only_status refused_block
reply-room connection s t memory g low small =
    let a : length (reply_header s (answered connection s t memory).forms) ≡ 32 = length-header s (answered connection s t memory).forms (omega arith) in
    let b : length (answered connection s t memory).blocks ≤ length s - 32 + 4100 =
    cond-case (λ (r : Ran). length r.blocks ≤ length s - 32 + 4100) (served (header_command s)) (run_chain (caller_of connection s) s (blocks s) t memory)
    (only_status (forms_of NotServed) t memory) (λ _. chain-room (caller_of connection s) s (blocks s) refl t memory g) (λ _. omega arith) in
    rw (length-append (reply_header s (answered connection s t memory).forms) (answered connection s t memory).blocks) (omega arith)

-- The FID that a reply returns (document 02, CR 6: "for 0xFFFF, and only then, demand 3's separate READ carries the FID returned"), read off its bytes, and that it is what
-- 0xFFFF means in the chain. Assumes nothing.
use Rattle.std.specs.Prelude.{◌≡◌, refl, ℕ, ◌+◌, ◌*◌, ◌/◌, ◌%◌, ◌≤◌, ◌<◌, Bool, cond, List, [], ◌++◌, map, length, get_or, leb, ltb, eqb, None as none}
use Rattle.std.proofs.Common.{sym, ap, ◌∙◌, arith, length-take, get_or-append-add, leb-false}
use Rattle.std.proofs.Math.Bool.{true, false}
use Rattle.std.proofs.lemmas.List.{length-map}
use Rattle.wire.specs.LittleEndian.{byte_at, le16_at}
use Rattle.records.specs.Empty.{no_open}
use Rattle.records.specs.Held.{opens_of, locks_of}
use Rattle.records.specs.declared.Tables.{Tables}
use Rattle.numbers.specs.Number.{smallest_free}
use Rattle.numbers.specs.Column.{fid_of}
use Rattle.locks.specs.Wire.{range_size}
use Rattle.locks.specs.Request.{ranges_of, Result, refused as refused_by, settle, request, locking}
use Rattle.locks.specs.declared.types.Request.{Request}
use Rattle.locks.specs.declared.types.LockRefusal.TheVariants.{Malformed}
use Rattle.soundness.specs.File.{file_of}
use Rattle.chain.specs.Layout.{OPEN}
use Rattle.chain.specs.Grammar.{IsBlock, locking-10, locking-20, read-10, read-12, write-12, write-14, close, logoff, tree-disconnect, process-exit, core-read, core-write, lock-byte-range, unlock-byte-range, open-15}
use Rattle.invariants.specs.BlockParse.{body_at}
use Rattle.chain.specs.declared.block.LockingFields.{LockingFields}
use Rattle.chain.specs.declared.block.ReadFields.{ReadFields}
use Rattle.chain.specs.declared.block.WriteFields.{WriteFields}
use Rattle.chain.specs.declared.block.OpenFields.{OpenFields}
use Rattle.chain.specs.declared.block.Body.{Body}
use Rattle.chain.specs.declared.block.Body.TheVariants.{Locking as LockingBody, Read as ReadBody, Write as WriteBody, Close, Logoff, TreeDisconnect, ProcessExit, CoreRead as CoreReadBody, CoreWrite as CoreWriteBody, LockByteRange, UnlockByteRange, Open as OpenBody}
use Rattle.message.specs.declared.refusal.Forms.{Forms}
use Rattle.message.specs.declared.caller.Caller.{Caller}
use Rattle.message.specs.declared.refusal.Refusal.{Refusal}
use Rattle.message.specs.declared.refusal.Refusal.TheVariants.{NoAccess, LockType}
use Rattle.message.specs.Command.{Said, locked, logged_off, read, wrote, plain, core_read, core_wrote, opened, Given, refused, done, served_type, request_of, locking_end, locking_after, do_locking, do_read, ends_past, do_write, core_said, as_core, one_range, do_range, do_set_size, do_core_write, open_by, opened_said, do_open, perform}
use Rattle.message.specs.JustOpened.{NOBODY, opened_by, body_meant}
use Rattle.message.specs.Reply.{two, four, reply_header, link_words, reply_block, refused_block}
use Rattle.message.specs.Message.{Ran, reply_of}
use Rattle.invariants.specs.GivenCases.{cond-case, request-case, session-case, tree-case, open-case, barred-case, writing-case, opening-case}
use Rattle.invariants.specs.Number.{smallest-high}
use Rattle.invariants.specs.ReplySize.{length-header}

-- the FID in the words of an OPEN_ANDX's reply, whose block alone has 15 of them; of any other reply 0xFFFF
unfoldable pub returned_fid : List ℕ → ℕ
returned_fid reply = cond (eqb (byte_at reply 32) 15) (le16_at reply 37) NOBODY

-- a number in two bytes, read back
pub two_back : (n : ℕ) → n < 65536 → n % 256 + 256 * (n / 256 % 256) ≡ n
two_back n h = omega arith

-- by its block
unfoldable fid_in : List ℕ → ℕ
fid_in block = cond (eqb (byte_at block 0) 15) (le16_at block 5) NOBODY

fid-said : (said : Said) (place : ℕ) → opened_by said < 65536 → fid_in (reply_block said place none ++ []) ≡ opened_by said
unfolding fid_in reply_block link_words two four opened_by le16_at
fid-said locked place h = refl
fid-said logged_off place h = refl
fid-said (read bytes) place h = refl
fid-said (wrote count) place h = refl
fid-said plain place h = refl
fid-said (core_read bytes) place h = refl
fid-said (core_wrote count) place h = refl
fid-said (opened fid size access results) place h = two_back fid h

reply-byte : (message : List ℕ) (why : Forms) (block : List ℕ) → 32 ≤ length message → (k : ℕ) → byte_at (reply_header message why ++ block) (32 + k) ≡ byte_at block k
reply-byte message why block long k =
    ap (λ (n : ℕ). byte_at (reply_header message why ++ block) (n + k)) (sym (length-header message why long))
    ∙ get_or-append-add (reply_header message why) block k 0

pub reply-returned : (message : List ℕ) (r : Ran) (said : Said) (place : ℕ) → 32 ≤ length message → r.blocks ≡ reply_block said place none ++ [] → opened_by said < 65536
    → returned_fid (reply_of message r) ≡ opened_by said
unfolding returned_fid reply_of fid_in le16_at
reply-returned message r said place long e h =
    let b : (k : ℕ) → byte_at (reply_header message r.forms ++ r.blocks) (32 + k) ≡ byte_at r.blocks k = reply-byte message r.forms r.blocks long in
    rw (b 0, b 5, b 6, e) (fid-said said place h)

pub reply-none : (message : List ℕ) (r : Ran) → 32 ≤ length message → r.blocks ≡ refused_block → returned_fid (reply_of message r) ≡ NOBODY
unfolding returned_fid reply_of refused_block
reply-none message r long e = rw (reply-byte message r.forms r.blocks long 0, e)

-- ---- what a command says: OPEN_ANDX alone gives a FID out, and it fits in 16 bits

pub data Silent : Given → Type 0 where
  silent-refused : {why : Refusal} → Silent (refused why)
  silent-done : {t : Tables} {memory : List ℕ} {said : Said} → opened_by said ≡ NOBODY → Silent (done t memory said)

pub data Small : Given → Type 0 where
  small-refused : {why : Refusal} → Small (refused why)
  small-done : {t : Tables} {memory : List ℕ} {said : Said} → opened_by said < 65536 → Small (done t memory said)

pub silent-said : {t : Tables} {memory : List ℕ} {said : Said} → Silent (done t memory said) → opened_by said ≡ NOBODY
silent-said (silent-done h) = h

pub small-said : {t : Tables} {memory : List ℕ} {said : Said} → Small (done t memory said) → opened_by said < 65536
small-said (small-done h) = h

pub silent-small : {d : Given} → Silent d → Small d
silent-small silent-refused = small-refused
silent-small (silent-done {said = said} h) = small-done {said = said} (omega arith)

core-same : (said : Said) → opened_by (core_said said) ≡ opened_by said
unfolding core_said opened_by
core-same locked = refl
core-same logged_off = refl
core-same (read bytes) = refl
core-same (wrote count) = refl
core-same plain = refl
core-same (core_read bytes) = refl
core-same (core_wrote count) = refl
core-same (opened fid size access results) = refl

core-silent : {d : Given} → Silent d → Silent (as_core d)
unfolding as_core
core-silent silent-refused = silent-refused
core-silent (silent-done {said = said} h) = silent-done {said = core_said said} (core-same said ∙ h)

module _ (c : Caller) (t : Tables) (memory : List ℕ) where
  request-silent : (q : Request) (area : List ℕ) → Silent (locking_after t memory (locking (file_of (opens_of t)) t.locks t.nlocks q area))
  unfolding locking settle locking_after locking_end opened_by
  request-silent q area =
      cond-case (λ (r : Result). Silent (locking_after t memory (settle t.locks t.nlocks r))) (eqb (length area) ((q.unlocks + q.locks) * range_size q.large))
      (request (file_of (opens_of t)) q.fid q.shared (ranges_of q area 0 q.unlocks) (ranges_of q area q.unlocks q.locks) (locks_of t))
      (refused_by Malformed)
      (λ _. request-case (λ (r : Result). Silent (locking_after t memory (settle t.locks t.nlocks r))) silent-refused silent-refused (λ k. silent-refused) silent-refused
      (file_of (opens_of t)) q.fid q.shared (ranges_of q area q.unlocks q.locks) (ranges_of q area 0 q.unlocks) (locks_of t)
      (λ left list _ _ _ _. silent-done refl))
      (λ _. silent-refused)

  locking-silent : (f : LockingFields) (area : List ℕ) → Silent (do_locking c t memory f area)
  unfolding do_locking
  locking-silent f area =
      open-case Silent c t f.fid _ silent-refused silent-refused silent-refused
      (λ k e. cond-case Silent (served_type f.kind) _ (refused LockType) (λ _. request-silent (request_of c f) area) (λ _. silent-refused))

  read-silent : (f : ReadFields) → Silent (do_read c t memory f)
  unfolding do_read opened_by
  read-silent f =
      open-case Silent c t f.fid _ silent-refused silent-refused silent-refused
      (λ k _. cond-case Silent (eqb (get_or (opens_of t) k no_open).access 1) (refused NoAccess) _ (λ _. silent-refused)
      (λ _. barred-case Silent t _ _ (λ j. silent-refused) (λ _. silent-done refl)))

  write-silent : (f : WriteFields) (bytes : List ℕ) → Silent (do_write c t memory f bytes)
  unfolding do_write opened_by
  write-silent f bytes =
      writing-case Silent c t f.fid _ (ends_past f.offset f.count) _ silent-refused silent-refused silent-refused silent-refused (λ h. silent-refused) silent-refused
      (λ k _ _. silent-done refl)

  core-write-silent : (f : WriteFields) (bytes : List ℕ) → Silent (do_core_write c t memory f bytes)
  unfolding do_core_write do_set_size opened_by
  core-write-silent f bytes =
      cond-case Silent (eqb f.count 0) _ _
      (λ _. writing-case Silent c t f.fid _ (ltb 4096 f.offset) _ silent-refused silent-refused silent-refused silent-refused (λ h. silent-refused) silent-refused
      (λ k _ _. silent-done refl))
      (λ _. core-silent (write-silent f bytes))

  -- "the smallest free FID": at most 64
  fid-small : leb 64 t.nopens ≡ false → smallest_free (map fid_of (opens_of t)) < 65536
  fid-small e =
      let room : t.nopens < 64 = leb-false 64 t.nopens e in
      let high : smallest_free (map fid_of (opens_of t)) ≤ length (map fid_of (opens_of t)) + 1 = smallest-high (map fid_of (opens_of t)) in
      let long : length (map fid_of (opens_of t)) ≡ length (opens_of t) = length-map (opens_of t) fid_of in
      let few = length-take t.nopens t.opens in
      omega arith

  opened-small : (full : Bool) (u : Tables) (fid size access : ℕ) → fid < 65536 → Small (done u memory (opened_said full fid size access))
  unfolding opened_said opened_by
  opened-small true u fid size access h = small-done h
  opened-small false u fid size access h = small-done h

  open-small : (f : OpenFields) (name : List ℕ) → Small (do_open c t memory f name)
  unfolding open_by
  open-small f name =
      opening-case Small c t memory f name small-refused small-refused small-refused small-refused small-refused small-refused small-refused small-refused
      (λ k p. opened-small f.full _ _ _ _ (fid-small p.room))

  close-silent : (fid : ℕ) (area bytes : List ℕ) → Silent (perform c t memory (Close fid) area bytes)
  unfolding perform opened_by
  close-silent fid area bytes = open-case Silent c t fid _ silent-refused silent-refused silent-refused (λ k _. silent-done refl)

  logoff-silent : (area bytes : List ℕ) → Silent (perform c t memory Logoff area bytes)
  unfolding perform opened_by
  logoff-silent area bytes = session-case Silent c t _ silent-refused (λ _. silent-done refl)

  disconnect-silent : (area bytes : List ℕ) → Silent (perform c t memory TreeDisconnect area bytes)
  unfolding perform opened_by
  disconnect-silent area bytes = tree-case Silent c t _ silent-refused silent-refused (silent-done refl)

  exit-silent : (area bytes : List ℕ) → Silent (perform c t memory ProcessExit area bytes)
  unfolding perform opened_by
  exit-silent area bytes = session-case Silent c t _ silent-refused (λ _. silent-done refl)

  pub perform-small : (b : Body) (area bytes : List ℕ) → Small (perform c t memory b area bytes)
  unfolding perform do_range
  perform-small (LockingBody f) area bytes = silent-small (locking-silent f area)
  perform-small (ReadBody f) area bytes = silent-small (read-silent f)
  perform-small (WriteBody f) area bytes = silent-small (write-silent f bytes)
  perform-small (Close fid) area bytes = silent-small (close-silent fid area bytes)
  perform-small Logoff area bytes = silent-small (logoff-silent area bytes)
  perform-small TreeDisconnect area bytes = silent-small (disconnect-silent area bytes)
  perform-small ProcessExit area bytes = silent-small (exit-silent area bytes)
  perform-small (CoreReadBody f) area bytes = silent-small (core-silent (read-silent f))
  perform-small (CoreWriteBody f) area bytes = silent-small (core-write-silent f _)
  perform-small (LockByteRange f) area bytes = silent-small (core-silent (locking-silent (one_range f 0 1) _))
  perform-small (UnlockByteRange f) area bytes = silent-small (core-silent (locking-silent (one_range f 1 0) _))
  perform-small (OpenBody f) area bytes = open-small f _

  -- of the block with another command
  pub other-silent : {s : List ℕ} {at command : ℕ} → IsBlock s at command → (command ≡ OPEN → ⊥) → (just : ℕ) (area bytes : List ℕ)
      → Silent (perform c t memory (body_meant just (body_at s command at)) area bytes)
  unfolding perform do_range body_at body_meant
  other-silent (locking-10 p h) n just area bytes = locking-silent _ area
  other-silent (locking-20 p h) n just area bytes = locking-silent _ area
  other-silent (read-10 h) n just area bytes = read-silent _
  other-silent (read-12 h) n just area bytes = read-silent _
  other-silent (write-12 h) n just area bytes = write-silent _ bytes
  other-silent (write-14 h) n just area bytes = write-silent _ bytes
  other-silent (close h) n just area bytes = close-silent _ area bytes
  other-silent (logoff h) n just area bytes = logoff-silent area bytes
  other-silent (tree-disconnect h) n just area bytes = disconnect-silent area bytes
  other-silent (process-exit h) n just area bytes = exit-silent area bytes
  other-silent (core-read h) n just area bytes = core-silent (read-silent _)
  other-silent (core-write h) n just area bytes = core-write-silent _ _
  other-silent (lock-byte-range h) n just area bytes = core-silent (locking-silent _ _)
  other-silent (unlock-byte-range h) n just area bytes = core-silent (locking-silent _ _)
  other-silent (open-15 h) n just area bytes = absurd (n refl)

-- "C0000055 for a lock refused, C0000054 for a read or write refused" (document 02, CR 7), by the command refused: LOCKING and LOCK_BYTE_RANGE, and READ and WRITE in all forms, count 0 too
-- (docs/DECISIONS.md, 118). Assumes nothing.
use Rattle.std.specs.Prelude.{◌≡◌, refl, ℕ, ◌+◌, ◌*◌, cond, ◌||◌, List, ◌∷◌, eqb, ltb, length, take, get_or, None as Nobody}
use Rattle.std.proofs.Common.{sym, ap, ◌∙◌}
use Rattle.records.specs.Empty.{no_open}
use Rattle.records.specs.Held.{opens_of}
use Rattle.records.specs.declared.Tables.{Tables}
use Rattle.locks.specs.Wire.{range_size, small_form}
use Rattle.locks.specs.Request.{ranges_of, Result, settle, locking}
use Rattle.locks.specs.declared.types.Holder.{Holder}
use Rattle.soundness.specs.File.{file_of}
use Rattle.chain.specs.Layout.{LOCKING, LOCK_BYTE_RANGE, UNLOCK_BYTE_RANGE}
use Rattle.chain.specs.Grammar.{IsBlock, locking-10, locking-20, read-10, read-12, write-12, write-14, close, logoff, tree-disconnect, process-exit, core-read, core-write, lock-byte-range, unlock-byte-range, open-15, Span, span_at, ReadingFrom, plain_end, andx-end, andx-next}
use Rattle.chain.specs.declared.block.LockingFields.{LockingFields}
use Rattle.chain.specs.declared.block.ReadFields.{ReadFields}
use Rattle.chain.specs.declared.block.WriteFields.{WriteFields}
use Rattle.chain.specs.declared.block.RangeFields.{RangeFields}
use Rattle.invariants.specs.BlockParse.{body_at}
use Rattle.invariants.specs.GivenCases.{cond-case, request-case, session-case, tree-case, open-case, barred-case, writing-case, opening-case}
use Rattle.message.specs.declared.caller.Caller.{Caller}
use Rattle.message.specs.Refusal.{forms_of, nt_of, holder_of}
use Rattle.message.specs.declared.refusal.Refusal.{Refusal}
use Rattle.message.specs.declared.refusal.Refusal.TheVariants.{NotSentence, NoSession, NoTree, NoOpen, NoAccess, LockType, NoSuchLock, PassesEnd, LockNotGranted, FileLockConflict, NoRecord, NoSpace, OpenMode, BadAccess, NoSuchFile, BadShare, NoFids}
use Rattle.message.specs.Command.{Said, Given, refused, done, served_type, request_of, locking_end, locking_after, do_locking, do_read, ends_past, do_write, as_core, one_range, range_by, do_range, do_set_size, do_core_write, perform}
use Rattle.message.specs.JustOpened.{body_meant}
use Rattle.demands.specs.LoneLock.{held_in, Conflicts, nobody-holds}

-- the NTSTATUS of a command's refusal
unfoldable pub nt_in : Given → ℕ
nt_in (refused why) = nt_of why
nt_in (done t memory said) = 0

-- by the command: UNLOCK_BYTE_RANGE, which asks for no lock, is refused for no conflict
unfoldable pub conflict_code : ℕ → ℕ
conflict_code command = cond (eqb command LOCKING || (eqb command LOCK_BYTE_RANGE || eqb command UNLOCK_BYTE_RANGE)) 0xC0000055 0xC0000054

-- a command that is refused for conflict has that NTSTATUS
abbrev pub Coded : ℕ → Given → Type 0
Coded n g = Conflicts g → nt_in g ≡ n

module _ {n : ℕ} where
  -- whatever has no holder
  other-coded : (why : Refusal) → holder_of why ≡ Nobody → Coded n (refused why)
  unfolding held_in
  other-coded why e h = absurd (nobody-holds (sym e ∙ h.1))

  done_coded : (t : Tables) (memory : List ℕ) (said : Said) → Coded n (done t memory said)
  unfolding held_in
  done_coded t memory said h = absurd (nobody-holds h.1)

  core-coded : (g : Given) → Coded n g → Coded n (as_core g)
  unfolding as_core held_in
  core-coded (refused why) c h = c h
  core-coded (done t memory said) c h = absurd (nobody-holds h.1)

not-granted : (h : Holder) → Coded 0xC0000055 (refused (LockNotGranted h))
unfolding nt_in forms_of
not-granted h _ = refl

file-locked : (h : Holder) → Coded 0xC0000054 (refused (FileLockConflict h))
unfolding nt_in forms_of
file-locked h _ = refl

module _ (c : Caller) (t : Tables) (memory : List ℕ) where
  locking-coded : (f : LockingFields) (area : List ℕ) → Coded 0xC0000055 (do_locking c t memory f area)
  unfolding do_locking request_of locking settle locking_after locking_end holder_of
  locking-coded f area =
      let q = request_of c f in
      open-case (Coded 0xC0000055) c t f.fid _ (other-coded NoSession refl) (other-coded NoTree refl) (other-coded NoOpen refl)
      (λ k _. cond-case (Coded 0xC0000055) (served_type f.kind) _ (refused LockType)
      (λ _. cond-case (λ (r : Result). Coded 0xC0000055 (locking_after t memory (settle t.locks t.nlocks r))) (eqb (length area) ((f.unlocks + f.locks) * range_size q.large)) _ _
      (λ _. request-case (λ (r : Result). Coded 0xC0000055 (locking_after t memory (settle t.locks t.nlocks r))) (other-coded NoSuchLock refl) (other-coded PassesEnd refl) not-granted (other-coded NoRecord refl) (file_of (opens_of t))
      q.fid q.shared (ranges_of q area q.unlocks q.locks) (ranges_of q area 0 q.unlocks) (take t.nlocks t.locks) (λ left list _ _ _ _. done_coded _ _ _))
      (λ _. other-coded NotSentence refl))
      (λ _. other-coded LockType refl))

  read-coded : (f : ReadFields) → Coded 0xC0000054 (do_read c t memory f)
  unfolding do_read holder_of
  read-coded f =
      open-case (Coded 0xC0000054) c t f.fid _ (other-coded NoSession refl) (other-coded NoTree refl) (other-coded NoOpen refl)
      (λ k _. cond-case (Coded 0xC0000054) (eqb (get_or (opens_of t) k no_open).access 1) (refused NoAccess) _ (λ _. other-coded NoAccess refl)
      (λ _. barred-case (Coded 0xC0000054) t _ _ file-locked (λ _. done_coded _ _ _)))

  write-coded : (f : WriteFields) (bytes : List ℕ) → Coded 0xC0000054 (do_write c t memory f bytes)
  unfolding do_write holder_of
  write-coded f bytes =
      writing-case (Coded 0xC0000054) c t f.fid _ (ends_past f.offset f.count) _ (other-coded NoSession refl) (other-coded NoTree refl) (other-coded NoOpen refl) (other-coded NoAccess refl) file-locked
      (other-coded NoSpace refl) (λ k _ _. done_coded _ _ _)

  -- "count 0 too"
  core-write-coded : (f : WriteFields) (bytes : List ℕ) → Coded 0xC0000054 (do_core_write c t memory f bytes)
  unfolding do_core_write do_set_size holder_of
  core-write-coded f bytes =
      cond-case (Coded 0xC0000054) (eqb f.count 0) _ _
      (λ _. writing-case (Coded 0xC0000054) c t f.fid _ (ltb 4096 f.offset) _ (other-coded NoSession refl) (other-coded NoTree refl) (other-coded NoOpen refl) (other-coded NoAccess refl) file-locked
      (other-coded NoSpace refl) (λ k _ _. done_coded _ _ _))
      (λ _. core-coded (do_write c t memory f bytes) (write-coded f bytes))

  range-coded : (f : RangeFields) (unlocks locks : ℕ) → Coded 0xC0000055 (do_range c t memory f unlocks locks)
  unfolding do_range
  range-coded f unlocks locks = core-coded _ (locking-coded (one_range f unlocks locks) (small_form (range_by c f)))

-- a block of a reading, by its command
pub block-coded : {s : List ℕ} {at command : ℕ} (c : Caller) (t : Tables) (memory : List ℕ) → IsBlock s at command → (area bytes : List ℕ) (just : ℕ)
    → Coded (conflict_code command) (perform c t memory (body_meant just (body_at s command at)) area bytes)
unfolding perform body_at body_meant conflict_code holder_of
block-coded c t memory (locking-10 p h) area bytes just = locking-coded c t memory _ area
block-coded c t memory (locking-20 p h) area bytes just = locking-coded c t memory _ area
block-coded c t memory (read-10 h) area bytes just = read-coded c t memory _
block-coded c t memory (read-12 h) area bytes just = read-coded c t memory _
block-coded c t memory (write-12 h) area bytes just = write-coded c t memory _ bytes
block-coded c t memory (write-14 h) area bytes just = write-coded c t memory _ bytes
block-coded c t memory (close h) area bytes just = open-case (Coded _) c t _ _ (other-coded NoSession refl) (other-coded NoTree refl) (other-coded NoOpen refl) (λ k _. done_coded _ _ _)
block-coded c t memory (logoff h) area bytes just = session-case (Coded _) c t _ (other-coded NoSession refl) (λ _. done_coded _ _ _)
block-coded c t memory (tree-disconnect h) area bytes just = tree-case (Coded _) c t _ (other-coded NoSession refl) (other-coded NoTree refl) (done_coded _ _ _)
block-coded c t memory (process-exit h) area bytes just = session-case (Coded _) c t _ (other-coded NoSession refl) (λ _. done_coded _ _ _)
block-coded c t memory (core-read h) area bytes just = core-coded _ (read-coded c t memory _)
block-coded c t memory (core-write h) area bytes just = core-write-coded c t memory _ _
block-coded c t memory (lock-byte-range h) area bytes just = range-coded c t memory _ 0 1
block-coded c t memory (unlock-byte-range h) area bytes just = range-coded c t memory _ 1 0
block-coded c t memory (open-15 h) area bytes just =
    opening-case (Coded _) c t memory _ _ (other-coded NoSession refl) (other-coded NoTree refl) (other-coded OpenMode refl) (other-coded BadAccess refl) (other-coded NoSuchFile refl) (other-coded NoAccess refl)
    (other-coded BadShare refl) (other-coded NoFids refl) (λ k _. done_coded _ _ _)

-- the command of a reading's first block is the one that it starts with
pub first-command : {s : List ℕ} {command at : ℕ} {x : Span} {spans : List Span} → ReadingFrom s command at spans → (others : List Span) → spans ≡ x ∷ others → x.command ≡ command
unfolding span_at
first-command {s} {x = x} (plain_end {command} {at} h p) others e = let q : span_at s command at ≡ x = cc in sym (ap (λ (y : Span). y.command) q)
first-command {s} {x = x} (andx-end {command} {at} h a f) others e = let q : span_at s command at ≡ x = cc in sym (ap (λ (y : Span). y.command) q)
first-command {s} {x = x} (andx-next {command} {at} h m g r) others e = let q : span_at s command at ≡ x = cc in sym (ap (λ (y : Span). y.command) q)

-- Which messages are answered as malformed: exactly those that are no sentence.
-- Assumes nothing.
use Rattle.std.specs.Prelude.{◌≡◌, ◌↔◌, ℕ, ◌+◌, ◌*◌, ◌/◌, ◌%◌, ◌≤◌, true, false, List, length, take, drop, get_or, ltb, eqb, Option, None, Some}
use Rattle.std.proofs.Math.Path.{refl}
use Rattle.std.proofs.Common.{sym, ◌∙◌, ap, arith, length-drop, length-take-le, eq-eqb, ne_eqb}
use Rattle.records.specs.declared.Tables.{Tables}
use Rattle.records.specs.Empty.{no_open}
use Rattle.records.specs.Held.{opens_of}
use Rattle.locks.specs.Wire.{range_size, small_form}
use Rattle.locks.specs.Request.{ranges_of, Result, settle, locking}
use Rattle.locks.specs.declared.types.Request.{Request}
use Rattle.locks.specs.declared.types.Holder.{Holder}
use Rattle.soundness.specs.File.{file_of}
use Rattle.chain.specs.Layout.{header_command, FIRST, byte_area, byte_count, block_end, lock_type}
use Rattle.chain.specs.Grammar.{IsBlock, locking-10, locking-20, read-10, read-12, write-12, write-14, close, logoff, tree-disconnect, process-exit, core-read, core-write, lock-byte-range, unlock-byte-range, open-15, Sentence}
use Rattle.chain.specs.Chain.{blocks}
use Rattle.chain.specs.declared.block.LockingFields.{LockingFields}
use Rattle.chain.specs.declared.block.ReadFields.{ReadFields}
use Rattle.chain.specs.declared.block.RangeFields.{RangeFields}
use Rattle.chain.specs.declared.block.WriteFields.{WriteFields}
use Rattle.chain.specs.declared.block.OpenFields.{OpenFields}
use Rattle.chain.specs.declared.block.Block.{Block}
use Rattle.chain.specs.Next.{Next}
use Rattle.invariants.specs.BlockParse.{body_at, block_at, block_inside}
use Rattle.invariants.specs.Chained.{Chained, chained-end, chained_more, read-chained}
use Rattle.readings.specs.ReaderComplete.{no-sentence}
use Rattle.message.specs.Caller.{caller_of}
use Rattle.message.specs.declared.caller.Caller.{Caller}
use Rattle.message.specs.Refusal.{status, forms, forms_of, status_of}
use Rattle.message.specs.declared.refusal.Status.{Status}
use Rattle.message.specs.Command.{Given, Said, refused, done, served_type, request_of, locking_end, locking_after, do_locking, do_read, do_write, ends_past, as_core, one_range, do_range, do_set_size, do_core_write, do_open, perform}
use Rattle.message.specs.JustOpened.{NOBODY, body_meant}
use Rattle.message.specs.Message.{area_of, Ran, after, after_given, run, served, only_status, run_chain, answered}
use Rattle.message.specs.declared.refusal.Refusal.{Refusal}
use Rattle.message.specs.declared.refusal.Refusal.TheVariants.{NoSession, NoTree, NoOpen, NoAccess, LockType, NoSuchLock, PassesEnd, LockNotGranted, FileLockConflict, NoRecord, NoSpace, OpenMode, BadAccess, NoSuchFile, BadShare, NoFids}
use Rattle.invariants.specs.GivenCases.{cond-case, request-case, session-case, tree-case, open-case, barred-case, writing-case, opening-case}

-- a command is done, or refused with another status than 2/1
pub data Other : Given → Type 0 where
  other-refusal : {why : Refusal} → (status_of why ≡ status 2 1 → ⊥) → Other (refused why)
  no-refusal : {t : Tables} {memory : List ℕ} {said : Said} → Other (done t memory said)

-- another code than 1
other-code : (why : Refusal) → ((status_of why).code ≡ 1 → ⊥) → Other (refused why)
unfolding status
other-code why n = other-refusal (λ e. n (ap (λ (x : Status). x.code) e))

-- the refusals that a command can end with
other-session : Other (refused NoSession)
unfolding forms_of status
other-session = other-code NoSession (λ e. omega arith)

other-tree : Other (refused NoTree)
unfolding forms_of status
other-tree = other-code NoTree (λ e. omega arith)

other-open : Other (refused NoOpen)
unfolding forms_of status
other-open = other-code NoOpen (λ e. omega arith)

other-access : Other (refused NoAccess)
unfolding forms_of status
other-access = other-code NoAccess (λ e. omega arith)

other-type : Other (refused LockType)
unfolding forms_of status
other-type = other-code LockType (λ e. omega arith)

other-lock : Other (refused NoSuchLock)
unfolding forms_of status
other-lock = other-code NoSuchLock (λ e. omega arith)

other-past : Other (refused PassesEnd)
unfolding forms_of status
other-past = other-code PassesEnd (λ e. omega arith)

other-granted : (h : Holder) → Other (refused (LockNotGranted h))
unfolding forms_of status
other-granted h = other-code (LockNotGranted h) (λ e. omega arith)

other-conflict : (h : Holder) → Other (refused (FileLockConflict h))
unfolding forms_of status
other-conflict h = other-code (FileLockConflict h) (λ e. omega arith)

other-record : Other (refused NoRecord)
unfolding forms_of status
other-record = other-code NoRecord (λ e. omega arith)

other-space : Other (refused NoSpace)
unfolding forms_of status
other-space = other-code NoSpace (λ e. omega arith)

other-mode : Other (refused OpenMode)
unfolding forms_of status
other-mode = other-code OpenMode (λ e. omega arith)

other-codes : Other (refused BadAccess)
unfolding forms_of status
other-codes = other-code BadAccess (λ e. omega arith)

other-file : Other (refused NoSuchFile)
unfolding forms_of status
other-file = other-code NoSuchFile (λ e. omega arith)

other-share : Other (refused BadShare)
unfolding forms_of status
other-share = other-code BadShare (λ e. omega arith)

other-fids : Other (refused NoFids)
unfolding forms_of status
other-fids = other-code NoFids (λ e. omega arith)

-- a core command is refused as its counterpart
core-other : {g : Given} → Other g → Other (as_core g)
unfolding as_core
core-other (other-refusal n) = other-refusal n
core-other no-refusal = no-refusal

-- a LOCKING request whose area has just the announced ranges is not malformed
locking-other : (t : Tables) (memory : List ℕ) (file : ℕ → ℕ) (q : Request) (area : List ℕ) → length area ≡ (q.unlocks + q.locks) * range_size q.large
    → Other (locking_after t memory (locking file t.locks t.nlocks q area))
unfolding locking settle locking_after locking_end
locking-other t memory file q area e =
    rw (eq-eqb (length area) ((q.unlocks + q.locks) * range_size q.large) e)
    (request-case (λ (r : Result). Other (locking_after t memory (settle t.locks t.nlocks r))) other-lock other-past other-granted other-record file
    q.fid q.shared (ranges_of q area q.unlocks q.locks) (ranges_of q area 0 q.unlocks) (take t.nlocks t.locks)
    (λ left list _ _ _ _. no-refusal))

module _ (c : Caller) (t : Tables) (memory : List ℕ) where
  do-locking-other : (f : LockingFields) (area : List ℕ) → length area ≡ (f.unlocks + f.locks) * range_size (eqb (f.kind / 16 % 2) 1)
      → Other (do_locking c t memory f area)
  unfolding do_locking request_of
  do-locking-other f area e =
      open-case Other c t f.fid _ other-session other-tree other-open
      (λ k _. cond-case Other (served_type f.kind) _ (refused LockType) (λ _. locking-other t memory (file_of (opens_of t)) (request_of c f) area e) (λ _. other-type))

  do-read-other : (f : ReadFields) → Other (do_read c t memory f)
  unfolding do_read
  do-read-other f =
      open-case Other c t f.fid _ other-session other-tree other-open
      (λ k _. cond-case Other (eqb (get_or (opens_of t) k no_open).access 1) (refused NoAccess) _ (λ _. other-access) (λ _. barred-case Other t _ _ other-conflict (λ _. no-refusal)))

  do-write-other : (f : WriteFields) (bytes : List ℕ) → Other (do_write c t memory f bytes)
  unfolding do_write
  do-write-other f bytes =
      writing-case Other c t f.fid _ (ends_past f.offset f.count) _ other-session other-tree other-open other-access other-conflict other-space (λ k _ _. no-refusal)

  -- the core commands
  do-core-write-other : (f : WriteFields) (bytes : List ℕ) → Other (do_core_write c t memory f bytes)
  unfolding do_core_write do_set_size
  do-core-write-other f bytes =
      cond-case Other (eqb f.count 0) _ _
      (λ _. writing-case Other c t f.fid _ (ltb 4096 f.offset) _ other-session other-tree other-open other-access other-conflict other-space (λ k _ _. no-refusal))
      (λ _. core-other (do-write-other f bytes))

  do-range-other : (f : RangeFields) (unlocks locks : ℕ) → (unlocks + locks) * 10 ≡ 10 → Other (do_range c t memory f unlocks locks)
  unfolding do_range one_range small_form range_size
  do-range-other f unlocks locks e = core-other (do-locking-other (one_range f unlocks locks) _ (sym e))

  do-open-other : (f : OpenFields) (name : List ℕ) → Other (do_open c t memory f name)
  do-open-other f name =
      opening-case Other c t memory f name other-session other-tree other-mode other-codes other-file other-access other-share other-fids (λ k _. no-refusal)

-- "The byte area of a block is handed on as a part of the message": it has just the announced length
pub length-area : {s : List ℕ} {at command : ℕ} → IsBlock s at command → (next : Next) → length (area_of s (block_at s command at next)) ≡ byte_count s at
unfolding area_of block_at
length-area {s} {at} h next =
    let i : block_end s at ≤ length s = block_inside h in
    length-take-le (byte_count s at) (drop (byte_area s at) s) (rw (length-drop (byte_area s at) s) (omega arith))

-- a block of a reading is never malformed by itself
block-other : {s : List ℕ} {at command : ℕ} (c : Caller) (t : Tables) (memory : List ℕ) → IsBlock s at command → (area bytes : List ℕ) → length area ≡ byte_count s at
    → (just : ℕ) → Other (perform c t memory (body_meant just (body_at s command at)) area bytes)
unfolding perform body_at body_meant range_size
block-other {s} {at} c t memory (locking-10 p h) area bytes e just =
    do-locking-other c t memory _ area (rw (ne_eqb (lock_type s at / 16 % 2) 1 (omega arith)) (e ∙ h.announced))
block-other {s} {at} c t memory (locking-20 p h) area bytes e just =
    do-locking-other c t memory _ area (rw (eq-eqb (lock_type s at / 16 % 2) 1 p) (e ∙ h.announced))
block-other c t memory (read-10 h) area bytes e just = do-read-other c t memory _
block-other c t memory (read-12 h) area bytes e just = do-read-other c t memory _
block-other c t memory (write-12 h) area bytes e just = do-write-other c t memory _ bytes
block-other c t memory (write-14 h) area bytes e just = do-write-other c t memory _ bytes
block-other c t memory (close h) area bytes e just = open-case Other c t _ _ other-session other-tree other-open (λ k _. no-refusal)
block-other c t memory (logoff h) area bytes e just = session-case Other c t _ other-session (λ _. no-refusal)
block-other c t memory (tree-disconnect h) area bytes e just = tree-case Other c t _ other-session other-tree no-refusal
block-other c t memory (process-exit h) area bytes e just = session-case Other c t _ other-session (λ _. no-refusal)
block-other c t memory (core-read h) area bytes e just = core-other (do-read-other c t memory _)
block-other c t memory (core-write h) area bytes e just = do-core-write-other c t memory _ _
block-other c t memory (lock-byte-range h) area bytes e just = do-range-other c t memory _ 0 1 refl
block-other c t memory (unlock-byte-range h) area bytes e just = do-range-other c t memory _ 1 0 refl
block-other c t memory (open-15 h) area bytes e just = do-open-other c t memory _ _

-- a status other than 2/1, before a chain whose status is another too
after-other : {g : Given} → Other g → (bs : List Block) (place : ℕ) (t : Tables) (memory : List ℕ) (rest : ℕ → ℕ → Tables → List ℕ → Ran)
    → ((j p : ℕ) (t' : Tables) (m : List ℕ) → (rest j p t' m).forms.status ≡ status 2 1 → ⊥) → (after_given g bs place t memory rest).forms.status ≡ status 2 1 → ⊥
unfolding after_given after
after-other (other-refusal n) bs place t memory rest f = n
after-other no-refusal bs place t memory rest f = f _ _ _ _

done-other : status 0 0 ≡ status 2 1 → ⊥
unfolding status
done-other e = let n : ◌≡◌ {A = ℕ} 0 1 = ap (λ (x : Status). x.code) e in omega arith

-- the blocks of a reading never end with 2/1
pub run-other : {s : List ℕ} {command at : ℕ} {bs : List Block} (c : Caller) → Chained s command at bs → (just place : ℕ) (t : Tables) (memory : List ℕ)
    → (run c s just bs place t memory).forms.status ≡ status 2 1 → ⊥
unfolding run block_at
run-other {s} c (chained-end {command} {at} h l) just place t memory =
    after-other (block-other c t memory h _ _ (length-area h _) just) _ place t memory _ (λ _ _ _ _. done-other)
run-other {s} c (chained_more {command} {at} h l r) just place t memory =
    after-other (block-other c t memory h _ _ (length-area h _) just) _ place t memory _ (λ j p u m. run-other c r j p u m)

module _ (c : Caller) (s : List ℕ) (t : Tables) (memory : List ℕ) where
  -- of what the reader answers, only that there is no reading ends with 2/1
  chain-malformed : (o : Option (List Block)) → blocks s ≡ o → (run_chain c s o t memory).forms.status ≡ status 2 1 → o ≡ None
  unfolding run_chain blocks
  chain-malformed None e f = refl
  chain-malformed (Some bs) e f = absurd (run-other c (read-chained s (header_command s) FIRST bs e) NOBODY FIRST t memory f)

  chain-unread : blocks s ≡ None → (run_chain c s (blocks s) t memory).forms.status ≡ status 2 1
  unfolding run_chain only_status forms_of
  chain-unread e = rw e

-- "Answered as malformed: 0, Status 2/1" and "2/1 not a sentence": a message with a served command is so answered exactly if
-- it is no sentence
pub malformed : (connection : ℕ) (s : List ℕ) (t : Tables) (memory : List ℕ) → served (header_command s) ≡ true
    → ((answered connection s t memory).forms.status ≡ status 2 1) ↔ (Sentence s → ⊥)
unfolding answered
malformed connection s t memory e = rw e (
  λ f. (no-sentence s).0 (chain-malformed (caller_of connection s) s t memory (blocks s) refl f),
  λ n. chain-unread (caller_of connection s) s t memory ((no-sentence s).1 n),
)

-- and then "2/22 and 2/1 come before anything is carried out"
pub malformed-nothing : (connection : ℕ) (s : List ℕ) (t : Tables) (memory : List ℕ) → served (header_command s) ≡ true → (Sentence s → ⊥)
    → answered connection s t memory ≡ only_status (forms 2 1 0x00010002) t memory
unfolding answered run_chain forms_of status
malformed-nothing connection s t memory e n = rw (e, (no-sentence s).1 n)

-- "2/22 header command not served", and nothing is carried out
pub not-served : (connection : ℕ) (s : List ℕ) (t : Tables) (memory : List ℕ) → served (header_command s) ≡ false
    → answered connection s t memory ≡ only_status (forms 2 22 0x00160002) t memory
unfolding answered forms_of status
not-served connection s t memory e = rw e

-- "2/22 header command not served" (document 01, "Refusals on the wire"), exactly: of the messages fit to be answered those, and only those, whose header's
-- command is none of the twelve. Assumes nothing.
use Rattle.std.specs.Prelude.{◌≡◌, refl, ℕ, ◌+◌, ◌*◌, true, List, [], ◌∷◌, length, get_or, ltb, eqb, Option, None, Some}
use Rattle.std.proofs.Common.{ap, arith, eqb-true}
use Rattle.records.specs.declared.Tables.{Tables}
use Rattle.records.specs.Empty.{no_open}
use Rattle.records.specs.Held.{opens_of, locks_of}
use Rattle.locks.specs.Wire.{range_size}
use Rattle.locks.specs.Request.{ranges_of, Result, refused as refused_by, settle, request, locking}
use Rattle.locks.specs.declared.types.Request.{Request}
use Rattle.locks.specs.declared.types.LockRefusal.TheVariants.{Malformed}
use Rattle.soundness.specs.File.{file_of}
use Rattle.chain.specs.Layout.{header_command, FIRST}
use Rattle.chain.specs.Chain.{blocks}
use Rattle.chain.specs.declared.block.LockingFields.{LockingFields}
use Rattle.chain.specs.declared.block.ReadFields.{ReadFields}
use Rattle.chain.specs.declared.block.RangeFields.{RangeFields}
use Rattle.chain.specs.declared.block.WriteFields.{WriteFields}
use Rattle.chain.specs.declared.block.OpenFields.{OpenFields}
use Rattle.chain.specs.declared.block.Body.{Body}
use Rattle.chain.specs.declared.block.Body.TheVariants.{Locking as LockingBody, Read as ReadBody, Write as WriteBody, Close, Logoff, TreeDisconnect, ProcessExit, CoreRead as CoreReadBody, CoreWrite as CoreWriteBody, LockByteRange, UnlockByteRange, Open as OpenBody}
use Rattle.chain.specs.declared.block.Block.{Block}
use Rattle.message.specs.Caller.{caller_of}
use Rattle.message.specs.declared.caller.Caller.{Caller}
use Rattle.message.specs.Refusal.{status, forms_of, status_of}
use Rattle.message.specs.declared.refusal.Status.{Status}
use Rattle.message.specs.declared.refusal.Refusal.TheVariants.{NoAccess, LockType}
use Rattle.message.specs.Command.{Given, refused, done, served_type, request_of, locking_end, locking_after, do_locking, do_read, ends_past, do_write, as_core, one_range, do_range, do_set_size, do_core_write, do_open, perform}
use Rattle.message.specs.JustOpened.{NOBODY, body_meant}
use Rattle.message.specs.Message.{area_of, data_of, Ran, after, after_given, run, served, only_status, run_chain, answered}
use Rattle.invariants.specs.GivenCases.{cond-case, request-case, session-case, tree-case, open-case, barred-case, writing-case, opening-case}

-- "Known: a request served": "CLOSE 0x04, PROCESS_EXIT 0x11, LOCKING_ANDX 0x24, READ_ANDX 0x2E, WRITE_ANDX 0x2F, TREE_DISCONNECT 0x71, LOGOFF_ANDX 0x74", and document
-- 02, CR 3: "READ 0x0A, WRITE 0x0B, LOCK_BYTE_RANGE 0x0C and UNLOCK_BYTE_RANGE 0x0D"; CR 6: "OPEN_ANDX 0x2D"
pub data Known : ℕ → Type 0 where
  known-close : Known 0x04
  known-exit : Known 0x11
  known-locking : Known 0x24
  known_read : Known 0x2E
  known-write : Known 0x2F
  known-disconnect : Known 0x71
  known-logoff : Known 0x74
  known-core-read : Known 0x0A
  known-core-write : Known 0x0B
  known-lock : Known 0x0C
  known-unlock : Known 0x0D
  known-open : Known 0x2D

pub known-served : {command : ℕ} → Known command → served command ≡ true
unfolding served
known-served known-close = refl
known-served known-exit = refl
known-served known-locking = refl
known-served known_read = refl
known-served known-write = refl
known-served known-disconnect = refl
known-served known-logoff = refl
known-served known-core-read = refl
known-served known-core-write = refl
known-served known-lock = refl
known-served known-unlock = refl
known-served known-open = refl

pub is_known : (command k : ℕ) → Known k → eqb command k ≡ true → Known command
is_known command k h e = rw (eqb-true command k e) h

-- the code that a command ends with
unfoldable pub code_of : Given → ℕ
code_of (refused why) = (status_of why).code
code_of (done t memory said) = 0

-- it is not 22
abbrev pub Begun : Given → Type 0
Begun g = code_of g ≡ 22 → ⊥

module _ (c : Caller) (t : Tables) (memory : List ℕ) where
  request-begun : (q : Request) (area : List ℕ) → Begun (locking_after t memory (locking (file_of (opens_of t)) t.locks t.nlocks q area))
  unfolding locking settle locking_after locking_end code_of forms_of status
  request-begun q area =
      cond-case (λ (r : Result). Begun (locking_after t memory (settle t.locks t.nlocks r))) (eqb (length area) ((q.unlocks + q.locks) * range_size q.large))
      (request (file_of (opens_of t)) q.fid q.shared (ranges_of q area 0 q.unlocks) (ranges_of q area q.unlocks q.locks) (locks_of t))
      (refused_by Malformed)
      (λ _. request-case (λ (r : Result). Begun (locking_after t memory (settle t.locks t.nlocks r))) (λ e. omega arith) (λ e. omega arith) (λ h e. omega arith) (λ e. omega arith)
      (file_of (opens_of t)) q.fid q.shared (ranges_of q area q.unlocks q.locks) (ranges_of q area 0 q.unlocks) (locks_of t)
      (λ left list _ _ _ _ e. omega arith))
      (λ _ e. omega arith)

  locking-begun : (f : LockingFields) (area : List ℕ) → Begun (do_locking c t memory f area)
  unfolding do_locking code_of forms_of status
  locking-begun f area =
      open-case Begun c t f.fid _ (λ e. omega arith) (λ e. omega arith) (λ e. omega arith)
      (λ k _. cond-case Begun (served_type f.kind) _ (refused LockType) (λ _. request-begun (request_of c f) area) (λ _ e. omega arith))

  read-begun : (f : ReadFields) → Begun (do_read c t memory f)
  unfolding do_read code_of forms_of status
  read-begun f =
      open-case Begun c t f.fid _ (λ e. omega arith) (λ e. omega arith) (λ e. omega arith)
      (λ k _. cond-case Begun (eqb (get_or (opens_of t) k no_open).access 1) (refused NoAccess) _ (λ _ e. omega arith)
      (λ _. barred-case Begun t _ _ (λ h e. omega arith) (λ _ e. omega arith)))

  write-begun : (f : WriteFields) (bytes : List ℕ) → Begun (do_write c t memory f bytes)
  unfolding do_write code_of forms_of status
  write-begun f bytes =
      writing-case Begun c t f.fid _ (ends_past f.offset f.count) _ (λ e. omega arith) (λ e. omega arith) (λ e. omega arith) (λ e. omega arith) (λ h e. omega arith)
      (λ e. omega arith) (λ k _ _ e. omega arith)

  core-begun : (g : Given) → Begun g → Begun (as_core g)
  unfolding as_core code_of
  core-begun (refused why) h = h
  core-begun (done u m said) h = h

  core-write-begun : (f : WriteFields) (bytes : List ℕ) → Begun (do_core_write c t memory f bytes)
  unfolding do_core_write do_set_size code_of forms_of status
  core-write-begun f bytes =
      cond-case Begun (eqb f.count 0) _ _
      (λ _. writing-case Begun c t f.fid _ (ltb 4096 f.offset) _ (λ e. omega arith) (λ e. omega arith) (λ e. omega arith) (λ e. omega arith) (λ h e. omega arith)
      (λ e. omega arith) (λ k _ _ e. omega arith))
      (λ _. core-begun _ (write-begun f bytes))

  range-begun : (f : RangeFields) (unlocks locks : ℕ) → Begun (do_range c t memory f unlocks locks)
  unfolding do_range
  range-begun f unlocks locks = core-begun _ (locking-begun (one_range f unlocks locks) _)

  open-begun : (f : OpenFields) (name : List ℕ) → Begun (do_open c t memory f name)
  unfolding code_of forms_of status
  open-begun f name =
      opening-case Begun c t memory f name (λ e. omega arith) (λ e. omega arith) (λ e. omega arith) (λ e. omega arith) (λ e. omega arith) (λ e. omega arith) (λ e. omega arith)
      (λ e. omega arith) (λ k _ e. omega arith)

  -- no command ends with 2/22
  perform-begun : (b : Body) (area bytes : List ℕ) → Begun (perform c t memory b area bytes)
  unfolding perform code_of forms_of status
  perform-begun (LockingBody f) area bytes = locking-begun f area
  perform-begun (ReadBody f) area bytes = read-begun f
  perform-begun (WriteBody f) area bytes = write-begun f bytes
  perform-begun (Close fid) area bytes = open-case Begun c t fid _ (λ e. omega arith) (λ e. omega arith) (λ e. omega arith) (λ k _ e. omega arith)
  perform-begun Logoff area bytes = session-case Begun c t _ (λ e. omega arith) (λ _ e. omega arith)
  perform-begun TreeDisconnect area bytes = tree-case Begun c t _ (λ e. omega arith) (λ e. omega arith) (λ e. omega arith)
  perform-begun ProcessExit area bytes = session-case Begun c t _ (λ e. omega arith) (λ _ e. omega arith)
  perform-begun (CoreReadBody f) area bytes = core-begun _ (read-begun f)
  perform-begun (CoreWriteBody f) area bytes = core-write-begun f _
  perform-begun (LockByteRange f) area bytes = range-begun f 0 1
  perform-begun (UnlockByteRange f) area bytes = range-begun f 1 0
  perform-begun (OpenBody f) area bytes = open-begun f _

after-begun : (g : Given) → Begun g → (bs : List Block) (place : ℕ) (t : Tables) (memory : List ℕ) (rest : ℕ → ℕ → Tables → List ℕ → Ran)
    → ((j p : ℕ) (u : Tables) (m : List ℕ) → (rest j p u m).forms.status.code ≡ 22 → ⊥) → (after_given g bs place t memory rest).forms.status.code ≡ 22 → ⊥
unfolding after_given after code_of
after-begun (refused why) h bs place t memory rest f = h
after-begun (done u m said) h bs place t memory rest f = f _ _ u m

run-begun : (c : Caller) (s : List ℕ) (just : ℕ) (bs : List Block) (place : ℕ) (t : Tables) (memory : List ℕ) → (run c s just bs place t memory).forms.status.code ≡ 22 → ⊥
unfolding run status
run-begun c s just [] place t memory = λ e. omega arith
run-begun c s just (b ∷ bs) place t memory =
    after-begun (perform c t memory (body_meant just b.body) (area_of s b) (data_of s b)) (perform-begun c t memory (body_meant just b.body) (area_of s b) (data_of s b)) bs place t memory _
    (λ j p u m. run-begun c s j bs p u m)

chain-begun : (c : Caller) (s : List ℕ) (o : Option (List Block)) (t : Tables) (memory : List ℕ) → (run_chain c s o t memory).forms.status.code ≡ 22 → ⊥
unfolding run_chain only_status forms_of status
chain-begun c s None t memory = λ e. omega arith
chain-begun c s (Some bs) t memory = run-begun c s NOBODY bs FIRST t memory

-- a message with a served command is not answered 2/22
pub served-begun : (connection : ℕ) (s : List ℕ) (t : Tables) (memory : List ℕ) → served (header_command s) ≡ true → (answered connection s t memory).forms.status ≡ status 2 22 → ⊥
unfolding answered status
served-begun connection s t memory e =
    rw e (λ h. chain-begun (caller_of connection s) s (blocks s) t memory (ap (λ (x : Status). x.code) h))

-- Of specs/FirstReadings.antt: what rests on its other theorems. Assumes nothing.
use Rattle.std.specs.Prelude.{◌≡◌, ◌↔◌, ℕ, ◌/◌, ◌%◌, false, List, [], ◌∷◌, get_or, eqb}
use Rattle.std.proofs.Math.Logic.Iff
use Rattle.std.proofs.Math.ListN.{drop}
use Rattle.std.proofs.Common.{eq-eqb, ne_eqb}
use Rattle.records.specs.declared.Open.{Open}
use Rattle.records.specs.declared.Tables.{Tables}
use Rattle.records.specs.Empty.{no_open}
use Rattle.records.specs.Held.{opens_of}
use Rattle.chain.specs.Layout.{CLOSE, PROCESS_EXIT, LOCKING, READ, WRITE, LOGOFF, CORE-READ, CORE-WRITE, LOCK_BYTE_RANGE, UNLOCK_BYTE_RANGE, OPEN, header_command, FIRST, fid_after_andx, first_fid, core_count, access_mode}
use Rattle.chain.specs.Grammar.{Span, Reading}
use Rattle.chain.specs.Parse.{wide_offset, range_fields, open_fields}
use Rattle.chain.specs.declared.block.Body.{Body}
use Rattle.chain.specs.declared.block.Body.TheVariants.{Locking as LockingBody, Read as ReadBody, Write as WriteBody, Close, Logoff, ProcessExit, CoreRead as CoreReadBody, CoreWrite as CoreWriteBody, LockByteRange, UnlockByteRange, Open as OpenBody}
use Rattle.invariants.specs.BlockParse.{body_at}
use Rattle.invariants.specs.Fit.{Fit}
use Rattle.message.specs.Caller.{caller_of}
use Rattle.message.specs.Refusal.{status}
use Rattle.message.specs.declared.refusal.Status.{Status}
use Rattle.message.specs.Command.{do_read, do_write, do_core_write, name_asked, perform}
use Rattle.message.specs.Message.{area_of, data_of, take-message}
use Rattle.demands.specs.StatusRead.{status_read}
use Rattle.demands.specs.LoneLock.{Conflicts, May, read-conflict, write-conflict, size-conflict, core-conflict}
use Rattle.demands.proofs.LoneLock.{range-conflict}
use Rattle.demands.specs.LoneCall.{FirstConflict, locking_fields, locking_area}
use Rattle.demands.proofs.LoneCall.{first-conflict, first-read-call, first-write-call, one-says}
use Rattle.demands.specs.Admitted.{Admitted}
use Rattle.demands.proofs.Admitted.{admitted-may}
use Rattle.demands.specs.CoreReasons.{LockStatus, UnlockStatus}
use Rattle.demands.specs.OpenReasons.{OpenPermitted, OpenStatus, open_shared}
use Rattle.demands.proofs.OpenReasons.{opening-given, shared-exact}
use Rattle.demands.specs.Sharing.{KeptOut}
use Rattle.demands.specs.CommandReasons.{SessionStatus, CloseStatus, ReadStatus, WriteStatus, CoreWriteStatus, LockingStatus, Reason}
use Rattle.demands.proofs.ReasonCalls.{call-exact}
use Rattle.demands.specs.WireFields.{read_fields, write_fields, core_read_fields, core_write_fields, open_name, reading-first, first_body, first-area, first-name}
use Rattle.demands.specs.FirstReadings.{BarsCoreReadOn, BarsCoreWriteOn, BarsRangeOn, BarsReadOn, BarsSizeOn, BarsWriteOn, caller, only}

module _ (connection : ℕ) (s : List ℕ) {spans : List Span} (r : Reading s spans) (t : Tables) (memory room : List ℕ) (fit : Fit s t memory room) (o : Open)
    (valid : Admitted (caller_of connection s) t (fid_after_andx s FIRST) o) where
  -- "A read is refused 1/33 exactly if an exclusive lock of another owner overlaps offset and max", on an open that may be read: where READ is the first command
  pub first-read-reading : header_command s ≡ READ → (o.access ≡ 1 → ⊥) → FirstConflict (take-message connection s t memory room) ↔ BarsReadOn s t o
  unfolding body_at wide_offset caller_of
  first-read-reading e access =
      let q = reading-first r in
      first-read-call connection s q.1.block q.0 q.1.is_read t memory room fit o (read_fields s) (first_body q.1 READ e) valid access

  -- "A write is refused 1/33 exactly if any lock overlaps it save the writer's own exclusive ones", on an open that may be written: where WRITE is the first command
  pub first-write-reading : header_command s ≡ WRITE → (o.access ≡ 0 → ⊥) → FirstConflict (take-message connection s t memory room) ↔ BarsWriteOn s t o
  unfolding body_at wide_offset caller_of
  first-write-reading e access =
      let q = reading-first r in
      first-write-call connection s q.1.block q.0 q.1.is_read t memory room fit o (write_fields s) (first_body q.1 WRITE e) valid access

module _ (connection : ℕ) (s : List ℕ) {spans : List Span} (r : Reading s spans) (t : Tables) (memory room : List ℕ) (fit : Fit s t memory room) (o : Open)
    (valid : Admitted (caller_of connection s) t (first_fid s FIRST) o) where
  -- 1/33 in a reply of one refused block is the first command's conflict
  pub first_by : (command : ℕ) → header_command s ≡ command
      → FirstConflict (take-message connection s t memory room)
      ↔ Conflicts (perform (caller connection s r t memory room fit o valid) t memory (body_at s command FIRST) (area_of s (reading-first r).1.block) (data_of s (reading-first r).1.block))
  first_by command e =
      let q = reading-first r in
      rw (first_body q.1 command e) at (first-conflict connection s q.1.block q.0 q.1.is_read t memory room fit)

  -- the open that the message names
  pub its-open : (k : ℕ) × May (caller connection s r t memory room fit o valid) t (first_fid s FIRST) k × (get_or (opens_of t) k no_open ≡ o)
  its-open = admitted-may (caller connection s r t memory room fit o valid) t (first_fid s FIRST) fit.tables-sound o valid

  pub its-access : (denied : ℕ) → (o.access ≡ denied → ⊥) → eqb (get_or (opens_of t) its-open.0 no_open).access denied ≡ false
  its-access denied n = rw its-open.2 (ne_eqb o.access denied n)

  -- a core READ "is refused 1/33 exactly if an exclusive lock of another owner overlaps offset and max"
  pub first-core-read-reading : header_command s ≡ CORE-READ → (o.access ≡ 1 → ⊥) → FirstConflict (take-message connection s t memory room) ↔ BarsCoreReadOn s t o
  unfolding body_at perform caller_of
  first-core-read-reading e access =
      Iff.trans (first_by CORE-READ e)
      (Iff.trans (core-conflict (do_read (caller connection s r t memory room fit o valid) t memory (core_read_fields s)))
      (rw its-open.2 at (read-conflict (caller connection s r t memory room fit o valid) t memory its-open.0 fit.tables-sound (core_read_fields s) its-open.1 (its-access 1 access))))

  -- a core WRITE of some bytes "exactly if any lock overlaps it save the writer's own exclusive ones"
  pub first-core-write-reading : header_command s ≡ CORE-WRITE → (core_count s FIRST ≡ 0 → ⊥) → (o.access ≡ 0 → ⊥)
      → FirstConflict (take-message connection s t memory room) ↔ BarsCoreWriteOn s t o
  unfolding body_at perform do_core_write caller_of
  first-core-write-reading e some access =
      let bytes = drop 3 (area_of s (reading-first r).1.block) in
      Iff.trans (rw (ne_eqb (core_count s FIRST) 0 some) at (first_by CORE-WRITE e))
      (Iff.trans (core-conflict (do_write (caller connection s r t memory room fit o valid) t memory (core_write_fields s) bytes))
      (rw its-open.2 at (write-conflict (caller connection s r t memory room fit o valid) t memory its-open.0 fit.tables-sound (core_write_fields s) bytes its-open.1 (its-access 0 access))))

  -- and one of count 0 exactly if such a lock overlaps the bytes between the file's size and the offset
  pub first-set-size-reading : header_command s ≡ CORE-WRITE → core_count s FIRST ≡ 0 → (o.access ≡ 0 → ⊥)
      → FirstConflict (take-message connection s t memory room) ↔ BarsSizeOn s t o
  unfolding body_at perform do_core_write caller_of
  first-set-size-reading e none access =
      Iff.trans (rw (eq-eqb (core_count s FIRST) 0 none) at (first_by CORE-WRITE e))
      (rw its-open.2 at (size-conflict (caller connection s r t memory room fit o valid) t memory its-open.0 fit.tables-sound (core_write_fields s) its-open.1 (its-access 0 access)))

  -- "A lock alone in its request, of a served type, on a valid open and within range, is refused for conflict exactly when a listed lock of that file overlaps it and the two
  -- aren't both shared": a LOCK_BYTE_RANGE is always alone, of a served type and within range, and never shared
  pub first-lock-reading : header_command s ≡ LOCK_BYTE_RANGE → FirstConflict (take-message connection s t memory room) ↔ BarsRangeOn s t o
  unfolding body_at perform
  first-lock-reading e =
      Iff.trans (first_by LOCK_BYTE_RANGE e)
      (rw its-open.2 at (range-conflict (caller connection s r t memory room fit o valid) t memory its-open.0 fit.tables-sound (range_fields s FIRST) its-open.1))

module _ (connection : ℕ) (s : List ℕ) {span : Span} (r : Reading s (span ∷ [])) (t : Tables) (memory room : List ℕ) (fit : Fit s t memory room) where
  -- what 1/33 in a reply of 35 bytes says, 1/33 says alone
  pub one-conflict : {P : Type 0} → FirstConflict (take-message connection s t memory room) ↔ P
      → (status_read (take-message connection s t memory room).room ≡ status 1 33) ↔ P
  one-conflict q = one-says connection s (only connection s r t memory room fit).block (only connection s r t memory room fit).is_read t memory room fit q

  -- by the fields of the header's command
  pub reason-of : (body : Body) → (only connection s r t memory room fit).block.body ≡ body → (n : Status)
      → (status_read (take-message connection s t memory room).room ≡ n) ↔ Reason (caller_of connection s) t (locking_area s) body n
  reason-of body is n = rw (first-area (only connection s r t memory room fit), is) at (call-exact connection s (only connection s r t memory room fit).block (only connection s r t memory room fit).is_read t memory room fit n)

  -- "Order: as written, for the whole of each command with all its ranges": the reply has a status exactly for its reason
  pub reading-exact : (n : Status) → (status_read (take-message connection s t memory room).room ≡ n)
      ↔ Reason (caller_of connection s) t (locking_area s) (body_at s (header_command s) FIRST) n
  reading-exact n = reason-of (body_at s (header_command s) FIRST) (only connection s r t memory room fit).holds n

  -- of each request
  pub locking-exact : header_command s ≡ LOCKING → (n : Status) → (status_read (take-message connection s t memory room).room ≡ n)
      ↔ LockingStatus (caller_of connection s) t (locking_fields s) (locking_area s) n
  unfolding body_at Reason
  locking-exact e n = reason-of (LockingBody (locking_fields s)) (first_body (only connection s r t memory room fit) LOCKING e) n

  pub read-exact : header_command s ≡ READ → (n : Status) → (status_read (take-message connection s t memory room).room ≡ n)
      ↔ ReadStatus (caller_of connection s) t (read_fields s) n
  unfolding body_at Reason wide_offset
  read-exact e n = reason-of (ReadBody (read_fields s)) (first_body (only connection s r t memory room fit) READ e) n

  pub write-exact : header_command s ≡ WRITE → (n : Status) → (status_read (take-message connection s t memory room).room ≡ n)
      ↔ WriteStatus (caller_of connection s) t (write_fields s) n
  unfolding body_at Reason wide_offset
  write-exact e n = reason-of (WriteBody (write_fields s)) (first_body (only connection s r t memory room fit) WRITE e) n

  pub close-exact : header_command s ≡ CLOSE → (n : Status) → (status_read (take-message connection s t memory room).room ≡ n)
      ↔ CloseStatus (caller_of connection s) t (first_fid s FIRST) n
  unfolding body_at Reason
  close-exact e n = reason-of (Close (first_fid s FIRST)) (first_body (only connection s r t memory room fit) CLOSE e) n

  pub logoff-exact : header_command s ≡ LOGOFF → (n : Status) → (status_read (take-message connection s t memory room).room ≡ n)
      ↔ SessionStatus (caller_of connection s) t n
  unfolding body_at Reason
  logoff-exact e n = reason-of Logoff (first_body (only connection s r t memory room fit) LOGOFF e) n

  pub exit-exact : header_command s ≡ PROCESS_EXIT → (n : Status) → (status_read (take-message connection s t memory room).room ≡ n)
      ↔ SessionStatus (caller_of connection s) t n
  unfolding body_at Reason
  exit-exact e n = reason-of ProcessExit (first_body (only connection s r t memory room fit) PROCESS_EXIT e) n

  pub core-read-exact : header_command s ≡ CORE-READ → (n : Status) → (status_read (take-message connection s t memory room).room ≡ n)
      ↔ ReadStatus (caller_of connection s) t (core_read_fields s) n
  unfolding body_at Reason
  core-read-exact e n = reason-of (CoreReadBody (core_read_fields s)) (first_body (only connection s r t memory room fit) CORE-READ e) n

  pub core-write-exact : header_command s ≡ CORE-WRITE → (n : Status) → (status_read (take-message connection s t memory room).room ≡ n)
      ↔ CoreWriteStatus (caller_of connection s) t (core_write_fields s) n
  unfolding body_at Reason
  core-write-exact e n = reason-of (CoreWriteBody (core_write_fields s)) (first_body (only connection s r t memory room fit) CORE-WRITE e) n

  pub lock-exact : header_command s ≡ LOCK_BYTE_RANGE → (n : Status) → (status_read (take-message connection s t memory room).room ≡ n)
      ↔ LockStatus (caller_of connection s) t (range_fields s FIRST) n
  unfolding body_at Reason
  lock-exact e n = reason-of (LockByteRange (range_fields s FIRST)) (first_body (only connection s r t memory room fit) LOCK_BYTE_RANGE e) n

  pub unlock-exact : header_command s ≡ UNLOCK_BYTE_RANGE → (n : Status) → (status_read (take-message connection s t memory room).room ≡ n)
      ↔ UnlockStatus (caller_of connection s) t (range_fields s FIRST) n
  unfolding body_at Reason
  unlock-exact e n = reason-of (UnlockByteRange (range_fields s FIRST)) (first_body (only connection s r t memory room fit) UNLOCK_BYTE_RANGE e) n

  -- OPEN_ANDX (document 02, CR 6)
  pub open-exact : header_command s ≡ OPEN → (n : Status) → (status_read (take-message connection s t memory room).room ≡ n)
      ↔ OpenStatus (caller_of connection s) t (open_fields s FIRST) (open_name s) n
  unfolding body_at Reason
  open-exact e n =
      let name : name_asked (locking_area s) ≡ open_name s = rw (first-area (only connection s r t memory room fit)) at (first-name (only connection s r t memory room fit)) in
      rw name at (reason-of (OpenBody (open_fields s FIRST)) (first_body (only connection s r t memory room fit) OPEN e) n)

  -- "An open fails if it asks what another open of the file denies or denies what one has": one that passes the tests before is answered 1/32 exactly if it does
  pub open-shared-exact : header_command s ≡ OPEN → {file : ℕ} → OpenPermitted (caller_of connection s) t (open_fields s FIRST) (open_name s) file
      → (status_read (take-message connection s t memory room).room ≡ status 1 32) ↔ KeptOut t file (access_mode s FIRST % 8) (access_mode s FIRST / 16 % 8)
  open-shared-exact e p =
      let exact = open-exact e (status 1 32) in
      let ok = fit.tables-sound in (
        λ h. (shared-exact (caller_of connection s) t memory ok (open_fields s FIRST) (open_name s) p).0
            (opening-given (caller_of connection s) t memory ok (open_fields s FIRST) (open_name s) (exact.0 h)),
        λ k. exact.1 (open_shared p k),
      )

-- Of specs/LoneCall.antt: what rests on its other theorems. Assumes nothing.
use Rattle.std.specs.Prelude.{◌≡◌, ◌↔◌, ℕ, ◌+◌, ◌*◌, ◌/◌, ◌%◌, ◌^◌, take, drop, get_or, Some}
use Rattle.std.proofs.Math.Path.{refl, sym, ap}
use Rattle.std.proofs.Common.{◌∙◌, arith, ne_eqb, le-ltb}
use Rattle.std.proofs.Math.Bool.{false}
use mathlib.Core.List.{List, [], ◌∷◌}
use Rattle.std.proofs.Math.ListN.{length}
use Rattle.std.proofs.Math.Dec.{eqb}
use Rattle.records.specs.declared.Open.{Open}
use Rattle.records.specs.Empty.{no_open}
use Rattle.records.specs.Held.{opens_of}
use Rattle.records.specs.declared.Tables.{Tables}
use Rattle.locks.specs.Range.{passes_end}
use Rattle.locks.specs.Wire.{range_size}
use Rattle.locks.specs.Request.{range_passes}
use Rattle.chain.specs.Layout.{LOCKING, header_command, FIRST, byte_area, byte_count, fid_after_andx, lock_type, unlock_count, lock_count}
use Rattle.chain.specs.Grammar.{Span, Reading}
use Rattle.chain.specs.Chain.{blocks}
use Rattle.chain.specs.declared.block.LockingFields.{LockingFields}
use Rattle.chain.specs.declared.block.ReadFields.{ReadFields}
use Rattle.chain.specs.declared.block.WriteFields.{WriteFields}
use Rattle.chain.specs.declared.block.Body.{Body}
use Rattle.chain.specs.declared.block.Body.TheVariants.{Locking as LockingBody, Read as ReadBody, Write as WriteBody}
use Rattle.chain.specs.declared.block.Block.{Block}
use Rattle.invariants.specs.BlockParse.{body_at}
use Rattle.readings.specs.ReaderComplete.{reader-complete}
use Rattle.invariants.specs.Chained.{read-chained}
use Rattle.message.specs.Caller.{caller_of}
use Rattle.message.specs.Refusal.{status}
use Rattle.message.specs.Command.{Given, do_locking, do_read, do_write, perform}
use Rattle.message.specs.Message.{area_of, data_of, Ran, run, take-message}
use Rattle.invariants.specs.JustOpenedLaws.{run-first}
use Rattle.demands.specs.LoneLock.{held_in, Conflicts, read-conflict, write-conflict, lone_range, lock-conflict}
use Rattle.demands.specs.Admitted.{Admitted}
use Rattle.demands.proofs.Admitted.{admitted-may}
use Rattle.demands.specs.CommandReasons.{BarsRead, BarsWrite, OnlyTwoBits, served-exact}
use Rattle.invariants.specs.Fit.{Fit}
use Rattle.demands.specs.StatusRead.{status_read}
use Rattle.demands.proofs.Calls.{status-call}
use Rattle.demands.specs.Calls.{sentence-answered, length-call}
use Rattle.demands.specs.LoneCall.{FirstConflict, LoneInWay, WithinRange, area-first, first-given, first-ran, first_block, given-conflict, locking_area, locking_fields, one-length, run-least}

module _ (connection : ℕ) (s : List ℕ) (b : Block) (bs : List Block) (e : blocks s ≡ Some (b ∷ bs)) (t : Tables) (memory room : List ℕ) (fit : Fit s t memory room) where
  -- 1/33 in a reply of 35 bytes, header and one refused block, is given exactly if the first command is refused for conflict
  pub first-conflict : FirstConflict (take-message connection s t memory room) ↔ Conflicts (first-given connection s b bs e t memory room fit)
  first-conflict =
      let a = sentence-answered connection s t memory (b ∷ bs) e ∙ run-first (caller_of connection s) s b bs FIRST t memory in
      let same : status_read (take-message connection s t memory room).room ≡ (first-ran connection s b bs e t memory room fit).forms.status = status-call connection s t memory room fit ∙ ap (λ (r : Ran). r.forms.status) a in
      let long : (take-message connection s t memory room).length ≡ 32 + length (first-ran connection s b bs e t memory room fit).blocks =
      length-call connection s t memory room fit ∙ ap (λ (r : Ran). 32 + length r.blocks) a in
      let exact = given-conflict (first-given connection s b bs e t memory room fit) bs FIRST t memory (λ j p u m. run (caller_of connection s) s j bs p u m) (λ j p. run-least (caller_of connection s) s bs j p) in (
        λ h. let n : 32 + length (first-ran connection s b bs e t memory room fit).blocks ≡ 35 = sym long ∙ h.1 in
            exact.0 (sym same ∙ h.0, let z : length (first-ran connection s b bs e t memory room fit).blocks ≡ 3 = omega arith in z),
        λ k. let q = exact.1 k in (same ∙ q.0, long ∙ ap (λ (n : ℕ). 32 + n) q.1),
      )

  -- so whatever a conflict of the first command comes to, the reply says
  pub first_says : {P : Type 0} (g : Given) → (first-given connection s b bs e t memory room fit) ≡ g → Conflicts g ↔ P → FirstConflict (take-message connection s t memory room) ↔ P
  first_says g same exact = (
    λ h. let q = first-conflict.0 h in exact.0 (q.0, sym (ap held_in same) ∙ q.1),
    λ p. let q = exact.1 p in first-conflict.1 (q.0, ap held_in same ∙ q.1),
  )

  module _ (o : Open) where
    -- "A lock alone in its request, of a served type, on a valid open and within range, is refused for conflict exactly when a listed lock of that file
    -- overlaps it and the two aren't both shared": whatever commands follow LOCKING in the message. (None may come before it.)
    pub lone-lock-call : (f : LockingFields) → b.body ≡ LockingBody f → Admitted (caller_of connection s) t f.fid o → f.unlocks ≡ 0 → f.locks ≡ 1 → OnlyTwoBits f.kind
        → WithinRange f (area_of s b) → FirstConflict (take-message connection s t memory room) ↔ LoneInWay t o f (area_of s b)
    unfolding perform blocks range_passes passes_end
    lone-lock-call f body valid u l bits low =
        let m = admitted-may (caller_of connection s) t f.fid fit.tables-sound o valid in
        let n : length (area_of s b) ≡ 1 * range_size (eqb (f.kind / 16 % 2) 1) =
        area-first (read-chained s (header_command s) FIRST (b ∷ bs) e) b bs refl f body ∙ rw (u, l) in
        first_says (do_locking (caller_of connection s) t memory f (area_of s b)) (ap (λ (x : Body). perform (caller_of connection s) t memory x (area_of s b) (data_of s b)) body)
        (rw m.2 at (lock-conflict (caller_of connection s) t memory m.0 fit.tables-sound f (area_of s b) m.1 u l ((served-exact f.kind).1 bits) n
        (le-ltb (2 ^ 64) ((lone_range f (area_of s b)).offset + (lone_range f (area_of s b)).length) low)))

    -- "A read is refused 1/33 exactly if an exclusive lock of another owner overlaps offset and max", on an open that may be read: where READ is the first command
    pub first-read-call : (f : ReadFields) → b.body ≡ ReadBody f → Admitted (caller_of connection s) t f.fid o → (o.access ≡ 1 → ⊥)
        → FirstConflict (take-message connection s t memory room)
        ↔ BarsRead (caller_of connection s) t f o
    unfolding perform
    first-read-call f body valid access =
        let m = admitted-may (caller_of connection s) t f.fid fit.tables-sound o valid in
        let a : eqb (get_or (opens_of t) m.0 no_open).access 1 ≡ false = rw m.2 (ne_eqb o.access 1 access) in
        first_says (do_read (caller_of connection s) t memory f) (ap (λ (x : Body). perform (caller_of connection s) t memory x (area_of s b) (data_of s b)) body)
        (rw m.2 at (read-conflict (caller_of connection s) t memory m.0 fit.tables-sound f m.1 a))

    -- "A write is refused 1/33 exactly if any lock overlaps it save the writer's own exclusive ones", on an open that may be written: where WRITE is the first command
    pub first-write-call : (f : WriteFields) → b.body ≡ WriteBody f → Admitted (caller_of connection s) t f.fid o → (o.access ≡ 0 → ⊥)
        → FirstConflict (take-message connection s t memory room)
        ↔ BarsWrite (caller_of connection s) t f o
    unfolding perform
    first-write-call f body valid access =
        let m = admitted-may (caller_of connection s) t f.fid fit.tables-sound o valid in
        let a : eqb (get_or (opens_of t) m.0 no_open).access 0 ≡ false = rw m.2 (ne_eqb o.access 0 access) in
        first_says (do_write (caller_of connection s) t memory f (data_of s b)) (ap (λ (x : Body). perform (caller_of connection s) t memory x (area_of s b) (data_of s b)) body)
        (rw m.2 at (write-conflict (caller_of connection s) t memory m.0 fit.tables-sound f (data_of s b) m.1 a))

module _ (connection : ℕ) (s : List ℕ) (b : Block) (e : blocks s ≡ Some (b ∷ [])) (t : Tables) (memory room : List ℕ) (fit : Fit s t memory room) where
  pub one-reply : status_read (take-message connection s t memory room).room ≡ status 1 33 → (take-message connection s t memory room).length ≡ 35
  unfolding run
  one-reply h =
      let a = sentence-answered connection s t memory (b ∷ []) e ∙ run-first (caller_of connection s) s b [] FIRST t memory in
      let same : (first-ran connection s b [] e t memory room fit).forms.status ≡ status 1 33 =
      sym (ap (λ (r : Ran). r.forms.status) a) ∙ sym (status-call connection s t memory room fit) ∙ h in
      length-call connection s t memory room fit
      ∙ ap (λ (r : Ran). 32 + length r.blocks) a
      ∙ ap (λ (n : ℕ). 32 + n) (one-length (first-given connection s b [] e t memory room fit) FIRST t memory (λ j p u m. run (caller_of connection s) s j [] p u m) (λ j p u m. refl) same)

  -- so that what the status and the length say, the status says alone
  pub one-says : {P : Type 0} → FirstConflict (take-message connection s t memory room) ↔ P
      → (status_read (take-message connection s t memory room).room ≡ status 1 33) ↔ P
  one-says q = (λ h. q.0 (h, one-reply h), λ p. (q.1 p).0)

  -- a message of one command is answered 1/33 exactly if the command is refused for conflict
  pub alone-conflict : (status_read (take-message connection s t memory room).room ≡ status 1 33) ↔ Conflicts (first-given connection s b [] e t memory room fit)
  alone-conflict = one-says (first-conflict connection s b [] e t memory room fit)

  -- "A lock alone in its request, of a served type, on a valid open and within range, is refused for conflict exactly when a listed lock of that file
  -- overlaps it and the two aren't both shared": 1/33 in the reply
  pub lone-lock-alone : (o : Open) (f : LockingFields) → b.body ≡ LockingBody f → Admitted (caller_of connection s) t f.fid o → f.unlocks ≡ 0 → f.locks ≡ 1 → OnlyTwoBits f.kind
      → WithinRange f (area_of s b) → (status_read (take-message connection s t memory room).room ≡ status 1 33) ↔ LoneInWay t o f (area_of s b)
  lone-lock-alone o f body valid u l bits low = one-says (lone-lock-call connection s b [] e t memory room fit o f body valid u l bits low)

-- of any reading, with the fields where the layout has them
pub lone-lock-reading : (connection : ℕ) (s : List ℕ) {spans : List Span} → Reading s spans → (t : Tables) (memory room : List ℕ) → Fit s t memory room → (o : Open)
    → header_command s ≡ LOCKING → unlock_count s FIRST ≡ 0 → lock_count s FIRST ≡ 1 → OnlyTwoBits (lock_type s FIRST)
    → Admitted (caller_of connection s) t (fid_after_andx s FIRST) o → WithinRange (locking_fields s) (locking_area s)
    → FirstConflict (take-message connection s t memory room) ↔ LoneInWay t o (locking_fields s) (locking_area s)
unfolding blocks body_at area_of
lone-lock-reading connection s r t memory room fit o command u l bits valid low =
    let a = reader-complete r in
    let q = first_block (read-chained s (header_command s) FIRST a.0 a.1) in
    let body : q.block.body ≡ LockingBody (locking_fields s) = q.holds ∙ ap (λ (n : ℕ). body_at s n FIRST) command in
    let area : area_of s q.block ≡ locking_area s = ap (λ (n : ℕ). take (byte_count s n) (drop (byte_area s n) s)) q.stands in
    rw area at
    (lone-lock-call connection s q.block q.later (a.1 ∙ ap Some q.is-first) t memory room fit o (locking_fields s) body valid u l bits (rw area low))

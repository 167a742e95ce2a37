-- Refusals for conflict and the status of a message with its one reason (document 01, "Locks, reads and writes" and "Refusals on the wire"; document 02, CR 3), said of the
-- call and of the message's bytes: of any reading for the first command, and of a reading of one block for every status. Assumes nothing.
use Rattle.std.specs.Prelude.{◌≡◌, ℕ, ◌%◌, false, List, [], ◌∷◌}
use Rattle.records.specs.declared.Open.{Open}
use Rattle.records.specs.declared.Tables.{Tables}
use Rattle.records.specs.Held.{locks_of}
use Rattle.chain.specs.Layout.{FIRST, fid_after_andx, read_max, data_length, first_fid, core_count, core_offset, range_length, range_offset}
use Rattle.chain.specs.Grammar.{Span, Reading}
use Rattle.invariants.specs.Fit.{Fit}
use Rattle.message.specs.Caller.{caller_of}
use Rattle.message.specs.declared.caller.Caller.{Caller}
use Rattle.demands.specs.LoneLock.{InWay, Owner, lower_size, sizes_apart, AnyLock}
use Rattle.demands.specs.Admitted.{Admitted}
use Rattle.demands.specs.WireFields.{sender_process, read_from, write_from, FirstBlock, one-first}

-- "an exclusive lock of another owner overlaps offset and max": the owner is the message's FID with its sender's process
abbrev pub BarsReadOn : List ℕ → Tables → Open → Type 0
BarsReadOn s t o =
    InWay t o (locks_of t) (read_from s) (read_max s FIRST) (λ l. (l.shared ≡ false) × (Owner (fid_after_andx s FIRST) (sender_process s) l → ⊥))

-- "any lock overlaps it save the writer's own exclusive ones"
abbrev pub BarsWriteOn : List ℕ → Tables → Open → Type 0
BarsWriteOn s t o =
    InWay t o (locks_of t) (write_from s) (data_length s FIRST) (λ l. (l.shared ≡ false) × Owner (fid_after_andx s FIRST) (sender_process s) l → ⊥)

-- ---- the core commands (document 02, CR 3)

-- of a core READ and a core WRITE the owner is the message's FID, its first word, with its sender's process
abbrev pub BarsCoreReadOn : List ℕ → Tables → Open → Type 0
BarsCoreReadOn s t o =
    InWay t o (locks_of t) (core_offset s FIRST) (core_count s FIRST) (λ l. (l.shared ≡ false) × (Owner (first_fid s FIRST) (sender_process s) l → ⊥))

abbrev pub BarsCoreWriteOn : List ℕ → Tables → Open → Type 0
BarsCoreWriteOn s t o =
    InWay t o (locks_of t) (core_offset s FIRST) (core_count s FIRST) (λ l. (l.shared ≡ false) × Owner (first_fid s FIRST) (sender_process s) l → ⊥)

-- "for locks it covers the bytes between the old and the new size"
abbrev pub BarsSizeOn : List ℕ → Tables → Open → Type 0
BarsSizeOn s t o =
    InWay t o (locks_of t) (lower_size t (core_offset s FIRST) o) (sizes_apart t (core_offset s FIRST) o)
    (λ l. (l.shared ≡ false) × Owner (first_fid s FIRST) (sender_process s) l → ⊥)

-- "the lock is exclusive": a listed lock of that file overlaps it (of a message of bytes offset and count are the fields: Processes.antt, `range-whole`)
abbrev pub BarsRangeOn : List ℕ → Tables → Open → Type 0
BarsRangeOn s t o = InWay t o (locks_of t) (range_offset s FIRST % 4294967296) (range_length s FIRST % 4294967296) AnyLock

module _ (connection : ℕ) (s : List ℕ) {spans : List Span} (r : Reading s spans) (t : Tables) (memory room : List ℕ) (fit : Fit s t memory room) (o : Open)
    (valid : Admitted (caller_of connection s) t (first_fid s FIRST) o) where
  abbrev pub caller : Caller
  caller = caller_of connection s

-- ---- a reading of one block

module _ (connection : ℕ) (s : List ℕ) {span : Span} (r : Reading s (span ∷ [])) (t : Tables) (memory room : List ℕ) (fit : Fit s t memory room) where
  pub only : FirstBlock s []
  only = one-first r

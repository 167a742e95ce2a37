-- Of specs/Processes.antt: what rests on its other theorems. Assumes nothing.
use Rattle.std.specs.Prelude.{◌≡◌, refl, ℕ, suc, ◌+◌, ◌-◌, ◌/◌, ◌≤◌, ◌<◌, false, None as End}
use Rattle.std.proofs.Common.{sym, ap, ◌∙◌}
use native.Mathlib.Omega.{arith}
use mathlib.Core.List.{List, [], ◌∷◌, Memᴰ as In}
use Rattle.wire.specs.LittleEndian.{le16_at}
use Rattle.records.specs.declared.Open.{Open}
use Rattle.records.specs.declared.Lock.{Lock}
use Rattle.records.specs.declared.Tables.{Tables}
use Rattle.records.specs.Held.{locks_of}
use Rattle.locks.specs.Range.{Overlap}
use Rattle.chain.specs.Layout.{LOCKING, READ, WRITE, CORE-READ, CORE-WRITE, UNLOCK_BYTE_RANGE, header_command, FIRST, fid_after_andx, read_max, data_length, lock_type, unlock_count, lock_count, first_fid, core_count, core_offset}
use Rattle.chain.specs.Grammar.{Span, Reading}
use Rattle.chain.specs.declared.block.Body.TheVariants.{Logoff}
use Rattle.chain.specs.declared.block.Block.{Block}
use Rattle.invariants.specs.ReaderSound.{span_of}
use Rattle.invariants.specs.Fit.{Fit}
use Rattle.message.specs.Caller.{caller_of}
use Rattle.message.specs.Refusal.{status}
use Rattle.message.specs.Message.{Taken, take-message}
use Rattle.claims.specs.StreamKept.{Bytes}
use Rattle.demands.specs.StatusRead.{status_read}
use Rattle.demands.specs.Admitted.{Admitted}
use Rattle.demands.specs.OneByOne.{alone-caller}
use Rattle.demands.specs.Carrying.{carrying-caller}
use Rattle.demands.specs.SpansOneByOne.{alone_span, alone-span, own_span}
use Rattle.demands.specs.LoneLock.{Owner}
use Rattle.demands.specs.LoneCall.{FirstConflict}
use Rattle.demands.specs.CoreReasons.{unlock-unnamed}
use Rattle.demands.specs.CommandReasons.{OnlyTwoBits}
use Rattle.demands.specs.WireFields.{sender_process, read_from, write_from, one-first}
use Rattle.demands.specs.LockEffects.{RangeOn, Locked, none-to-lock, lock-then, LockingDone, range_in, locking-fits}
use Rattle.demands.proofs.LockEffects.{range-on}
use Rattle.demands.proofs.FirstReadings.{first-read-reading, first-write-reading, first-core-read-reading, first-core-write-reading, unlock-exact}
use Rattle.demands.specs.LockReasons.{unlock-none, reason-unnamed}
use Rattle.demands.proofs.LockReasons.{locking-reason-exact}
use Rattle.demands.specs.Processes.{LockTaken, UpperHalvesDiffer, none-unlocked, other-process, place_inside, range-process, range-upper, upper-half}

module _ (s t : List ℕ) (b : Bytes s) (d : Bytes t) where
  module _ (u : UpperHalvesDiffer s t) where
    -- "An owner is a FID with a process": they are different owners
    pub not_own : (fid : ℕ) (l : Lock) → Owner fid (sender_process s) l → Owner fid (sender_process t) l → ⊥
    not_own fid l o q = (other-process s t b d u) (sym o.1 ∙ q.1)

module _ (connection : ℕ) (s other : List ℕ) (b : Bytes s) (d : Bytes other) (u : UpperHalvesDiffer other s) {spans : List Span} (r : Reading s spans) (t : Tables) (memory room : List ℕ)
    (fit : Fit s t memory room) (o : Open) (valid : Admitted (caller_of connection s) t (fid_after_andx s FIRST) o) (l : Lock) (listed : In l (locks_of t))
    (owner : Owner (fid_after_andx s FIRST) (sender_process other) l) (exclusive : l.shared ≡ false) where
  -- an exclusive lock of the one, through the same FID, bars the other's read over it
  pub bars-read : header_command s ≡ READ → (o.access ≡ 1 → ⊥) → Overlap l.offset l.length (read_from s) (read_max s FIRST)
      → FirstConflict (take-message connection s t memory room)
  bars-read e access over =
      (first-read-reading connection s r t memory room fit o valid e access).1
      (record {
        lock = l;
        listed = listed;
        of-file = (o, valid.opened.listed, valid.opened.of-fid ∙ sym owner.0, refl);
        overlap = over;
        clash = (exclusive, not_own other s d b u (fid_after_andx s FIRST) l owner);
      })

  -- and a write
  pub bars-write : header_command s ≡ WRITE → (o.access ≡ 0 → ⊥) → Overlap l.offset l.length (write_from s) (data_length s FIRST)
      → FirstConflict (take-message connection s t memory room)
  bars-write e access over =
      (first-write-reading connection s r t memory room fit o valid e access).1
      (record {
        lock = l;
        listed = listed;
        of-file = (o, valid.opened.listed, valid.opened.of-fid ∙ sym owner.0, refl);
        overlap = over;
        clash = λ h. not_own other s d b u (fid_after_andx s FIRST) l owner h.1;
      })

module _ (connection : ℕ) (s other : List ℕ) (b : Bytes s) (d : Bytes other) (u : UpperHalvesDiffer other s) {spans : List Span} (r : Reading s spans) (t : Tables) (memory room : List ℕ)
    (fit : Fit s t memory room) (o : Open) (valid : Admitted (caller_of connection s) t (first_fid s FIRST) o) (l : Lock) (listed : In l (locks_of t))
    (owner : Owner (first_fid s FIRST) (sender_process other) l) (exclusive : l.shared ≡ false) where
  pub bars-core-read : header_command s ≡ CORE-READ → (o.access ≡ 1 → ⊥) → Overlap l.offset l.length (core_offset s FIRST) (core_count s FIRST)
      → FirstConflict (take-message connection s t memory room)
  bars-core-read e access over =
      (first-core-read-reading connection s r t memory room fit o valid e access).1
      (record {
        lock = l;
        listed = listed;
        of-file = (o, valid.opened.listed, valid.opened.of-fid ∙ sym owner.0, refl);
        overlap = over;
        clash = (exclusive, not_own other s d b u (first_fid s FIRST) l owner);
      })

  pub bars-core-write : header_command s ≡ CORE-WRITE → (core_count s FIRST ≡ 0 → ⊥) → (o.access ≡ 0 → ⊥) → Overlap l.offset l.length (core_offset s FIRST) (core_count s FIRST)
      → FirstConflict (take-message connection s t memory room)
  bars-core-write e more access over =
      (first-core-write-reading connection s r t memory room fit o valid e more access).1
      (record {
        lock = l;
        listed = listed;
        of-file = (o, valid.opened.listed, valid.opened.of-fid ∙ sym owner.0, refl);
        overlap = over;
        clash = λ h. not_own other s d b u (first_fid s FIRST) l owner h.1;
      })

-- an unlock where no listed lock has its upper half names none: 1/158
pub unlock-refused : (connection : ℕ) (s : List ℕ) → Bytes s → {span : Span} → Reading s (span ∷ []) → (t : Tables) (memory room : List ℕ) → Fit s t memory room
    → header_command s ≡ LOCKING → 1 ≤ unlock_count s FIRST → OnlyTwoBits (lock_type s FIRST) → (o : Open) → Admitted (caller_of connection s) t (fid_after_andx s FIRST) o
    → ((l : Lock) → In l (locks_of t) → l.process / 65536 ≡ le16_at s 12 → ⊥) → status_read (take-message connection s t memory room).room ≡ status 1 158
unlock-refused connection s b r t memory room fit e some bits o valid others =
    let fits = locking-fits (one-first r) e in
    let n : 0 < unlock_count s FIRST + lock_count s FIRST = omega arith in
    let more : unlock_count s FIRST ≡ suc (unlock_count s FIRST - 1) = omega arith in
    let on : RangeOn s 0 (range_in s 0) = range-on s (unlock_count s FIRST + lock_count s FIRST) fits 0 n in
    (locking-reason-exact connection s r t memory room fit e (status 1 158)).1
    (reason-unnamed valid bits
    (rw more (unlock-none on (λ l i named. others l i (ap (λ (p : ℕ). p / 65536) named.of-process ∙ range-upper s b on)))))

-- nor does an UNLOCK_BYTE_RANGE
pub core-unlock-refused : (connection : ℕ) (s : List ℕ) → Bytes s → {span : Span} → Reading s (span ∷ []) → (t : Tables) (memory room : List ℕ) → Fit s t memory room
    → header_command s ≡ UNLOCK_BYTE_RANGE → (o : Open) → Admitted (caller_of connection s) t (first_fid s FIRST) o
    → ((l : Lock) → In l (locks_of t) → l.process / 65536 ≡ le16_at s 12 → ⊥) → status_read (take-message connection s t memory room).room ≡ status 1 158
unfolding caller_of
core-unlock-refused connection s b r t memory room fit e o valid others =
    (unlock-exact connection s r t memory room fit e (status 1 158)).1
    (unlock-unnamed valid (λ w. others w.lock w.listed (ap (λ (p : ℕ). p / 65536) w.named.of-process ∙ upper-half s b)))

pub one-locked : {s : List ℕ} → Bytes s → {t : Tables} {o : Open} {k n : ℕ} {list last : List Lock} → k ≡ 0 → n ≡ 1 → Locked s t o k n list last → LockTaken s list last
one-locked b z e none-to-lock = absurd (omega arith)
one-locked {s} b z e (lock-then {r = r} {l} on g free none-to-lock) =
    record { lock = l; range = r; behind = refl; of-fid = g.of-fid; of-process = g.of-process; whole = range-process s b (rw z at on) }
one-locked b z e (lock-then on g free (lock-then on2 g2 free2 more)) = absurd (omega arith)

pub lock-taken : (connection : ℕ) (s : List ℕ) → Bytes s → (t : Tables) (memory : List ℕ) (call : Taken) → LockingDone connection s t memory call
    → unlock_count s FIRST ≡ 0 → lock_count s FIRST ≡ 1 → LockTaken s (locks_of t) (locks_of call.tables)
lock-taken connection s b t memory call done none one =
    rw (done.held, ← (none-unlocked none done.unlocked)) (one-locked b none one done.locked)

-- "the chain's header with the block's command": its sender is the chain's
pub alone-sender : (connection : ℕ) (s : List ℕ) {spans : List Span} → Reading s spans → (x : Span) → caller_of connection (alone_span s x) ≡ caller_of connection s
unfolding span_of
alone-sender connection s r x =
    let b : Block = record { command = x.command; at = x.place; length = x.size; body = Logoff; next = End } in
    ap (caller_of connection) (sym (alone-span s b)) ∙ alone-caller connection s b (place_inside r)

-- with whatever FID it carries
pub own-sender : (connection : ℕ) (s : List ℕ) {spans : List Span} → Reading s spans → (just : ℕ) (x : Span) → caller_of connection (own_span s just x) ≡ caller_of connection s
unfolding own_span
own-sender connection s r just x = carrying-caller just (alone_span s x) connection ∙ alone-sender connection s r x

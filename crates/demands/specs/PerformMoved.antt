-- A block that stands at another place does the same: what a command does depends on its fields, its ranges and its data, never
-- on its place. Assumes nothing.
use Rattle.std.specs.Prelude.{◌≡◌, ℕ, ◌+◌, ◌/◌, ◌%◌, ◌≤◌, List, length}
use Rattle.std.proofs.Math.Path.{refl}
use Rattle.std.proofs.Common.{arith}
use Rattle.std.proofs.Math.Bool.{true, false}
use borrow.Author.Tests.{eq-eqb, ne_eqb}
use Rattle.records.specs.declared.Tables.{Tables}
use Rattle.records.specs.declared.Lock.{Lock}
use Rattle.records.specs.Held.{opens_of}
use Rattle.locks.specs.Wire.{range_size, ranges_at}
use Rattle.locks.specs.Request.{ranges_of, locking}
use Rattle.locks.specs.declared.types.Request.{Request}
use Rattle.soundness.specs.File.{file_of}
use Rattle.chain.specs.Layout.{LOCKING, fid_after_andx, lock_type, unlock_count, lock_count, data_length, data_offset}
use Rattle.chain.specs.Grammar.{Ranges, IsBlock, locking-10, locking-20, read-10, read-12, write-12, write-14, close, logoff, tree-disconnect, process-exit, core-read, core-write, lock-byte-range, unlock-byte-range, open-15}
use Rattle.chain.specs.Parse.{is_large}
use Rattle.chain.specs.declared.block.LockingFields.{LockingFields}
use Rattle.chain.specs.declared.block.Body.{Body}
use Rattle.chain.specs.declared.block.Body.TheVariants.{Locking, Read, Write, Close, Logoff, TreeDisconnect, ProcessExit, CoreRead, CoreWrite, LockByteRange, UnlockByteRange, Open}
use Rattle.invariants.specs.BlockParse.{body_at}
use Rattle.readings.specs.Moved.{Moved, moved_body}
use Rattle.readings.specs.MovedBytes.{part, area_at}
use Rattle.readings.proofs.MovedBytes.{moved-area-length, moved-range-list, moved-marked-area, moved-name-area, moved-data-part}
use Rattle.message.specs.declared.caller.Caller.{Caller}
use Rattle.message.specs.JustOpened.{body_meant}
use Rattle.message.specs.Command.{request_of, do_locking, do_write, do_set_size, do_core_write, perform}

-- and so is the FID that is meant
pub meant-moved : (just at to : ℕ) (b : Body) → body_meant just (moved_body at to b) ≡ moved_body at to (body_meant just b)
unfolding body_meant moved_body
meant-moved just at to (Locking f) = refl
meant-moved just at to (Read f) = refl
meant-moved just at to (Write f) = refl
meant-moved just at to (Close fid) = refl
meant-moved just at to Logoff = refl
meant-moved just at to TreeDisconnect = refl
meant-moved just at to ProcessExit = refl
meant-moved just at to (CoreRead f) = refl
meant-moved just at to (CoreWrite f) = refl
meant-moved just at to (LockByteRange f) = refl
meant-moved just at to (UnlockByteRange f) = refl
meant-moved just at to (Open f) = refl

-- the fields of a LOCKING block
abbrev locking_fields : List ℕ → ℕ → LockingFields
locking_fields s at = record { fid = fid_after_andx s at; kind = lock_type s at; unlocks = unlock_count s at; locks = lock_count s at }

-- of the byte area a LOCKING request looks at its length and the ranges in it
locking-same : (file : ℕ → ℕ) (locks : List Lock) (count : ℕ) (q : Request) (a b : List ℕ) → length b ≡ length a
    → ranges_at q.large b 0 q.unlocks ≡ ranges_at q.large a 0 q.unlocks
    → ranges_at q.large b q.unlocks q.locks ≡ ranges_at q.large a q.unlocks q.locks
    → locking file locks count q b ≡ locking file locks count q a
unfolding locking ranges_of
locking-same file locks count q a b n r l = rw (n, r, l)

module _ (c : Caller) (u : Tables) (memory : List ℕ) where
  -- the place of a WRITE block's data is not looked at
  pub perform-body : (at to : ℕ) (b : Body) (area bytes : List ℕ) → perform c u memory (moved_body at to b) area bytes ≡ perform c u memory b area bytes
  unfolding perform moved_body do_write do_set_size do_core_write
  perform-body at to (Locking f) area bytes = refl
  perform-body at to (Read f) area bytes = refl
  perform-body at to (Write f) area bytes = refl
  perform-body at to (Close fid) area bytes = refl
  perform-body at to Logoff area bytes = refl
  perform-body at to TreeDisconnect area bytes = refl
  perform-body at to ProcessExit area bytes = refl
  perform-body at to (CoreRead f) area bytes = refl
  perform-body at to (CoreWrite f) area bytes = refl
  perform-body at to (LockByteRange f) area bytes = refl
  perform-body at to (UnlockByteRange f) area bytes = refl
  perform-body at to (Open f) area bytes = refl

  -- the ranges of a LOCKING block that moved do the same
  perform-ranges : {s : List ℕ} {at : ℕ} {t : List ℕ} {to : ℕ} → IsBlock s at LOCKING → Ranges s at (range_size (is_large (lock_type s at))) → Moved s at t to LOCKING
      → do_locking c u memory (locking_fields s at) (area_at t to) ≡ do_locking c u memory (locking_fields s at) (area_at s at)
  unfolding do_locking request_of is_large
  perform-ranges {s} {at} {t} {to} h r m =
      let all : (k n : ℕ) → k + n ≤ unlock_count s at + lock_count s at
      → ranges_at (is_large (lock_type s at)) (area_at t to) k n ≡ ranges_at (is_large (lock_type s at)) (area_at s at) k n =
      moved-range-list m h refl (is_large (lock_type s at)) refl r in
      rw (locking-same (file_of (opens_of u)) u.locks u.nlocks (request_of c (locking_fields s at)) (area_at s at) (area_at t to) (moved-area-length m h)
      (all 0 (unlock_count s at) (omega arith)) (all (unlock_count s at) (lock_count s at) (omega arith)))

  -- the bytes of a block that moved do the same
  pub perform_bytes : {s : List ℕ} {at : ℕ} {t : List ℕ} {to command : ℕ} → IsBlock s at command → Moved s at t to command
      → (just : ℕ) → perform c u memory (body_meant just (body_at s command at)) (area_at t to) (part t (data_offset t to) (data_length t to))
      ≡ perform c u memory (body_meant just (body_at s command at)) (area_at s at) (part s (data_offset s at) (data_length s at))
  unfolding perform body_at body_meant is_large range_size
  perform_bytes {s} {at} (locking-10 p h) m just =
      let small : is_large (lock_type s at) ≡ false = ne_eqb (lock_type s at / 16 % 2) 1 (omega arith) in
      perform-ranges (locking-10 p h) (rw small h) m
  perform_bytes {s} {at} (locking-20 p h) m just =
      let wide : is_large (lock_type s at) ≡ true = eq-eqb (lock_type s at / 16 % 2) 1 p in
      perform-ranges (locking-20 p h) (rw wide h) m
  perform_bytes (read-10 h) m just = refl
  perform_bytes (read-12 h) m just = refl
  perform_bytes (write-12 h) m just = rw (moved-data-part m (write-12 h) h)
  perform_bytes (write-14 h) m just = rw (moved-data-part m (write-14 h) h)
  perform_bytes (close h) m just = refl
  perform_bytes (logoff h) m just = refl
  perform_bytes (tree-disconnect h) m just = refl
  perform_bytes (process-exit h) m just = refl
  perform_bytes (core-read h) m just = refl
  perform_bytes (core-write h) m just = rw (moved-marked-area m (core-write h) refl h.shape.counted)
  perform_bytes (lock-byte-range h) m just = refl
  perform_bytes (unlock-byte-range h) m just = refl
  perform_bytes (open-15 h) m just = rw (moved-name-area m (open-15 h) refl h.shape.counted)

-- Of specs/LockEffects.antt: what rests on its other theorems. Assumes nothing.
use Rattle.std.specs.Prelude.{◌≡◌, refl, List, [], ◌∷◌, ◌++◌, None as no_link}
use Prim.Native.Nat.{ℕ, zero, suc, ◌+◌, ◌*◌, ◌≤◌, ◌<◌}
use native.Mathlib.Omega.{arith}
use Rattle.lists.specs.Put.{put}
use Rattle.records.specs.declared.Open.{Open}
use Rattle.records.specs.declared.Lock.{Lock}
use Rattle.records.specs.declared.Tables.{Tables}
use Rattle.locks.specs.Wire.{range_size, ranges_at}
use Rattle.locks.specs.Request.{lock_of}
use Rattle.chain.specs.Layout.{LOCKING, LOCK_BYTE_RANGE, UNLOCK_BYTE_RANGE, header_command, FIRST, byte_count, fid_after_andx, unlock_count, lock_count}
use Rattle.chain.specs.Grammar.{Span, Reading}
use Rattle.chain.specs.Chain.{blocks}
use Rattle.chain.specs.Parse.{range_fields}
use Rattle.chain.specs.declared.block.RangeFields.{RangeFields}
use Rattle.chain.specs.declared.block.Body.TheVariants.{Locking as LockingBody, LockByteRange, UnlockByteRange}
use Rattle.invariants.specs.BlockParse.{body_at}
use Rattle.invariants.specs.Chained.{read-chained}
use Rattle.invariants.specs.Sound.{Good}
use Rattle.invariants.specs.Fit.{Fit}
use Rattle.message.specs.Caller.{caller_of}
use Rattle.message.specs.declared.caller.Caller.{Caller}
use Rattle.message.specs.Refusal.{status, success}
use Rattle.message.specs.Command.{Said, plain, done, do_locking, one_range, do_range, perform}
use Rattle.message.specs.Reply.{reply_header, reply_block, reply_size}
use Rattle.message.specs.Message.{area_of, take-message}
use Rattle.demands.specs.StatusRead.{status_read}
use Rattle.demands.specs.Admitted.{Admitted}
use Rattle.demands.specs.LoneLock.{core_range, shared_in}
use Rattle.demands.specs.LoneCall.{locking_fields, locking_area}
use Rattle.demands.specs.LockWords.{Released, none-to-release, release-then, AllGranted, none-to-grant, grant-then}
use Rattle.demands.proofs.LockLeaves.{locking-leaves, lock-range-leaves, unlock-range-leaves}
use Rattle.demands.specs.LockLeaves.{core_lock}
use Rattle.demands.specs.FileCommands.{as_core_lem}
use Rattle.demands.specs.ReplyBytes.{PlainBlock, plain-block}
use Rattle.demands.specs.CommandReasons.{Announced}
use Rattle.demands.specs.ReasonCalls.{one-announced}
use Rattle.demands.specs.DoneCall.{Carried, long-enough}
use Rattle.demands.proofs.DoneCall.{past_open}
use Rattle.demands.specs.CallEffects.{gives-body}
use Rattle.demands.proofs.CallEffects.{the-command}
use Rattle.demands.specs.WireFields.{one-first, first_body, first-area}
use Rattle.demands.specs.LockEffects.{LockRangeDone, Locked, LockingDone, RangeOn, UnlockRangeDone, Unlocked, call, caller, catalogue-stands, granted-lock, large, locking-fits, only, range-on-by, range_in, ranges_in}
use Rattle.demands.specs.LockEffects.{lock-then}
use Rattle.demands.specs.LockEffects.{none-to-lock}
use Rattle.demands.specs.LockEffects.{none-to-unlock}
use Rattle.demands.specs.LockEffects.{unlock-then}

module _ (s : List ℕ) where
  module _ (n : ℕ) (fits : n * range_size (large s) ≤ byte_count s FIRST) where
    pub range-on : (k : ℕ) → k < n → RangeOn s k ((range_in s) k)
    range-on = (range-on-by s) (large s) refl n fits

    pub unlocked-from : (k m : ℕ) → k + m ≤ n → {list left : List Lock} → Released (fid_after_andx s FIRST) ((ranges_in s) k m) list left → Unlocked s k m list left
    unfolding ranges_at
    unlocked-from k zero h none-to-release = none-to-unlock
    unlocked-from k (suc m) h (release-then out more) = unlock-then (range-on k (omega arith)) out (unlocked-from (suc k) m (omega arith) more)

    pub locked-from : (t : Tables) (o : Open) (k m : ℕ) → k + m ≤ n → {list last : List Lock}
        → AllGranted t o (fid_after_andx s FIRST) (shared_in (locking_fields s)) ((ranges_in s) k m) list last → Locked s t o k m list last
    unfolding ranges_at lock_of
    locked-from t o k zero h none-to-grant = none-to-lock
    locked-from t o k (suc m) h (grant-then free more) =
        lock-then (range-on k (omega arith)) ((granted-lock s n fits) ((range_in s) k)) free (locked-from t o (suc k) m (omega arith) more)

pub locking-reading : (connection : ℕ) (s : List ℕ) {span : Span} → Reading s (span ∷ []) → (t : Tables) (memory room : List ℕ) → Good t → Fit s t memory room
    → status_read (take-message connection s t memory room).room ≡ status 0 0 → header_command s ≡ LOCKING
    → LockingDone connection s t memory (take-message connection s t memory room)
unfolding caller_of perform do_locking body_at blocks Announced
locking-reading connection s r t memory room g fit z e =
    let only = one-first r in
    let b = only.block in
    let c = caller_of connection s in
    let f = locking_fields s in
    let is : b.body ≡ LockingBody f = first_body only LOCKING e in
    let same : area_of s b ≡ locking_area s = first-area only in
    let ran = the-command connection s b only.is_read t memory room g fit z in
    let given : do_locking c t memory f (locking_area s) ≡ done (take-message connection s t memory room).tables (take-message connection s t memory room).memory ran.said =
    rw same at (gives-body c s b t memory (LockingBody f) is ran.given) in
    let o = past_open c t f.fid _ given in
    let announced : Announced (LockingBody f) (locking_area s) = rw (same, is) at (one-announced (read-chained s (header_command s) FIRST (b ∷ []) only.is_read)) in
    let fits = locking-fits only e in
    let l = locking-leaves c t memory fit.tables-sound f (locking_area s) o.0 o.1 (announced f refl) given in
    record {
      through = o.0;
      admitted = o.1;
      left = l.left;
      unlocked = unlocked-from s (unlock_count s FIRST + lock_count s FIRST) fits 0 (unlock_count s FIRST) (omega arith) l.unlocked;
      last = l.last;
      locked = locked-from s (unlock_count s FIRST + lock_count s FIRST) fits t o.0 (unlock_count s FIRST) (lock_count s FIRST) (omega arith) l.all-locked;
      not-over = l.not-over;
      held = l.held;
      other-tables = l.other-tables;
      catalogue = catalogue-stands t _ l.other-tables;
      whole = l.whole;
      same_memory = l.same_memory;
    }

-- the open that it is done through
pub range-through : (c : Caller) (t : Tables) (memory : List ℕ) (f : RangeFields) (unlocks locks : ℕ) {u : Tables} {m : List ℕ} {said : Said} → do_range c t memory f unlocks locks ≡ done u m said
    → (o : Open) × Admitted c t f.fid o
unfolding do_range do_locking one_range
range-through c t memory f unlocks locks e = let o = past_open c t f.fid _ (as_core_lem _ e).1 in (o.0, o.1)

module _ (connection : ℕ) (s : List ℕ) {span : Span} (r : Reading s (span ∷ [])) (t : Tables) (memory room : List ℕ) (g : Good t) (fit : Fit s t memory room)
    (z : status_read (take-message connection s t memory room).room ≡ status 0 0) where
  pub ran : Carried (caller connection s r t memory room g fit z) s (only connection s r t memory room g fit z).block t memory room (call connection s r t memory room g fit z)
  ran = the-command connection s (only connection s r t memory room g fit z).block (only connection s r t memory room g fit z).is_read t memory room g fit z

  pub plain-reply : ran.said ≡ plain → PlainBlock (call connection s r t memory room g fit z).room × ((call connection s r t memory room g fit z).length ≡ 35)
  unfolding reply_size
  plain-reply e =
      let w : (call connection s r t memory room g fit z).room ≡ put room 0 (reply_header s success ++ reply_block plain FIRST no_link) = rw e at ran.reply in
      (rw w (plain-block s (long-enough s fit.not-dropped) room), rw e at ran.reply-length)

  pub lock-reading : header_command s ≡ LOCK_BYTE_RANGE → LockRangeDone connection s t memory (call connection s r t memory room g fit z)
  unfolding caller_of perform body_at
  lock-reading e =
      let f = range_fields s FIRST in
      let given : do_range (caller connection s r t memory room g fit z) t memory f 0 1 ≡ done (call connection s r t memory room g fit z).tables (call connection s r t memory room g fit z).memory ran.said =
      gives-body (caller connection s r t memory room g fit z) s (only connection s r t memory room g fit z).block t memory (LockByteRange f) (first_body (only connection s r t memory room g fit z) LOCK_BYTE_RANGE e) ran.given in
      let o = range-through (caller connection s r t memory room g fit z) t memory f 0 1 given in
      let l = lock-range-leaves (caller connection s r t memory room g fit z) t memory g.sound f o.0 o.1 given in
      let said = plain-reply l.says in
      record {
        through = o.0;
        admitted = o.1;
        lock = core_lock (caller connection s r t memory room g fit z) f;
        of-fid = refl;
        of-process = refl;
        of-offset = refl;
        of_length = refl;
        exclusive = refl;
        free = l.free;
        not-over = l.not-over;
        held = l.held;
        other-tables = l.other-tables;
        catalogue = catalogue-stands t _ l.other-tables;
        whole = l.whole;
        same_memory = l.same_memory;
        reply = said.0;
        reply-ends = said.1;
      }

  pub unlock-reading : header_command s ≡ UNLOCK_BYTE_RANGE → UnlockRangeDone connection s t memory (call connection s r t memory room g fit z)
  unfolding caller_of perform body_at
  unlock-reading e =
      let f = range_fields s FIRST in
      let given : do_range (caller connection s r t memory room g fit z) t memory f 1 0 ≡ done (call connection s r t memory room g fit z).tables (call connection s r t memory room g fit z).memory ran.said =
      gives-body (caller connection s r t memory room g fit z) s (only connection s r t memory room g fit z).block t memory (UnlockByteRange f) (first_body (only connection s r t memory room g fit z) UNLOCK_BYTE_RANGE e) ran.given in
      let o = range-through (caller connection s r t memory room g fit z) t memory f 1 0 given in
      let l = unlock-range-leaves (caller connection s r t memory room g fit z) t memory g.sound f o.0 o.1 given in
      let said = plain-reply l.says in
      record {
        through = o.0;
        admitted = o.1;
        range = core_range (caller connection s r t memory room g fit z) f;
        of-process = refl;
        of-offset = refl;
        of_length = refl;
        unlocked = l.unlocked;
        other-tables = l.other-tables;
        catalogue = catalogue-stands t _ l.other-tables;
        whole = l.whole;
        same_memory = l.same_memory;
        reply = said.0;
        reply-ends = said.1;
      }

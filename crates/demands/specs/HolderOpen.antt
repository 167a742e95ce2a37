-- Whose lock it is (document 02, CR 2: "the host gets the holder's FID and process beside the reply"; "A lock granted earlier in the same request may be the answer").
-- Assumes nothing.
use Rattle.std.specs.Prelude.{◌≡◌, ℕ, Bool}
use Rattle.std.proofs.Common.{sym, ap, ◌∙◌}
use mathlib.Core.List.{List, [], ◌∷◌, ◌++◌, map, append-nil, append_assoc, Memᴰ as In}
use Rattle.records.specs.declared.Session.{Session}
use Rattle.records.specs.declared.Open.{Open}
use Rattle.records.specs.declared.Lock.{Lock}
use Rattle.records.specs.declared.Tables.{Tables}
use Rattle.records.specs.Held.{sessions_of, opens_of}
use Rattle.locks.specs.Request.{lock_of}
use Rattle.locks.specs.declared.types.LockRange.{LockRange}
use Rattle.locks.specs.declared.types.Holder.{Holder}
use Rattle.chain.specs.declared.block.LockingFields.{LockingFields}
use Rattle.message.specs.declared.caller.Caller.{Caller}
use Rattle.demands.specs.LoneLock.{shared_in}
use Rattle.demands.specs.LockWords.{AllGranted, none-to-grant, grant-then}
use Rattle.demands.specs.CommandReasons.{ranges_by}
use Rattle.demands.specs.HolderWords.{LockHeld, HeldWhere, one-range, many-ranges}

-- ---- an own earlier range

-- an own earlier range as holder, the request's FID and that range's process: a range of a LOCKING before the one that met it, by its lock's fields
pub record OwnRange (c : Caller) (f : LockingFields) (area : List ℕ) (granted : ℕ) (l : Lock) : Type 0 where
  pub range : LockRange
  pub earlier : In range (ranges_by c.process f area f.unlocks granted)
  pub of-fid : l.fid ≡ f.fid
  pub of-process : l.process ≡ range.process
  pub of-offset : l.offset ≡ range.offset
  pub of_length : l.length ≡ range.length
  pub of-shared : l.shared ≡ shared_in f

pub own_range : (c : Caller) (f : LockingFields) (area : List ℕ) (granted : ℕ) (l : Lock) (r : LockRange) → In r (ranges_by c.process f area f.unlocks granted)
    → lock_of f.fid (shared_in f) r ≡ l → OwnRange c f area granted l
unfolding lock_of
own_range c f area granted l r m e =
    record {
      range = r;
      earlier = m;
      of-fid = sym (ap (λ (x : Lock). x.fid) e);
      of-process = sym (ap (λ (x : Lock). x.process) e);
      of-offset = sym (ap (λ (x : Lock). x.offset) e);
      of_length = sym (ap (λ (x : Lock). x.length) e);
      of-shared = sym (ap (λ (x : Lock). x.shared) e);
    }

-- the locks granted stand behind the list
pub granted-list : {t : Tables} {o : Open} {fid : ℕ} {shared : Bool} {rs : List LockRange} {list last : List Lock} → AllGranted t o fid shared rs list last
    → last ≡ list ++ map (lock_of fid shared) rs
granted-list {list = list} none-to-grant = sym (append-nil list)
granted-list {fid = fid} {shared = shared} (grant-then {r} {rs} {list} free more) = granted-list more ∙ append_assoc list (lock_of fid shared r ∷ []) (map (lock_of fid shared) rs)

module _ {c : Caller} {t : Tables} {f : LockingFields} {area : List ℕ} {h : Holder} (r : LockHeld c t f area h) where
  abbrev pub own : List Lock
  own = map (lock_of f.fid (shared_in f)) (ranges_by c.process f area f.unlocks r.held.granted)

-- ---- the open and the session

-- by a holder's FID the host finds the terminal: one open of the tables has it, and one session that open's UID; the session's connection is the terminal's
pub record HolderFound (t : Tables) (h : Holder) : Type 0 where
  pub through : Open
  pub listed : In through (opens_of t)
  pub of-fid : through.fid ≡ h.lock.fid
  pub no_other : (o : Open) → In o (opens_of t) → o.fid ≡ h.lock.fid → o ≡ through
  pub session : Session
  pub session-listed : In session (sessions_of t)
  pub of-uid : session.uid ≡ through.uid
  pub no-other-session : (u : Session) → In u (sessions_of t) → u.uid ≡ through.uid → u ≡ session

-- a lock in the way is of the file, so that its FID is an open's
pub held-open : {c : Caller} {t : Tables} {area : List ℕ} {h : Holder} → HeldWhere c t area h → (o : Open) × In o (opens_of t) × (o.fid ≡ h.lock.fid)
held-open (one-range w) = let p = w.of-file in (p.0, p.1, p.2)
held-open (many-ranges r) = let p = r.held.first.of-file in (p.0, p.1, p.2)

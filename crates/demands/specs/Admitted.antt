-- Who may ask, in plain words (document 01, "Refusals on the wire": "2/91 no session of that UID on this connection; 2/5 no tree of that TID and UID; 1/6 no open of
-- that FID, UID and TID"), in that order. Assumes nothing.
use Rattle.std.specs.Prelude.{◌≡◌, ℕ, true, ◌&&◌, get_or, Option, Some, None}
use Rattle.std.proofs.Math.Path.{refl}
use mathlib.Core.List.{Memᴰ as In}
use Rattle.std.proofs.Math.Dec.{eqb}
use borrow.Author.Tests.{eqb-true, eq-eqb}
use Rattle.lists.specs.Walk.{any, found}
use Rattle.lists.specs.Truth.{both_hold, hold-both, not-decided-twice}
use Rattle.lists.specs.Members.{any-one, one-any}
use Rattle.records.specs.declared.Session.{Session}
use Rattle.records.specs.declared.Open.{Open}
use Rattle.records.specs.declared.Tables.{Tables}
use Rattle.records.specs.Empty.{no_open}
use Rattle.records.specs.Held.{sessions_of, opens_of}
use Rattle.claims.specs.HostReasons.{HasTree}
use Rattle.message.specs.declared.caller.Caller.{Caller}
use Rattle.message.specs.Refusal.{status}
use Rattle.message.specs.declared.refusal.Status.{Status}
use Rattle.message.specs.Command.{Given, is_session, with_session, with_tree, is_open, open_at, with_open}
use Rattle.invariants.specs.FoundFacts.{found-hit, found-miss}
use Rattle.demands.specs.LoneLock.{May}

-- ---- the plain words

-- "session of that UID on this connection"
unfoldable pub SessionHere : Caller → Tables → Type 0
SessionHere c t = (s : Session) × In s (sessions_of t) × (s.uid ≡ c.uid) × (s.connection ≡ c.connection)

-- "open of that FID, UID and TID"
pub record OpenOf (c : Caller) (t : Tables) (fid : ℕ) (o : Open) : Type 0 where
  pub listed : In o (opens_of t)
  pub of-fid : o.fid ≡ fid
  pub of-uid : o.uid ≡ c.uid
  pub of-tid : o.tid ≡ c.tid

-- the caller may ask through that open
pub record Admitted (c : Caller) (t : Tables) (fid : ℕ) (o : Open) : Type 0 where
  pub session : SessionHere c t
  pub tree : HasTree t c.tid c.uid
  pub opened : OpenOf c t fid o

-- LOGOFF and PROCESS_EXIT "stop after 2/91"
pub data NoSessionFor (c : Caller) (t : Tables) : Status → Type 0 where
  no-session : (SessionHere c t → ⊥) → NoSessionFor c t (status 2 91)

-- "TREE_DISCONNECT after 2/5"
pub data NoTreeFor (c : Caller) (t : Tables) : Status → Type 0 where
  before-tree : {n : Status} → NoSessionFor c t n → NoTreeFor c t n
  no-tree : SessionHere c t → (HasTree t c.tid c.uid → ⊥) → NoTreeFor c t (status 2 5)

-- "CLOSE after 1/6"
pub data NoOpenFor (c : Caller) (t : Tables) (fid : ℕ) : Status → Type 0 where
  before-open : {n : Status} → NoTreeFor c t n → NoOpenFor c t fid n
  no-open : SessionHere c t → HasTree t c.tid c.uid → ((o : Open) × OpenOf c t fid o → ⊥) → NoOpenFor c t fid (status 1 6)

module _ (c : Caller) (t : Tables) where
  -- ---- the tests behind them

  pub session-here : any (is_session c) (sessions_of t) ≡ true → SessionHere c t
  unfolding SessionHere is_session
  session-here e =
      let s = any-one (is_session c) (sessions_of t) e in
      let b = both_hold (eqb s.0.uid c.uid) (eqb s.0.connection c.connection) s.2 in
      (s.0, s.1, eqb-true s.0.uid c.uid b.0, eqb-true s.0.connection c.connection b.1)

  pub here-session : SessionHere c t → any (is_session c) (sessions_of t) ≡ true
  unfolding SessionHere is_session
  here-session s =
      one-any (is_session c) s.1
      (hold-both (eqb s.0.uid c.uid) (eqb s.0.connection c.connection) (eq-eqb s.0.uid c.uid s.2) (eq-eqb s.0.connection c.connection s.3))

  module _ (fid : ℕ) where
    open-test : (o : Open) → In o (opens_of t) → is_open c fid o ≡ true → OpenOf c t fid o
    unfolding is_open
    open-test o m e =
        let a = both_hold (eqb o.fid fid) (eqb o.uid c.uid && eqb o.tid c.tid) e in
        let b = both_hold (eqb o.uid c.uid) (eqb o.tid c.tid) a.1 in
        record { listed = m; of-fid = eqb-true o.fid fid a.0; of-uid = eqb-true o.uid c.uid b.0; of-tid = eqb-true o.tid c.tid b.1 }

    pub test-open : (o : Open) → OpenOf c t fid o → is_open c fid o ≡ true
    unfolding is_open
    test-open o h =
        hold-both (eqb o.fid fid) (eqb o.uid c.uid && eqb o.tid c.tid) (eq-eqb o.fid fid h.of-fid)
        (hold-both (eqb o.uid c.uid) (eqb o.tid c.tid) (eq-eqb o.uid c.uid h.of-uid) (eq-eqb o.tid c.tid h.of-tid))

    pub open-found : (k : ℕ) → found (is_open c fid) (opens_of t) ≡ Some k → OpenOf c t fid (get_or (opens_of t) k no_open)
    open-found k e =
        let h = found-hit (is_open c fid) (opens_of t) k no_open e in
        open-test (get_or (opens_of t) k no_open) h.listed h.passes

    pub open-nowhere : found (is_open c fid) (opens_of t) ≡ None → (o : Open) × OpenOf c t fid o → ⊥
    open-nowhere e o = not-decided-twice (is_open c fid o.0) (test-open o.0 o.1) (found-miss (is_open c fid) o.1.listed e)

    pub nowhere-open : (x : Option ℕ) → found (is_open c fid) (opens_of t) ≡ x → ((o : Open) × OpenOf c t fid o → ⊥) → x ≡ None
    nowhere-open (Some k) e h = absurd (h (get_or (opens_of t) k no_open, open-found k e))
    nowhere-open None e h = refl

  -- ---- either one of them is missing or the caller may ask

  -- ---- what that makes of a command

  pub with-open : (fid k : ℕ) (next : Open → Given) → May c t fid k → with_open c t fid next ≡ next (get_or (opens_of t) k no_open)
  unfolding with_open with_tree with_session open_at
  with-open fid k next may = rw (may.session, may.tree, may.named)

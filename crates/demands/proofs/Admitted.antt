-- Of specs/Admitted.antt: what rests on its other theorems. Assumes nothing.
use Rattle.std.specs.Prelude.{◌≡◌, ◌⊎◌, ℕ, true, false, cond, get_or, Option, Some, None}
use Rattle.std.proofs.Math.Path.{refl}
use Rattle.std.proofs.Common.{sym, ◌∙◌, inl, inr}
use Rattle.lists.specs.Walk.{any, found}
use Rattle.lists.specs.Truth.{fails, decided, not-decided-twice}
use Rattle.records.specs.declared.Open.{Open}
use Rattle.records.specs.declared.Tables.{Tables}
use Rattle.records.specs.Empty.{no_open}
use Rattle.records.specs.Held.{sessions_of, trees_of, opens_of}
use Rattle.numbers.specs.Column.{fid_of}
use Rattle.soundness.specs.Lookup.{is_tree}
use Rattle.soundness.specs.Sound.{sound}
use Rattle.invariants.specs.Numbered.{numbered-same}
use Rattle.invariants.specs.SoundParts.{sound-says}
use Rattle.claims.specs.HostReasons.{HasTree, has-tree, tree-found, tree-missing}
use Rattle.claims.specs.Cases.{status_in}
use Rattle.message.specs.declared.caller.Caller.{Caller}
use Rattle.message.specs.Refusal.{status, forms_of}
use Rattle.message.specs.declared.refusal.Status.{Status}
use Rattle.message.specs.declared.refusal.Refusal.TheVariants.{NoTree}
use Rattle.message.specs.Command.{Given, refused, is_session, with_session, with_tree, is_open, open_at, with_open}
use Rattle.demands.specs.LoneLock.{May, some_at}
use Rattle.demands.specs.Admitted.{Admitted, NoOpenFor, NoSessionFor, NoTreeFor, SessionHere, here-session, nowhere-open, open-found, open-nowhere, session-here, test-open}
use Rattle.demands.specs.Admitted.{before-open}
use Rattle.demands.specs.Admitted.{before-tree}
use Rattle.demands.specs.Admitted.{no-open}
use Rattle.demands.specs.Admitted.{no-session}
use Rattle.demands.specs.Admitted.{no-tree}

module _ (c : Caller) (t : Tables) where
  pub nowhere-session : (SessionHere c t → ⊥) → any (is_session c) (sessions_of t) ≡ false
  nowhere-session h = fails (any (is_session c) (sessions_of t)) (λ e. h ((session-here c t) e))

  pub session-nowhere : any (is_session c) (sessions_of t) ≡ false → SessionHere c t → ⊥
  session-nowhere e s = not-decided-twice (any (is_session c) (sessions_of t)) ((here-session c t) s) e

  module _ (fid : ℕ) where
    -- FIDs being distinct, the open that is found is the one meant
    pub admitted-may : sound t ≡ true → (o : Open) → Admitted c t fid o → (k : ℕ) × May c t fid k × (get_or (opens_of t) k no_open ≡ o)
    admitted-may ok o a =
        let w = some_at (is_open c fid) (opens_of t) (found (is_open c fid) (opens_of t)) refl a.opened.listed ((test-open c t fid) o a.opened) in
        let h = (open-found c t fid) w.0 w.1 in (
          w.0,
          record { session = (here-session c t) a.session; tree = tree-found t c.tid c.uid a.tree; named = w.1 },
          numbered-same fid_of 64 (opens_of t) (sound-says t ok).records.fids h.listed a.opened.listed (h.of-fid ∙ sym a.opened.of-fid),
        )

  pub session-or : ((n : Status) × NoSessionFor c t n) ⊎ SessionHere c t
  session-or =
      elim (decided (any (is_session c) (sessions_of t))) [
        | inl e ↦ inr ((session-here c t) e)
        | inr e ↦ inl (status 2 91, no-session (session-nowhere e))
      ]

  pub tree-or : ((n : Status) × NoTreeFor c t n) ⊎ (SessionHere c t × HasTree t c.tid c.uid)
  tree-or =
      elim session-or [
        | inl h ↦ inl (h.0, before-tree h.1)
        | inr s ↦ elim (decided (any (is_tree c.tid c.uid) (trees_of t))) [
          | inl e ↦ inr (s, has-tree t c.tid c.uid e)
          | inr e ↦ inl (status 2 5, no-tree s (λ r. not-decided-twice (any (is_tree c.tid c.uid) (trees_of t)) (tree-found t c.tid c.uid r) e))
        ]
      ]

  pub found-or : (fid : ℕ) (x : Option ℕ) → found (is_open c fid) (opens_of t) ≡ x → SessionHere c t → HasTree t c.tid c.uid
      → ((n : Status) × NoOpenFor c t fid n) ⊎ ((k : ℕ) × May c t fid k × Admitted c t fid (get_or (opens_of t) k no_open))
  found-or fid (Some k) e s r =
      inr (
        k,
        record { session = (here-session c t) s; tree = tree-found t c.tid c.uid r; named = e },
        record { session = s; tree = r; opened = (open-found c t) fid k e },
      )
  found-or fid None e s r = inl (status 1 6, no-open s r ((open-nowhere c t) fid e))

  pub open-or : (fid : ℕ) → ((n : Status) × NoOpenFor c t fid n) ⊎ ((k : ℕ) × May c t fid k × Admitted c t fid (get_or (opens_of t) k no_open))
  open-or fid =
      elim tree-or [
        | inl h ↦ inl (h.0, before-open h.1)
        | inr h ↦ found-or fid (found (is_open c fid) (opens_of t)) refl h.0 h.1
      ]

  -- the questions are passed
  pub with-session : (next : Given) → SessionHere c t → with_session c t next ≡ next
  unfolding with_session
  with-session next s = rw ((here-session c t) s)

  pub with-tree : (next : Given) → SessionHere c t → HasTree t c.tid c.uid → with_tree c t next ≡ next
  unfolding with_tree
  with-tree next s r = rw (tree-found t c.tid c.uid r) (with-session next s)

  -- or one of them is not
  pub session-given : {n : Status} (next : Given) → NoSessionFor c t n → status_in (with_session c t next) ≡ n
  unfolding with_session status_in forms_of
  session-given next (no-session h) = rw (nowhere-session h)

  pub tree-given : {n : Status} (next : Given) → NoTreeFor c t n → status_in (with_tree c t next) ≡ n
  unfolding with_tree status_in forms_of
  tree-given next (before-tree h) = session-given (cond (any (is_tree c.tid c.uid) (trees_of t)) next (refused NoTree)) h
  tree-given next (no-tree s h) = rw (tree-missing t c.tid c.uid h, with-session (refused NoTree) s)

  pub open-given : {n : Status} (fid : ℕ) (next : Open → Given) → NoOpenFor c t fid n → status_in (with_open c t fid next) ≡ n
  unfolding with_open open_at status_in forms_of
  open-given fid next (before-open h) = tree-given (open_at (found (is_open c fid) (opens_of t)) (opens_of t) next) h
  open-given fid next (no-open s r h) =
      rw (with-tree (open_at (found (is_open c fid) (opens_of t)) (opens_of t) next) s r, (nowhere-open c t) fid (found (is_open c fid) (opens_of t)) refl h)

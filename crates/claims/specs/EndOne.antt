-- One session, tree or open ended by its number: each number returned for its one reason, and what a call that is done
-- leaves. What goes is what LOGOFF, TREE_DISCONNECT and CLOSE take out (document 01, "Locks, reads and writes", last
-- paragraph). Assumes nothing.
use Rattle.std.specs.Prelude.{◌≡◌, true, false, not, ℕ}
use mathlib.Core.List.{map, Memᴰ as In}
use Rattle.std.proofs.lemmas.Bool.{not-true, not-false}
use Rattle.lists.specs.Truth.{fails, not-decided-twice}
use Rattle.records.specs.declared.Tables.{Tables}
use Rattle.records.specs.Held.{sessions_of, trees_of, opens_of}
use Rattle.numbers.specs.Column.{uid_of, tid_of, fid_of}
use Rattle.soundness.specs.Sound.{sound}
use Rattle.host.specs.declared.answer.Returned.{Returned}
use Rattle.host.specs.declared.ending.One.{One}
use Rattle.host.specs.declared.ending.One.TheVariants.{Session as OneSession, Tree as OneTree, Open as OneOpen}
use Rattle.host.specs.HostCall.{refused, done, is_there, end_one}
use Rattle.invariants.specs.HostCases.{by-test}
use Rattle.invariants.specs.Numbered.{contains-in, in-contains}
use Rattle.claims.specs.HostFrames.{Counted}
use Rattle.claims.specs.RemovalPlain.{Closed, Disconnected, LoggedOff}

-- a record in use has the number
unfoldable pub InUse : One → Tables → Type 0
InUse (OneSession uid) t = In uid (map uid_of (sessions_of t))
InUse (OneTree tid) t = In tid (map tid_of (trees_of t))
InUse (OneOpen fid) t = In fid (map fid_of (opens_of t))

-- "4 tables not sound", then 6 for a number that no record has
pub data EndReason (t : Tables) (one : One) : ℕ → Type 0 where
  end-unsound : sound t ≡ false → EndReason t one 4
  end-unknown : sound t ≡ true → (InUse one t → ⊥) → EndReason t one 6
  end-done : sound t ≡ true → InUse one t → EndReason t one 0

there-used : (one : One) (t : Tables) → is_there one t ≡ true → InUse one t
unfolding is_there InUse
there-used (OneSession uid) t e = contains-in uid (map uid_of (sessions_of t)) e
there-used (OneTree tid) t e = contains-in tid (map tid_of (trees_of t)) e
there-used (OneOpen fid) t e = contains-in fid (map fid_of (opens_of t)) e

used-there : (one : One) (t : Tables) → InUse one t → is_there one t ≡ true
unfolding is_there InUse
used-there (OneSession uid) t m = in-contains m
used-there (OneTree tid) t m = in-contains m
used-there (OneOpen fid) t m = in-contains m

-- each number for its reason
pub end_one-reason : (t : Tables) (one : One) → EndReason t one (end_one t one).number
unfolding end_one refused done
end_one-reason t one =
    by-test Given (not (sound t)) (refused 4 t) _ (λ u. end-unsound (not-true (sound t) u)) λ u.
    by-test Given (not (is_there one t)) (refused 6 t) _
    (λ v. end-unknown (not-false (sound t) u) (λ m. not-decided-twice (is_there one t) (used-there one t m) (not-true (is_there one t) v))) λ v.
    end-done (not-false (sound t) u) (there-used one t (not-false (is_there one t) v))
  where
    Given : Returned → Type 0
    Given a = EndReason t one a.number

-- and each reason gives its number
pub end_one-given : (t : Tables) (one : One) {n : ℕ} → EndReason t one n → (end_one t one).number ≡ n
unfolding end_one refused done
end_one-given t one (end-unsound a) = rw a
end_one-given t one (end-unknown a b) = rw (a, fails (is_there one t) (λ e. b (there-used one t e)))
end_one-given t one (end-done a b) = rw (a, used-there one t b)

-- what is left: the session is gone with its trees, opens and locks, the tree with its opens and their locks, or the open with its locks
unfoldable pub WithoutOne : One → Tables → Tables → Type 0
WithoutOne (OneSession uid) t after = LoggedOff uid t after
WithoutOne (OneTree tid) t after = Disconnected tid t after
WithoutOne (OneOpen fid) t after = Closed fid t after

-- every other record stands in its order, each count is that of the records left, neither file nor catalogue is touched, and no number is given out
pub record OneEnded (t : Tables) (one : One) (a : Returned) : Type 0 where
  pub records : WithoutOne one t a.tables
  pub counts : Counted a.tables
  pub no_number : a.id ≡ 0

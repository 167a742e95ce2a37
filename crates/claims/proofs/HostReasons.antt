-- Of specs/HostReasons.antt: what rests on its other theorems. Assumes nothing.
use Rattle.std.specs.Prelude.{◌≡◌, true, not, ℕ}
use mathlib.Core.List.{List}
use Rattle.std.proofs.lemmas.Bool.{not-true, not-false}
use Rattle.records.specs.declared.Name.{Name}
use Rattle.records.specs.declared.Tables.{Tables}
use Rattle.catalogue.specs.Name.{catalogue_ok}
use Rattle.soundness.specs.Sound.{sound}
use Rattle.host.specs.HostCall.{refused, done, set_catalogue}
use Rattle.invariants.specs.HostCases.{by-test}
use Rattle.claims.proofs.CataloguePlain.{catalogue-says, catalogue-ok, rule-broken, rule-fails}
use Rattle.claims.specs.HostReasons.{SetReason}
use Rattle.claims.specs.HostReasons.{set-broken}
use Rattle.claims.specs.HostReasons.{set-done}
use Rattle.claims.specs.HostReasons.{set-unsound}

-- "each is given only for its reason": setting the catalogue
pub set_catalogue-reason : (t : Tables) (names : List Name) (count : ℕ) → SetReason t names count (set_catalogue t names count).number
unfolding set_catalogue refused done
set_catalogue-reason t names count =
    by-test (λ a. SetReason t names count a.number) (not (sound t)) (refused 4 t) _ (λ u. set-unsound (not-true (sound t) u)) λ u.
    let e : sound t ≡ true = not-false (sound t) u in
    by-test (λ a. SetReason t names count a.number) (not (catalogue_ok names count)) (refused 7 t) _
    (λ v. set-broken e (rule-broken names count (not-true (catalogue_ok names count) v))) λ v.
    set-done e (catalogue-says names count (not-false (catalogue_ok names count) v))

-- "Order: 2, 4, 7, 6, 8, 9, 5, 1": setting the catalogue
pub set_catalogue-given : (t : Tables) (names : List Name) (count : ℕ) {n : ℕ} → SetReason t names count n → (set_catalogue t names count).number ≡ n
unfolding set_catalogue refused done
set_catalogue-given t names count (set-unsound a) = rw a
set_catalogue-given t names count (set-broken a b) = rw (a, rule-fails names count b)
set_catalogue-given t names count (set-done a b) = rw (a, catalogue-ok names count b)

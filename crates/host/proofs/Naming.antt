-- A catalogue set: why it is refused, and what is left where it is not.
-- Assumes nothing.
use mathlib.Core.Path.{◌≡◌}
use Prim.Native.Nat.{ℕ}
use mathlib.Core.Bool.{true, false, ◌&&◌}
use mathlib.Core.List.{List}
use Rattle.lists.specs.Truth.{both_hold, test-cases}
use Rattle.records.specs.Held.{with_catalogue}
use Rattle.tables.specs.Words.{word, name_array, name_limits, table_fits, tables_of}
use Rattle.catalogue.specs.Name.{catalogue_ok}
use Rattle.soundness.specs.Sound.{sound}
use Rattle.host.specs.HostCall.{refused, done, set_catalogue}
use Rattle.host.specs.OnWords.{set_on_sound}

module _ (w given : List ℕ) where
  pub catalogue-unsound : sound (tables_of w) ≡ false → set_on_sound w given ≡ refused 4 (tables_of w)
  unfolding set_on_sound
  catalogue-unsound e = rw e

  module _ (ok : sound (tables_of w) ≡ true) where
    pub catalogue-wrong : (table_fits name_limits 16 given && catalogue_ok (name_array given) (word given 0)) ≡ false → set_on_sound w given ≡ refused 7 (tables_of w)
    unfolding set_on_sound set_catalogue
    catalogue-wrong e =
        test-cases (table_fits name_limits 16 given)
        (λ f. let c : catalogue_ok (name_array given) (word given 0) ≡ false = rw f at e in rw (ok, f, c))
        (λ f. rw (ok, f))

    pub catalogue-set : (table_fits name_limits 16 given && catalogue_ok (name_array given) (word given 0)) ≡ true
        → set_on_sound w given ≡ done 0 (with_catalogue (tables_of w) (name_array given) (word given 0))
    unfolding set_on_sound set_catalogue
    catalogue-set e =
        let b = both_hold (table_fits name_limits 16 given) (catalogue_ok (name_array given) (word given 0)) e in
        rw (ok, b.0, b.1)

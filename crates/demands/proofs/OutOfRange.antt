-- Of specs/OutOfRange.antt: what rests on its other theorems. Assumes nothing.
use Rattle.std.specs.Prelude.{◌≡◌, ◌⊎◌, ◌↔◌, ℕ, true}
use Rattle.std.proofs.Common.{ap, ◌∙◌}
use Rattle.std.proofs.Math.Logic.{inl, inr, ⊎_elim}
use native.Mathlib.Omega.{arith}
use mathlib.Core.List.{List}
use Rattle.lists.specs.Truth.{not-decided-twice, test-cases}
use Rattle.catalogue.specs.Name.{catalogue_ok}
use Rattle.host.specs.HostCall.{refused}
use Rattle.host.specs.declared.answer.Returned.{Returned}
use Rattle.claims.specs.CataloguePlain.{BrokenRule}
use Rattle.claims.proofs.CataloguePlain.{catalogue-says, rule-broken}
use Rattle.claims.specs.HostReasons.{set-broken, set-done}
use Rattle.claims.proofs.HostReasons.{set_catalogue-given}
use Rattle.tables.specs.Words.{word, name_array, name_limits, table_fits, tables_of}
use Rattle.boundary.specs.Boundary.{ready, number_of, catalogue_set}
use Rattle.boundary.proofs.BoundaryLaws.{set-core}
use Rattle.boundary.specs.BoundaryLaws.{set-no-bytes}
use Rattle.demands.specs.OutOfRange.{NoByte, core-number, no-byte-unfit, ready-says, unfit-no-byte}

module _ (given : List ℕ) where
  module _ (w : List ℕ) (h : ready w ≡ true) where
    -- "for the catalogue 7: over 16 names, a name of another length, with a zero byte or doubled, a file above 15", and for words that are no bytes
    pub catalogue-range : NoByte given ⊎ BrokenRule (name_array given) (word given 0) → number_of w (catalogue_set w given) ≡ 7
    unfolding refused
    catalogue-range why =
        core-number w h _
        (test-cases (table_fits name_limits 16 given)
        (λ fit.
        ⊎_elim (λ b. absurd (not-decided-twice (table_fits name_limits 16 given) fit ((no-byte-unfit given) b)))
        (λ b. rw (set-core w given fit) (set_catalogue-given (tables_of w) (name_array given) (word given 0) (set-broken (ready-says w h).1 b)))
        why)
        (λ fit. rw (set-no-bytes w given (ready-says w h).1 fit)))

    -- 7 for no other reason
    pub range-catalogue : number_of w (catalogue_set w given) ≡ 7 → NoByte given ⊎ BrokenRule (name_array given) (word given 0)
    range-catalogue e =
        test-cases (table_fits name_limits 16 given)
        (λ fit.
        test-cases (catalogue_ok (name_array given) (word given 0))
        (λ rules.
        let none : number_of w (catalogue_set w given) ≡ 0 =
        core-number w h (catalogue_set w given) (ap (λ (a : Returned). a.number) (set-core w given fit) ∙ set_catalogue-given (tables_of w) (name_array given) (word given 0) (set-done (ready-says w h).1 (catalogue-says (name_array given) (word given 0) rules))) in
        absurd (let z : ⊥ = omega arith in z))
        (λ rules. inr (rule-broken (name_array given) (word given 0) rules)))
        (λ fit. inl ((unfit-no-byte given) fit))

    pub catalogue-seven : (number_of w (catalogue_set w given) ≡ 7) ↔ (NoByte given ⊎ BrokenRule (name_array given) (word given 0))
    catalogue-seven = (range-catalogue, catalogue-range)

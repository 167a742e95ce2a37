-- `host::names::set_sound` meets its contract: a catalogue that does not keep its rules is refused, and another is copied whole. Assumes nothing.
use Rattle.host.specs.declared.answer.HostRefusal.TheVariants.{OutOfRange}
use mathlib.Core.Path.{◌≡◌, sym, ap, ◌∙◌}
use Prim.Native.Nat.{ℕ}
use native.Mathlib.Omega.{arith}
use mathlib.Core.List.{List}
use Rattle.lists.specs.Truth.{both_hold}
use Rattle.records.specs.Held.{with_catalogue}
use Rattle.tables.specs.Words.{word, name_array, name_limits, table_fits, tables_of, in_use_fit}
use Rattle.tables.specs.PartLaws.{lent}
use Rattle.tables.specs.WholeLaws.{tables-names, fit-names}
use Rattle.catalogue.specs.Name.{catalogue_ok}
use Rattle.host.specs.OnWords.{set_on_sound}
use Rattle.host.proofs.Leaving.{left-refused, left-done}
use Rattle.host.proofs.Naming.{catalogue-wrong, catalogue-set}
use Rattle.host.proofs.names.set_sound.Goals as goal

pub returns-then-not-catalogue_ok : goal.returns-then-not-catalogue_ok
returns-then-not-catalogue_ok c =
    let w = c.args.words.now in
    let given = c.args.given.now in
    let wrong = sym c.catalogue_ok.ensures ∙ c.if-not-catalogue_ok.true in
    record { left = left-refused w OutOfRange (set_on_sound w given) (catalogue-wrong w given c.requires.1.0 wrong); words_after = λ e. let q : ◌≡◌ {A = ℕ} 7 0 = e in absurd (let z : ⊥ = omega arith in z) }

pub returns : goal.returns
returns c =
    let w = c.args.words.now in
    let given = c.args.given.now in
    let full = c.requires.0 in
    let long = c.requires.1.1 in
    let same = c.copy_words.ensures in
    let right = sym c.catalogue_ok.ensures ∙ c.if-not-catalogue_ok.false in
    let fits = (both_hold (table_fits name_limits 16 given) (catalogue_ok (name_array given) (word given 0)) right).0 in record {
      left = left-done w (lent w 1380 225 c.copy_words.new.to) 0 (set_on_sound w given) (with_catalogue (tables_of w) (name_array given) (word given 0)) (catalogue-set w given c.requires.1.0 right)
          (ap (λ (l : List ℕ). tables_of (lent w 1380 225 l)) same ∙ tables-names w given full long)
          (λ f. ap (λ (l : List ℕ). in_use_fit (lent w 1380 225 l)) same ∙ fit-names w given full long f fits);
      words_after = λ _. ap (lent w 1380 225) same;
    }

-- `host::names::set_catalogue` meets its contract: words that are not those of sound tables are refused, and the call on sound tables does the rest.
-- Assumes nothing.
use Rattle.host.specs.declared.answer.HostRefusal.TheVariants.{NotSound}
use borrow.Author.Rules.{rules}
use mathlib.Core.Path.{◌≡◌, sym, ◌∙◌}
use Prim.Native.Nat.{ℕ}
use native.Mathlib.Omega.{arith}
use Rattle.lists.specs.Truth.{both_hold}
use Rattle.tables.specs.Words.{tables_of, in_use_fit}
use Rattle.soundness.specs.Sound.{sound}
use Rattle.host.specs.OnWords.{set_on_sound, set_on_words}
use Rattle.host.proofs.Leaving.{on-unsound, on-sound, left-refused, left-same}
use Rattle.host.proofs.Naming.{catalogue-unsound}
use Rattle.host.proofs.names.set_catalogue.Goals as goal

pub returns-then-not-is_sound : goal.returns-then-not-is_sound
unfolding set_on_words
returns-then-not-is_sound c =
    let w = c.args.words.now in
    let given = c.args.given.now in
    let unsound = sym c.is_sound.ensures ∙ c.if-not-is_sound.true in
    record { left = left-refused w NotSound (set_on_words w given) (on-unsound w (set_on_sound w given) unsound (catalogue-unsound w given)); words_after = λ e. let q : ◌≡◌ {A = ℕ} 4 0 = e in absurd (let z : ⊥ = omega arith in z) }

pub set_sound-requires : goal.set_sound-requires
set_sound-requires c =
    let w = c.args.words.now in
    (search rules, ((both_hold (in_use_fit w) (sound (tables_of w)) (sym c.is_sound.ensures ∙ c.if-not-is_sound.false)).1, search rules))

pub returns : goal.returns
unfolding set_on_words
returns c =
    let w = c.args.words.now in
    let given = c.args.given.now in
    let good = sym c.is_sound.ensures ∙ c.if-not-is_sound.false in
    record { left = left-same (set_on_sound w given) (set_on_words w given) w c.set_sound.new.words c.set_sound.result (on-sound w (set_on_sound w given) good) c.set_sound.ensures.left; words_after = c.set_sound.ensures.words_after }

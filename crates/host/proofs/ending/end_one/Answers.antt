-- `host::ending::end_one` meets its contract: words that are not those of sound tables are refused, and the call on sound tables does the rest.
-- Assumes nothing.
use Rattle.host.specs.declared.answer.HostRefusal.TheVariants.{NotSound}
use borrow.Author.Rules.{rules}
use mathlib.Core.Path.{sym, ◌∙◌}
use Rattle.lists.specs.Truth.{both_hold}
use Rattle.tables.specs.Words.{tables_of, in_use_fit}
use Rattle.soundness.specs.Sound.{sound}
use Rattle.host.specs.HostCall.{end_one}
use Rattle.host.specs.OnWords.{on_words}
use Rattle.host.proofs.Leaving.{one-unsound, on-unsound, on-sound, left-refused, left-same}
use Rattle.host.proofs.ending.end_one.Goals as goal

pub returns-then-not-is_sound : goal.returns-then-not-is_sound
returns-then-not-is_sound c =
    let args = c.args in
    let is-sound = c.is_sound in
    let w = args.words.now in
    left-refused w NotSound (on_words w (end_one (tables_of w) args.one)) (on-unsound w (end_one (tables_of w) args.one) (sym is-sound.ensures ∙ c.if-not-is_sound.true) (one-unsound (tables_of w) args.one))

pub end_sound-requires : goal.end_sound-requires
end_sound-requires c =
    let is-sound = c.is_sound in
    let w = c.args.words.now in
    (search rules, (both_hold (in_use_fit w) (sound (tables_of w)) (sym is-sound.ensures ∙ c.if-not-is_sound.false)).1)

pub returns : goal.returns
returns c =
    let args = c.args in
    let is-sound = c.is_sound in
    let w = args.words.now in
    left-same (end_one (tables_of w) args.one) (on_words w (end_one (tables_of w) args.one)) w c.end_sound.new.words c.end_sound.result (on-sound w (end_one (tables_of w) args.one) (sym is-sound.ensures ∙ c.if-not-is_sound.false)) c.end_sound.ensures

-- `host::unchanged::ask_unchanged` meets its contract: words that are not those of sound tables are refused, and the question on sound
-- tables does the rest. Assumes nothing.
use borrow.Author.Rules.{rules}
use mathlib.Core.Path.{refl, sym, ◌∙◌}
use Rattle.lists.specs.Truth.{both_hold}
use Rattle.tables.specs.Words.{tables_of, in_use_fit}
use Rattle.soundness.specs.Sound.{sound}
use Rattle.host.specs.HostCall.{refused, ask_unchanged}
use Rattle.host.proofs.Leaving.{on-unsound, on-sound}
use Rattle.host.proofs.Asked.{ask-unsound}
use Rattle.host.proofs.unchanged.ask_unchanged.Goals as goal

pub returns-then-not-is_sound : goal.returns-then-not-is_sound
unfolding refused
returns-then-not-is_sound c =
    let w = c.args.words.now in
    rw (on-unsound w (ask_unchanged (tables_of w) c.args.fid) (sym c.is_sound.ensures ∙ c.if-not-is_sound.true) (ask-unsound (tables_of w) c.args.fid)) (record { row = refl; given = refl })

pub ask_sound-requires : goal.ask_sound-requires
ask_sound-requires c =
    let w = c.args.words.now in
    (search rules, (both_hold (in_use_fit w) (sound (tables_of w)) (sym c.is_sound.ensures ∙ c.if-not-is_sound.false)).1)

pub returns : goal.returns
returns c =
    let w = c.args.words.now in
    rw (on-sound w (ask_unchanged (tables_of w) c.args.fid) (sym c.is_sound.ensures ∙ c.if-not-is_sound.false)) c.ask_sound.ensures

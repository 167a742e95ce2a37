-- `host::ending::end_sound` meets its contract: 6 for a number that no record has; otherwise sound tables lose what it names.
-- Assumes nothing.
use Rattle.host.specs.declared.answer.HostRefusal.TheVariants.{NoSuch}
use mathlib.Core.Path.{sym, ap, ◌∙◌}
use Rattle.tables.specs.Words.{tables_of}
use Rattle.removal.specs.Removal.{remove}
use Rattle.removal.specs.declared.Gone.{Gone}
use Rattle.host.specs.HostCall.{end_one, gone_with}
use Rattle.host.proofs.Leaving.{sound-numbered, left-refused, left-done}
use Rattle.host.proofs.ending.end_sound.Goals as goal

pub returns-then-not-is_there : goal.returns-then-not-is_there
unfolding end_one
returns-then-not-is_there c =
    let w = c.args.words.now in
    left-refused w NoSuch _ (rw (c.requires.1, (sym c.is_there.ensures ∙ c.if-not-is_there.true)))

pub remove_named-requires : goal.remove_named-requires
remove_named-requires c = (c.requires.0, sound-numbered (tables_of c.args.words.now) c.requires.1)

pub returns : goal.returns
unfolding end_one
returns c =
    let w = c.args.words.now in
    left-done w c.remove_named.new.words 0 _ (remove (gone_with c.args.one) (tables_of w)) (rw (c.requires.1, (sym c.is_there.ensures ∙ c.if-not-is_there.false)))
    (c.remove_named.ensures.tables ∙ ap (λ (g : Gone). remove g (tables_of w)) c.gone_with.ensures) c.remove_named.ensures.fit

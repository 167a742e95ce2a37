-- `host::file::load_file` meets its contract: a wrong room is refused first, then words that are not those of sound tables, and the load into sound tables does the rest.
-- Assumes nothing.
use Rattle.host.specs.declared.answer.HostRefusal.TheVariants.{NotSound, WrongRoom}
use borrow.Author.Rules.{rules}
use mathlib.Core.Path.{sym, ◌∙◌}
use Rattle.lists.specs.Truth.{both_hold}
use Rattle.tables.specs.Words.{tables_of, in_use_fit}
use Rattle.soundness.specs.Sound.{sound}
use Rattle.host.specs.HostCall.{load_file}
use Rattle.host.specs.OnWords.{load_on_words}
use Rattle.host.proofs.Leaving.{left-refused, left-same}
use Rattle.host.proofs.Loaded.{load-wrong-room, load-unsound, load-on-sound}
use Rattle.host.proofs.file.load_file.Goals as goal

pub returns-then-memory-ne-MEMORY : goal.returns-then-memory-ne-MEMORY
returns-then-memory-ne-MEMORY c =
    let args = c.args in
    let w = args.words.now in
    let e = load-wrong-room w args.file args.contents.now args.memory.now c.if-memory-ne-MEMORY.true in
    record { left = left-refused w WrongRoom (load_on_words w args.file args.contents.now args.memory.now) e.0; memory_after = sym e.1 }

pub returns-then-not-is_sound : goal.returns-then-not-is_sound
returns-then-not-is_sound c =
    let args = c.args in
    let is-sound = c.is_sound in
    let w = args.words.now in
    let e = load-unsound w args.file args.contents.now args.memory.now c.if-memory-ne-MEMORY.false (sym is-sound.ensures ∙ c.if-not-is_sound.true) in
    record { left = left-refused w NotSound (load_on_words w args.file args.contents.now args.memory.now) e.0; memory_after = sym e.1 }

pub load_sound-requires : goal.load_sound-requires
load_sound-requires c =
    let is-sound = c.is_sound in
    let w = c.args.words.now in
    (search rules, ((both_hold (in_use_fit w) (sound (tables_of w)) (sym is-sound.ensures ∙ c.if-not-is_sound.false)).1, c.if-memory-ne-MEMORY.false))

pub returns : goal.returns
returns c =
    let args = c.args in
    let is-sound = c.is_sound in
    let load-sound = c.load_sound in
    let w = args.words.now in
    let e = load-on-sound w args.file args.contents.now args.memory.now c.if-memory-ne-MEMORY.false (sym is-sound.ensures ∙ c.if-not-is_sound.false) in
    record { left = left-same (load_file (tables_of w) args.file args.contents.now args.memory.now) (load_on_words w args.file args.contents.now args.memory.now) w load-sound.new.words load-sound.result e.0 load-sound.ensures.left; memory_after = load-sound.ensures.memory_after ∙ sym e.1 }

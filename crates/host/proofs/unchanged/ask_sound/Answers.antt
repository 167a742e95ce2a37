-- `host::unchanged::ask_sound` meets its contract: the open found is one in use, and of one of the 16 files. Assumes nothing.
use mathlib.Core.Path.{◌≡◌, refl, sym, ap, ◌∙◌}
use mathlib.Core.Bool.{Bool, cond}
use mathlib.Core.List.{List}
use Prim.Native.Nat.{ℕ}
use native.Mathlib.Omega.{arith}
use lib.ListN.{length, get_or}
use lib.Dec.{eqb}
use Rattle.lists.specs.Walk.{found}
use Rattle.std.specs.Prelude.{Some}
use Rattle.records.specs.Empty.{no_open}
use Rattle.records.specs.Held.{opens_of}
use Rattle.records.specs.declared.Open.{Open}
use Rattle.tables.specs.Words.{part, open_array, tables_of}
use Rattle.tables.specs.PartLaws.{length_part}
use Rattle.tables.specs.WholeLaws.{opens_in_lem}
use Rattle.soundness.specs.SoundLaws.{sound-room}
use Rattle.host.specs.HostCall.{is_unchanged, done, refused}
use Rattle.host.proofs.Asked.{sound-listed, place_inside, place-used, ask-nobody, ask-answered}
use Rattle.host.proofs.unchanged.ask_sound.Goals as goal

abbrev has : ℕ → Open → Bool
has fid o = eqb o.fid fid

-- the record read off the array is the one in use
used : (w : List ℕ) (fid k : ℕ) (o : Open) → Some k ≡ found (has fid) (opens_of (tables_of w)) → o ≡ get_or (open_array (part w 130 577)) k no_open
    → o ≡ get_or (opens_of (tables_of w)) k no_open
used w fid k o e q = q ∙ place-used (has fid) (part w 130 577) k (e ∙ ap (found (has fid)) (opens_in_lem w)) ∙ ap (λ (l : List Open). get_or l k no_open) (sym (opens_in_lem w))

pub find_fid-requires : goal.find_fid-requires
unfolding tables_of
find_fid-requires c =
    let w = c.args.words.now in
    let full : length w ≡ 1605 = c.requires.0 in
    (length_part w 130 577 (omega arith), (sound-room (tables_of w) c.requires.1).opens-fit)

pub open_at-o-requires : goal.open_at-o-requires
open_at-o-requires c =
    let w = c.args.words.now in
    let full : length w ≡ 1605 = c.requires.0 in
    (length_part w 130 577 (omega arith), place_inside (has c.args.fid) (part w 130 577) c.in-Some.i (sym c.in-Some.is ∙ c.find_fid.ensures))

pub is_unchanged-requires : goal.is_unchanged-requires
is_unchanged-requires c =
    let w = c.args.words.now in
    let found_at = sym c.in-Some.is ∙ c.find_fid.ensures ∙ ap (found (has c.args.fid)) (sym (opens_in_lem w)) in
    let is = used w c.args.fid c.in-Some.i c.open_at-o.result found_at c.open_at-o.ensures in
    (c.requires.0, rw (← is) at (sound-listed (tables_of w) c.in-Some.i c.requires.1))

pub returns : goal.returns
unfolding done
returns c =
    let w = c.args.words.now in
    let t = tables_of w in
    let k = c.in-Some.i in
    let found_at = sym c.in-Some.is ∙ c.find_fid.ensures ∙ ap (found (has c.args.fid)) (sym (opens_in_lem w)) in
    let is = used w c.args.fid k c.open_at-o.result found_at c.open_at-o.ensures in
    let says = c.is_unchanged.ensures ∙ ap (is_unchanged t) is in
    let id = c.answer_of.ensures ∙ ap (λ (b : Bool). cond b 1 0) says in
    rw (ask-answered t c.args.fid c.requires.1 k found_at) (record { row = refl; given = id })

pub returns-in_default : goal.returns-in_default
unfolding refused
returns-in_default c =
    let w = c.args.words.now in
    rw (ask-nobody (tables_of w) c.args.fid c.requires.1 (sym c.in_default.is ∙ c.find_fid.ensures ∙ ap (found (has c.args.fid)) (sym (opens_in_lem w)))) (record { row = refl; given = refl })

-- `requests::opening::open_file` meets its contract: the tests are those of the definition, in its order.
-- Assumes nothing.
use Rattle.std.specs.Prelude.{◌≡◌, true, false}
use mathlib.Core.Path.{refl, sym, ap, ◌∙◌}
use Rattle.lists.specs.Walk.{any}
use Rattle.records.specs.declared.Open.{Open}
use Rattle.records.specs.Held.{trees_of, opens_of}
use Rattle.tables.specs.Words.{part, tables_of}
use Rattle.tables.specs.Written.{trees_in}
use Rattle.tables.specs.WholeLaws.{trees-in, opens_in_lem}
use Rattle.soundness.specs.Sound.{holds_open}
use Rattle.message.specs.Sharing.{kept_out}
use Rattle.message.specs.Command.{open_by, open_file}
use Rattle.requests.specs.Leaves.{gives-refused}
use Rattle.requests.specs.OpenPart.{open_added}
use Rattle.requests.proofs.opening.open_file.Goals as goal

pub returns-then-not-some_tree_holds : goal.returns-then-not-some_tree_holds
unfolding open_file
returns-then-not-some_tree_holds c =
    let args = c.args in
    let w = args.words.now in
    let o = open_by args.c (tables_of w) args.f args.file in
    let same = ap (λ (x : Open). any (holds_open x) (trees_in (part w 33 97))) (sym c.open_by-o.ensures) in
    let held : any (holds_open o) (trees_of (tables_of w)) ≡ false = ap (any (holds_open o)) (trees-in w) ∙ same ∙ sym c.some_tree_holds.ensures ∙ c.if-not-some_tree_holds.true in
    record { leaves = (λ m. gives-refused _ (rw held) refl); words_after = λ h. h }

pub returns-then-some_keeps_out : goal.returns-then-some_keeps_out
unfolding open_file
returns-then-some_keeps_out c =
    let args = c.args in
    let w = args.words.now in
    let f = args.f in
    let o = open_by args.c (tables_of w) f args.file in
    let same = ap (λ (x : Open). any (holds_open x) (trees_in (part w 33 97))) (sym c.open_by-o.ensures) in
    let held : any (holds_open o) (trees_of (tables_of w)) ≡ true = ap (any (holds_open o)) (trees-in w) ∙ same ∙ sym c.some_tree_holds.ensures ∙ c.if-not-some_tree_holds.false in
    let out : any (kept_out args.file f.access f.sharing) (opens_of (tables_of w)) ≡ true = ap (any (kept_out args.file f.access f.sharing)) (opens_in_lem w) ∙ sym c.some_keeps_out.ensures ∙ c.if-some_keeps_out.true in
    record { leaves = (λ m. gives-refused _ (rw (held, out)) refl); words_after = λ h. h }

pub add_open-requires : goal.add_open-requires
unfolding open_by
add_open-requires c = record { words_len = c.requires.words_len; file_bound = rw c.open_by-o.ensures c.requires.file_bound }

pub returns : goal.returns
unfolding open_file open_added open_by
returns c =
    let args = c.args in
    let w = args.words.now in
    let f = args.f in
    let o = open_by args.c (tables_of w) f args.file in
    let same = ap (λ (x : Open). any (holds_open x) (trees_in (part w 33 97))) (sym c.open_by-o.ensures) in
    let held : any (holds_open o) (trees_of (tables_of w)) ≡ true = ap (any (holds_open o)) (trees-in w) ∙ same ∙ sym c.some_tree_holds.ensures ∙ c.if-not-some_tree_holds.false in
    let out : any (kept_out args.file f.access f.sharing) (opens_of (tables_of w)) ≡ false = ap (any (kept_out args.file f.access f.sharing)) (opens_in_lem w) ∙ sym c.some_keeps_out.ensures ∙ c.if-some_keeps_out.false in
    record { leaves = (λ m. rw (held, out) (rw c.open_by-o.ensures at (c.add_open.ensures.leaves m))); words_after = c.add_open.ensures.words_after }

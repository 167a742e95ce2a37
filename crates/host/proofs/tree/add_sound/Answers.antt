-- `host::tree::add_sound` meets its contract: the refusals are tested in the definition's order, and one record is put behind those in use.
-- Assumes nothing.
use Rattle.tables.specs.Words.{tree_array}
use Rattle.host.specs.declared.answer.HostRefusal.TheVariants.{Full, NoSuch, OutOfRange}
use mathlib.Core.Path.{◌≡◌, sym, ap, ◌∙◌}
use Prim.Native.Nat.{◌≤◌, ◌<◌}
use native.Mathlib.Omega.{arith}
use mathlib.Core.List.{List, [], ◌∷◌, ◌++◌, map}
use lib.ListN.{length}
use mathlib.Core.Bool.{true, false}
use Rattle.records.specs.declared.Session.{Session}
use Rattle.records.specs.declared.Tree.{Tree}
use Rattle.records.specs.Held.{sessions_of, trees_of, with_trees}
use Rattle.numbers.specs.Number.{contains, smallest_free}
use Rattle.numbers.specs.Column.{uid_of, tid_of}
use Rattle.tables.specs.Words.{word, part, tables_of}
use Rattle.tables.specs.PartLaws.{lent, length_part}
use Rattle.tables.specs.WholeLaws.{sessions-in, trees-in}
use Rattle.host.specs.HostCall.{add_tree}
use Rattle.host.proofs.Leaving.{first_word, left-refused, left-done}
use Rattle.host.proofs.Adding.{trees-count, trees-appended, tree-range, tree-orphan, tree-full, tree-added}
use Rattle.host.proofs.tree.add_sound.Goals as goal

pub returns-then-right-gt1 : goal.returns-then-right-gt1
returns-then-right-gt1 c =
    let args = c.args in
    let w = args.words.now in
    left-refused w OutOfRange (add_tree (tables_of w) args.uid args.right) (tree-range (tables_of w) args.uid args.right c.requires.1 c.if-right-gt1.true)

pub returns-then-not-has_session : goal.returns-then-not-has_session
returns-then-not-has_session c =
    let args = c.args in
    let has-session = c.has_session in
    let w = args.words.now in
    let known : contains args.uid (map uid_of (sessions_of (tables_of w))) ≡ false = ap (λ (l : List Session). contains args.uid (map uid_of l)) (sessions-in w) ∙ sym has-session.ensures ∙ c.if-not-has_session.true in
    left-refused w NoSuch (add_tree (tables_of w) args.uid args.right) (tree-orphan (tables_of w) args.uid args.right c.requires.1 c.if-right-gt1.false known)

pub returns-then-words-ge32 : goal.returns-then-words-ge32
returns-then-words-ge32 c =
    let args = c.args in
    let has-session = c.has_session in
    let w = args.words.now in
    let known : contains args.uid (map uid_of (sessions_of (tables_of w))) ≡ true = ap (λ (l : List Session). contains args.uid (map uid_of l)) (sessions-in w) ∙ sym has-session.ensures ∙ c.if-not-has_session.false in
    let many : 32 ≤ (tables_of w).ntrees = rw (trees-count w) c.if-words-ge32.true in
    left-refused w Full (add_tree (tables_of w) args.uid args.right) (tree-full (tables_of w) args.uid args.right c.requires.1 c.if-right-gt1.false known many)

pub append-requires : goal.append-requires
append-requires c =
    let w = c.args.words.now in
    let full : length w ≡ 1605 = c.requires.0 in
    let room : word (part w 33 97) 0 < 32 = rw (first_word w 33 97 (omega arith)) c.if-words-ge32.false in
    (length_part w 33 97 (omega arith), room)

pub returns : goal.returns
unfolding tree_array
returns c =
    let args = c.args in
    let pre = c.requires in
    let added = c.append in
    let has-session = c.has_session in
    let free-tid = c.free_tid-tid in
    let w = args.words.now in
    let full : length w ≡ 1605 = pre.0 in
    let e = added.new.words in
    let long : length e ≡ 97 = added.auto.words ∙ length_part w 33 97 (omega arith) in
    let known : contains args.uid (map uid_of (sessions_of (tables_of w))) ≡ true = ap (λ (l : List Session). contains args.uid (map uid_of l)) (sessions-in w) ∙ sym has-session.ensures ∙ c.if-not-has_session.false in
    let room : (tables_of w).ntrees < 32 = rw (trees-count w) c.if-words-ge32.false in
    let free : free-tid.result ≡ smallest_free (map tid_of (trees_of (tables_of w))) = free-tid.ensures ∙ ap (λ (l : List Tree). smallest_free (map tid_of l)) (sym (trees-in w)) in
    let x : Tree = record { tid = free-tid.result; uid = args.uid; right = args.right } in
    let a = trees-appended w e full x long added.ensures in
    left-done w (lent w 33 97 e) free-tid.result (add_tree (tables_of w) args.uid args.right) (with_trees (tables_of w) (trees_of (tables_of w) ++ (x ∷ []))) (tree-added (tables_of w) args.uid args.right pre.1 c.if-right-gt1.false known free-tid.result room free) a.0 a.1

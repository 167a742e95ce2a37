-- `host::open::add_sound` meets its contract: the refusals are tested in the definition's order, and one record is put behind those in use.
-- Assumes nothing.
use Rattle.host.specs.declared.answer.HostRefusal.TheVariants.{ExceedsRight, Full, NoSuch, OutOfRange}
use mathlib.Core.Path.{◌≡◌, sym, ap, ◌∙◌}
use Prim.Native.Nat.{◌≤◌, ◌<◌}
use native.Mathlib.Omega.{arith}
use mathlib.Core.List.{List, [], ◌∷◌, ◌++◌, map}
use lib.ListN.{length}
use mathlib.Core.Bool.{true, false}
use Rattle.lists.specs.Walk.{any}
use Rattle.records.specs.declared.Open.{Open}
use Rattle.records.specs.Held.{trees_of, opens_of, with_opens}
use Rattle.numbers.specs.Number.{smallest_free}
use Rattle.numbers.specs.Column.{fid_of}
use Rattle.soundness.specs.Lookup.{is_tree}
use Rattle.soundness.specs.Sound.{holds_open}
use Rattle.tables.specs.Words.{word, part, tables_of}
use Rattle.tables.specs.PartLaws.{lent, length_part}
use Rattle.tables.specs.WholeLaws.{trees-in, opens_in_lem}
use Rattle.host.specs.HostCall.{add_open}
use Rattle.host.proofs.Leaving.{first_word, left-refused, left-done}
use Rattle.host.proofs.Adding.{opens-count, opens-appended, open_by, open-file, open-access, open-orphan, open-exceeds, open_full, open-added}
use Rattle.host.proofs.open.add_sound.Goals as goal

pub returns-then-file-gt15 : goal.returns-then-file-gt15
returns-then-file-gt15 c =
    let args = c.args in
    let w = args.words.now in
    left-refused w OutOfRange (add_open (tables_of w) args.uid args.tid args.process args.file args.access) (open-file (tables_of w) args.uid args.tid args.process args.file args.access c.requires.1 c.if-file-gt15.true)

pub returns-then-access-gt2 : goal.returns-then-access-gt2
returns-then-access-gt2 c =
    let args = c.args in
    let w = args.words.now in
    left-refused w OutOfRange (add_open (tables_of w) args.uid args.tid args.process args.file args.access) (open-access (tables_of w) args.uid args.tid args.process args.file args.access c.requires.1 c.if-file-gt15.false c.if-access-gt2.true)

pub returns-then-not-some_tree_is : goal.returns-then-not-some_tree_is
returns-then-not-some_tree_is c =
    let args = c.args in
    let some-tree-is = c.some_tree_is in
    let w = args.words.now in
    let known : any (is_tree args.tid args.uid) (trees_of (tables_of w)) ≡ false = ap (any (is_tree args.tid args.uid)) (trees-in w) ∙ sym some-tree-is.ensures ∙ c.if-not-some_tree_is.true in
    left-refused w NoSuch (add_open (tables_of w) args.uid args.tid args.process args.file args.access) (open-orphan (tables_of w) args.uid args.tid args.process args.file args.access c.requires.1 c.if-file-gt15.false c.if-access-gt2.false known)

pub returns-then-not-some_tree_holds : goal.returns-then-not-some_tree_holds
returns-then-not-some_tree_holds c =
    let args = c.args in
    let some-tree-is = c.some_tree_is in
    let free-fid = c.free_fid-fid in
    let some-tree-holds = c.some_tree_holds in
    let w = args.words.now in
    let known : any (is_tree args.tid args.uid) (trees_of (tables_of w)) ≡ true = ap (any (is_tree args.tid args.uid)) (trees-in w) ∙ sym some-tree-is.ensures ∙ c.if-not-some_tree_is.false in
    let free : free-fid.result ≡ smallest_free (map fid_of (opens_of (tables_of w))) = free-fid.ensures ∙ ap (λ (l : List Open). smallest_free (map fid_of l)) (sym (opens_in_lem w)) in
    let x = open_by (tables_of w) args.uid args.tid args.process args.file args.access free-fid.result in
    let held : any (holds_open x) (trees_of (tables_of w)) ≡ false = ap (any (holds_open x)) (trees-in w) ∙ sym some-tree-holds.ensures ∙ c.if-not-some_tree_holds.true in
    left-refused w ExceedsRight (add_open (tables_of w) args.uid args.tid args.process args.file args.access) (open-exceeds (tables_of w) args.uid args.tid args.process args.file args.access c.requires.1 c.if-file-gt15.false c.if-access-gt2.false known free-fid.result free held)

pub returns-then-words-ge64 : goal.returns-then-words-ge64
returns-then-words-ge64 c =
    let args = c.args in
    let some-tree-is = c.some_tree_is in
    let free-fid = c.free_fid-fid in
    let some-tree-holds = c.some_tree_holds in
    let w = args.words.now in
    let known : any (is_tree args.tid args.uid) (trees_of (tables_of w)) ≡ true = ap (any (is_tree args.tid args.uid)) (trees-in w) ∙ sym some-tree-is.ensures ∙ c.if-not-some_tree_is.false in
    let free : free-fid.result ≡ smallest_free (map fid_of (opens_of (tables_of w))) = free-fid.ensures ∙ ap (λ (l : List Open). smallest_free (map fid_of l)) (sym (opens_in_lem w)) in
    let x = open_by (tables_of w) args.uid args.tid args.process args.file args.access free-fid.result in
    let held : any (holds_open x) (trees_of (tables_of w)) ≡ true = ap (any (holds_open x)) (trees-in w) ∙ sym some-tree-holds.ensures ∙ c.if-not-some_tree_holds.false in
    let many : 64 ≤ (tables_of w).nopens = rw (opens-count w) c.if-words-ge64.true in
    left-refused w Full (add_open (tables_of w) args.uid args.tid args.process args.file args.access) (open_full (tables_of w) args.uid args.tid args.process args.file args.access c.requires.1 c.if-file-gt15.false c.if-access-gt2.false known free-fid.result free held many)

pub append_open-requires : goal.append_open-requires
append_open-requires c =
    let w = c.args.words.now in
    let full : length w ≡ 1605 = c.requires.0 in
    let room : word (part w 130 577) 0 < 64 = rw (first_word w 130 577 (omega arith)) c.if-words-ge64.false in
    (length_part w 130 577 (omega arith), room)

pub returns : goal.returns
returns c =
    let args = c.args in
    let pre = c.requires in
    let append-open = c.append_open in
    let some-tree-is = c.some_tree_is in
    let free-fid = c.free_fid-fid in
    let some-tree-holds = c.some_tree_holds in
    let w = args.words.now in
    let full : length w ≡ 1605 = pre.0 in
    let e = append-open.new.words in
    let long : length e ≡ 577 = append-open.auto.words ∙ length_part w 130 577 (omega arith) in
    let known : any (is_tree args.tid args.uid) (trees_of (tables_of w)) ≡ true = ap (any (is_tree args.tid args.uid)) (trees-in w) ∙ sym some-tree-is.ensures ∙ c.if-not-some_tree_is.false in
    let free : free-fid.result ≡ smallest_free (map fid_of (opens_of (tables_of w))) = free-fid.ensures ∙ ap (λ (l : List Open). smallest_free (map fid_of l)) (sym (opens_in_lem w)) in
    let x = open_by (tables_of w) args.uid args.tid args.process args.file args.access free-fid.result in
    let held : any (holds_open x) (trees_of (tables_of w)) ≡ true = ap (any (holds_open x)) (trees-in w) ∙ sym some-tree-holds.ensures ∙ c.if-not-some_tree_holds.false in
    let room : (tables_of w).nopens < 64 = rw (opens-count w) c.if-words-ge64.false in
    let a = opens-appended w e full x long append-open.ensures in
    left-done w (lent w 130 577 e) free-fid.result (add_open (tables_of w) args.uid args.tid args.process args.file args.access) (with_opens (tables_of w) (opens_of (tables_of w) ++ (x ∷ []))) (open-added (tables_of w) args.uid args.tid args.process args.file args.access pre.1 c.if-file-gt15.false c.if-access-gt2.false known free-fid.result free held room) a.0 a.1

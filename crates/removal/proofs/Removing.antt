-- The four tables filtered in their words, one by what stands of the other, are the removal.
-- Assumes nothing.
use mathlib.Core.Path.{◌≡◌, refl, sym, ap, ◌∙◌}
use Prim.Native.Nat.{ℕ, ◌+◌, ◌≤◌}
use native.Mathlib.Omega.{arith}
use mathlib.Core.Bool.{Bool, true}
use mathlib.Core.List.{List, map}
use lib.ListN.{length, length-append, length-take, length-drop}
use lib.Dec.{leb}
use Rattle.lists.specs.Walk.{all, keep}
use Rattle.lists.specs.Members.{all_keep}
use Rattle.lists.specs.StoredLaws.{take-stored}
use Rattle.records.specs.Empty.{no_session, no_tree, no_open, no_lock}
use Rattle.records.specs.declared.Session.{Session}
use Rattle.records.specs.declared.Tree.{Tree}
use Rattle.records.specs.declared.Open.{Open}
use Rattle.records.specs.declared.Lock.{Lock}
use Rattle.records.specs.declared.Tables.{Tables}
use Rattle.records.specs.Held.{sessions_of, trees_of, opens_of, locks_of, with_sessions, with_trees, with_opens, with_locks}
use Rattle.tables.specs.Words.{part, tables_of, session_array, tree_array, open_array, lock_array, session_limits, tree_limits, open_limits, lock_limits}
use Rattle.tables.specs.Written.{sessions_in, trees_in, opens_in, locks_in}
use Rattle.tables.specs.PartLaws.{lent}
use Rattle.tables.specs.WholeLaws.{told_fit, with-sessions, with-trees, with-opens, with-locks, fit-sessions, fit-trees, fit-opens, fit-locks}
use Rattle.numbers.specs.Column.{uid_of, tid_of, fid_of}
use Rattle.removal.specs.declared.Gone.{Gone}
use Rattle.removal.specs.Removal.{session_stays, tree_stays, open_stays, lock_stays, sweep_sessions, sweep_trees, sweep_opens, sweep_locks, remove}
use Rattle.removal.specs.Filter.{marks_of, tree_marked, open_marked, lock_marked, Filtered, Numbered, Removed}
use Rattle.removal.proofs.Marking.{numbered-small, trees-told, opens-told, locks-told}

pub length-lent : (w e : List ℕ) (from n : ℕ) → length w ≡ 1605 → length e ≡ n → from + n ≤ 1605 → length (lent w from n e) ≡ 1605
length-lent w e from n full long fits = rw (length-append, length-append, length-take, length-drop, length-drop) (omega arith)

-- each number is within the marks
module _ {A : Type 0} where
  abbrev pub Small : (A → ℕ) → List A → Type 0
  Small number xs = all (λ x. leb (number x) 64) xs ≡ true

-- ---- the list that a table was given is the one it holds

sessions-held : (t : Tables) (list : List Session) → sessions_of (with_sessions t list) ≡ list
unfolding with_sessions
sessions-held t list = take-stored no_session t.sessions (length (sessions_of t)) list

trees-held : (t : Tables) (list : List Tree) → trees_of (with_trees t list) ≡ list
unfolding with_trees
trees-held t list = take-stored no_tree t.trees (length (trees_of t)) list

opens-held : (t : Tables) (list : List Open) → opens_of (with_opens t list) ≡ list
unfolding with_opens
opens-held t list = take-stored no_open t.opens (length (opens_of t)) list

-- ---- one table after the other, in words of which one part is lent and filtered

-- a sweep done: the tables, and the records of the table that it swept
record Swept {A : Type 0} (held_by : Tables → List A) (number : A → ℕ) (swept : Tables) (after : List ℕ) (marks : List Bool) : Type 0 where
  tables : tables_of after ≡ swept
  marked : marks ≡ marks_of (map number (held_by (tables_of after)))
  small : Small number (held_by (tables_of after))

module _ (gone : Gone) (w e : List ℕ) (full : length w ≡ 1605) where
  sessions-swept : (uids : List Bool) → Small uid_of (sessions_of (tables_of w)) → length e ≡ 33
      → (uids ≡ marks_of (map uid_of (keep (session_stays gone) (sessions_in (part w 0 33)))))
      × Filtered session_array session_limits 16 no_session (session_stays gone) (part w 0 33) e
      → Swept sessions_of uid_of (sweep_sessions gone (tables_of w)) (lent w 0 33 e) uids
  unfolding tables_of sweep_sessions
  sessions-swept uids small long h =
      let list = keep (session_stays gone) (sessions_in (part w 0 33)) in
      let t = with-sessions w e full list long h.1.holds in
      let held : sessions_of (tables_of (lent w 0 33 e)) ≡ list = ap sessions_of t ∙ sessions-held (tables_of w) list in
      record {
        tables = t;
        marked = h.0 ∙ ap (λ (l : List Session). marks_of (map uid_of l)) (sym held);
        small = ap (all (λ s. leb s.uid 64)) held ∙ all_keep (session_stays gone) (λ s. leb s.uid 64) (sessions_in (part w 0 33)) small;
      }

  trees-swept : (uids tids : List Bool) (swept : Tables) → Swept sessions_of uid_of swept w uids → Small tid_of (trees_of (tables_of w)) → length e ≡ 97
      → (tids ≡ marks_of (map tid_of (keep (tree_marked gone uids) (trees_in (part w 33 97)))))
      × Filtered tree_array tree_limits 32 no_tree (tree_marked gone uids) (part w 33 97) e
      → Swept trees_of tid_of (sweep_trees gone (tables_of w)) (lent w 33 97 e) tids
  unfolding tables_of sweep_trees
  trees-swept uids tids swept s small long h =
      let list = keep (tree_marked gone uids) (trees_in (part w 33 97)) in
      let t = with-trees w e full list long h.1.holds in
      let held : trees_of (tables_of (lent w 33 97 e)) ≡ list = ap trees_of t ∙ trees-held (tables_of w) list in
      let told : tree_marked gone uids ≡ tree_stays gone (map uid_of (sessions_of (tables_of w))) = ap (tree_marked gone) s.marked ∙ trees-told uid_of (sessions_of (tables_of w)) s.small gone in
      record {
        tables = t ∙ ap (λ (p : Tree → Bool). with_trees (tables_of w) (keep p (trees_of (tables_of w)))) told;
        marked = h.0 ∙ ap (λ (l : List Tree). marks_of (map tid_of l)) (sym held);
        small = ap (all (λ t. leb t.tid 64)) held ∙ all_keep (tree_marked gone uids) (λ t. leb t.tid 64) (trees_in (part w 33 97)) small;
      }

  opens-swept : (tids fids : List Bool) (swept : Tables) → Swept trees_of tid_of swept w tids → Small fid_of (opens_of (tables_of w)) → length e ≡ 577
      → (fids ≡ marks_of (map fid_of (keep (open_marked gone tids) (opens_in (part w 130 577)))))
      × Filtered open_array open_limits 64 no_open (open_marked gone tids) (part w 130 577) e
      → Swept opens_of fid_of (sweep_opens gone (tables_of w)) (lent w 130 577 e) fids
  unfolding tables_of sweep_opens
  opens-swept tids fids swept s small long h =
      let list = keep (open_marked gone tids) (opens_in (part w 130 577)) in
      let t = with-opens w e full list long h.1.holds in
      let held : opens_of (tables_of (lent w 130 577 e)) ≡ list = ap opens_of t ∙ opens-held (tables_of w) list in
      let told : open_marked gone tids ≡ open_stays gone (map tid_of (trees_of (tables_of w))) = ap (open_marked gone) s.marked ∙ opens-told tid_of (trees_of (tables_of w)) s.small gone in
      record {
        tables = t ∙ ap (λ (p : Open → Bool). with_opens (tables_of w) (keep p (opens_of (tables_of w)))) told;
        marked = h.0 ∙ ap (λ (l : List Open). marks_of (map fid_of l)) (sym held);
        small = ap (all (λ o. leb o.fid 64)) held ∙ all_keep (open_marked gone tids) (λ o. leb o.fid 64) (opens_in (part w 130 577)) small;
      }

  locks-swept : (fids : List Bool) (swept : Tables) → Swept opens_of fid_of swept w fids → length e ≡ 641
      → Filtered lock_array lock_limits 128 no_lock (lock_marked fids) (part w 707 641) e
      → tables_of (lent w 707 641 e) ≡ sweep_locks (tables_of w)
  unfolding tables_of sweep_locks
  locks-swept fids swept s long h =
      let told : lock_marked fids ≡ lock_stays (map fid_of (opens_of (tables_of w))) = ap lock_marked s.marked ∙ locks-told fid_of (opens_of (tables_of w)) s.small in
      with-locks w e full (keep (lock_marked fids) (locks_in (part w 707 641))) long h.holds
      ∙ ap (λ (p : Lock → Bool). with_locks (tables_of w) (keep p (locks_of (tables_of w)))) told

-- ---- all four

-- a sweep leaves the tables behind its own
trees-stand : (gone : Gone) (t : Tables) → trees_of (sweep_sessions gone t) ≡ trees_of t
unfolding sweep_sessions with_sessions
trees-stand gone t = refl

opens-stand : (gone : Gone) (t : Tables) → opens_of (sweep_trees gone (sweep_sessions gone t)) ≡ opens_of t
unfolding sweep_sessions with_sessions sweep_trees with_trees
opens-stand gone t = refl

module _ (gone : Gone) (w a b c d : List ℕ) (uids tids fids : List Bool) (full : length w ≡ 1605) (numbers : Numbered (tables_of w))
    (la : length a ≡ 33) (lb : length b ≡ 97) (lc : length c ≡ 577) (ld : length d ≡ 641) where
  pub removed :
      (uids ≡ marks_of (map uid_of (keep (session_stays gone) (sessions_in (part w 0 33)))))
      × Filtered session_array session_limits 16 no_session (session_stays gone) (part w 0 33) a
      → (tids ≡ marks_of (map tid_of (keep (tree_marked gone uids) (trees_in (part (lent w 0 33 a) 33 97)))))
      × Filtered tree_array tree_limits 32 no_tree (tree_marked gone uids) (part (lent w 0 33 a) 33 97) b
      → (fids ≡ marks_of (map fid_of (keep (open_marked gone tids) (opens_in (part (lent (lent w 0 33 a) 33 97 b) 130 577)))))
      × Filtered open_array open_limits 64 no_open (open_marked gone tids) (part (lent (lent w 0 33 a) 33 97 b) 130 577) c
      → Filtered lock_array lock_limits 128 no_lock (lock_marked fids) (part (lent (lent (lent w 0 33 a) 33 97 b) 130 577 c) 707 641) d
      → Removed gone w (lent (lent (lent (lent w 0 33 a) 33 97 b) 130 577 c) 707 641 d)
  unfolding remove
  removed ha hb hc hd =
      let w1 = lent w 0 33 a in
      let w2 = lent w1 33 97 b in
      let w3 = lent w2 130 577 c in
      let full1 : length w1 ≡ 1605 = length-lent w a 0 33 full la (omega arith) in
      let full2 : length w2 ≡ 1605 = length-lent w1 b 33 97 full1 lb (omega arith) in
      let full3 : length w3 ≡ 1605 = length-lent w2 c 130 577 full2 lc (omega arith) in
      let t = tables_of w in
      let s1 = sessions-swept gone w a full uids (numbered-small uid_of 16 (sessions_of t) (omega arith) numbers.uids) la ha in
      let trees : trees_of (tables_of w1) ≡ trees_of t = ap trees_of s1.tables ∙ trees-stand gone t in
      let small1 : Small tid_of (trees_of (tables_of w1)) = rw trees (numbered-small tid_of 32 (trees_of t) (omega arith) numbers.tids) in
      let s2 = trees-swept gone w1 b full1 uids tids (sweep_sessions gone t) s1 small1 lb hb in
      let t2 : tables_of w2 ≡ sweep_trees gone (sweep_sessions gone t) = s2.tables ∙ ap (sweep_trees gone) s1.tables in
      let opens : opens_of (tables_of w2) ≡ opens_of t = ap opens_of t2 ∙ opens-stand gone t in
      let small2 : Small fid_of (opens_of (tables_of w2)) = rw opens (numbered-small fid_of 64 (opens_of t) (omega arith) numbers.fids) in
      let s3 = opens-swept gone w2 c full2 tids fids (sweep_trees gone (tables_of w1)) s2 small2 lc hc in
      let t3 : tables_of w3 ≡ sweep_opens gone (sweep_trees gone (sweep_sessions gone t)) = s3.tables ∙ ap (sweep_opens gone) t2 in
      record {
        tables = locks-swept gone w3 d full3 fids (sweep_opens gone (tables_of w2)) s3 ld hd ∙ ap sweep_locks t3;
        fit =
            λ f0.
            let f1 = fit-sessions w a full la f0 (ha.1.fit (told_fit w f0).sessions-fit) in
            let f2 = fit-trees w1 b full1 lb f1 (hb.1.fit (told_fit w1 f1).trees-fit) in
            let f3 = fit-opens w2 c full2 lc f2 (hc.1.fit (told_fit w2 f2).opens-fit) in
            fit-locks w3 d full3 ld f3 (hd.fit (told_fit w3 f3).locks-fit);
      }

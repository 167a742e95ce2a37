-- The rules for one tree, one open and one lock, taken apart and put together; and what the files of FIDs are
-- when some opens go. Assumes nothing.
use Rattle.std.specs.Prelude.{◌≡◌, refl, Bool, true, false, not, ◌&&◌, ℕ, leb, eqb}
use Rattle.std.proofs.Common.{sym, ◌∙◌, inl, inr, eqb-true}
use mathlib.Core.List.Memᴰ.{head as here}
use mathlib.Core.List.Memᴰ.{tail as there}
use mathlib.Core.List.{List, [], ◌∷◌, map, Memᴰ as In}
use Rattle.lists.specs.Walk.{any, all, all_tails, keep}
use Rattle.records.specs.declared.Tree.{Tree}
use Rattle.records.specs.declared.Open.{Open}
use Rattle.records.specs.declared.Lock.{Lock}
use Rattle.locks.specs.Range.{passes_end}
use Rattle.numbers.specs.Number.{contains, numbered, number_ok}
use Rattle.numbers.specs.Column.{fid_of}
use Rattle.soundness.specs.File.{file_of}
use Rattle.soundness.specs.Sound.{sharing_ok, tree_ok, permits, holds_open, open_ok, lock_ok, agree, agree_all}
use Rattle.lists.specs.Truth.{both_hold, hold-both, decided, not-decided-twice}
use Rattle.lists.specs.Members.{all-each, each_all, all_keep, tails-keep}
use Rattle.invariants.specs.Numbered.{number-says, named-was}

-- ---- a tree

module _ (uids : List ℕ) (t : Tree) where
  -- its right is 0 or 1, and its session exists
  pub record TreeOk : Type 0 where
    pub right : leb t.right 1 ≡ true
    pub session : contains t.uid uids ≡ true

  pub tree-says : tree_ok uids t ≡ true → TreeOk
  unfolding tree_ok
  tree-says h =
      let b = both_hold (leb t.right 1) (contains t.uid uids) h in
      record { right = b.0; session = b.1 }

  pub tree-ok : TreeOk → tree_ok uids t ≡ true
  unfolding tree_ok
  tree-ok r = hold-both (leb t.right 1) (contains t.uid uids) r.right r.session

-- ---- an open and its tree

-- the tree is the one that the open names, has its UID and permits its access
pub record HoldsOpen (o : Open) (t : Tree) : Type 0 where
  pub tid : t.tid ≡ o.tid
  pub uid : t.uid ≡ o.uid
  pub permitted : permits t.right o.access ≡ true

-- what the test of that says
pub holds-says : (o : Open) (t : Tree) → holds_open o t ≡ true → HoldsOpen o t
unfolding holds_open
holds-says o t h =
    let b = both_hold (eqb t.tid o.tid) (eqb t.uid o.uid && permits t.right o.access) h in
    let c = both_hold (eqb t.uid o.uid) (permits t.right o.access) b.1 in
    record { tid = eqb-true t.tid o.tid b.0; uid = eqb-true t.uid o.uid c.0; permitted = c.1 }

module _ (ts : List Tree) (o : Open) where
  -- its file, access and sharing code are among those listed, and a tree holds it
  pub record OpenOk : Type 0 where
    pub file : leb o.file 15 ≡ true
    pub access : leb o.access 2 ≡ true
    pub sharing : sharing_ok o.sharing ≡ true
    pub held : any (holds_open o) ts ≡ true

  pub open-says : open_ok ts o ≡ true → OpenOk
  unfolding open_ok
  open-says h =
      let b = both_hold (leb o.file 15) (leb o.access 2 && (sharing_ok o.sharing && any (holds_open o) ts)) h in
      let c = both_hold (leb o.access 2) (sharing_ok o.sharing && any (holds_open o) ts) b.1 in
      let d = both_hold (sharing_ok o.sharing) (any (holds_open o) ts) c.1 in
      record { file = b.0; access = c.0; sharing = d.0; held = d.1 }

  pub open-ok : OpenOk → open_ok ts o ≡ true
  unfolding open_ok
  open-ok r =
      hold-both (leb o.file 15) (leb o.access 2 && (sharing_ok o.sharing && any (holds_open o) ts)) r.file
      (hold-both (leb o.access 2) (sharing_ok o.sharing && any (holds_open o) ts) r.access
      (hold-both (sharing_ok o.sharing) (any (holds_open o) ts) r.sharing r.held))

-- ---- a lock

module _ (fids : List ℕ) (l : Lock) where
  -- its open exists, and it does not pass 2^64
  pub record LockOk : Type 0 where
    pub owner : contains l.fid fids ≡ true
    pub ends : not (passes_end l.offset l.length) ≡ true

  pub lock-says : lock_ok fids l ≡ true → LockOk
  unfolding lock_ok
  lock-says h =
      let b = both_hold (contains l.fid fids) (not (passes_end l.offset l.length)) h in
      record { owner = b.0; ends = b.1 }

  pub lock-ok : LockOk → lock_ok fids l ≡ true
  unfolding lock_ok
  lock-ok r = hold-both (contains l.fid fids) (not (passes_end l.offset l.length)) r.owner r.ends

-- ---- the file of a FID

-- an open with another FID is passed over
pub file_of-other : (o : Open) (os : List Open) (fid : ℕ) → eqb o.fid fid ≡ false → file_of (o ∷ os) fid ≡ file_of os fid
unfolding file_of
file_of-other o os fid e = rw e

-- the open with that FID has the file
pub file_of-here : (o : Open) (os : List Open) (fid : ℕ) → eqb o.fid fid ≡ true → file_of (o ∷ os) fid ≡ o.file
unfolding file_of
file_of-here o os fid e = rw e

-- a number in use, but not by the first record, is in use among the others
pub contains-later : (k x : ℕ) (xs : List ℕ) → eqb x k ≡ false → contains k (x ∷ xs) ≡ true → contains k xs ≡ true
unfolding contains any
contains-later k x xs e h = rw e at h

keep-yes : (c : Open → Bool) (o : Open) (os : List Open) → c o ≡ true → keep c (o ∷ os) ≡ o ∷ keep c os
unfolding keep
keep-yes c o os e = rw e

keep-no : (c : Open → Bool) (o : Open) (os : List Open) → c o ≡ false → keep c (o ∷ os) ≡ keep c os
unfolding keep
keep-no c o os e = rw e

-- a FID still in use when some opens are gone has the file that it had
pub file_of-keep : (limit : ℕ) (c : Open → Bool) (os : List Open) (fid : ℕ) → numbered limit (map fid_of os) ≡ true
    → contains fid (map fid_of (keep c os)) ≡ true → file_of (keep c os) fid ≡ file_of os fid
unfolding numbered all_tails keep
file_of-keep limit c [] fid n h = refl
file_of-keep limit c (o ∷ os) fid n h =
    let b = both_hold (number_ok limit o.fid (map fid_of os)) (numbered limit (map fid_of os)) n in
    let s = number-says limit o.fid (map fid_of os) b.0 in
    elim (decided (c o)) [
      | inl y ↦
          let h' : contains fid (o.fid ∷ map fid_of (keep c os)) ≡ true = rw (keep-yes c o os y) at h in
          rw (keep-yes c o os y)
          (elim (decided (eqb o.fid fid)) [
            | inl e ↦ file_of-here o (keep c os) fid e ∙ sym (file_of-here o os fid e)
            | inr e ↦
                file_of-other o (keep c os) fid e
                ∙ file_of-keep limit c os fid b.1 (contains-later fid o.fid (map fid_of (keep c os)) e h')
                ∙ sym (file_of-other o os fid e)
          ])
      | inr y ↦
          let h' : contains fid (map fid_of (keep c os)) ≡ true = rw (keep-no c o os y) at h in
          rw (keep-no c o os y)
          (elim (decided (eqb o.fid fid)) [
            | inl e ↦
                let same : fid ≡ o.fid = sym (eqb-true o.fid fid e) in
                absurd (not-decided-twice (contains o.fid (map fid_of os)) (rw same at (named-was fid_of fid c os h')) s.new)
            | inr e ↦ file_of-keep limit c os fid b.1 h' ∙ sym (file_of-other o os fid e)
          ])
    ]

-- ---- locks that agree

-- two locks agree by the files of their FIDs alone
agree_same : (f g : ℕ → ℕ) (l m : Lock) → f l.fid ≡ g l.fid → f m.fid ≡ g m.fid → agree f l m ≡ agree g l m
unfolding agree
agree_same f g l m e h = rw (e, h)

-- locks agree whose FIDs have the same files as before
pub agree_all-same : (f g : ℕ → ℕ) (ls : List Lock) → ((l : Lock) → In l ls → f l.fid ≡ g l.fid) → agree_all f ls ≡ true → agree_all g ls ≡ true
unfolding agree_all all_tails
agree_all-same f g [] same h = refl
agree_all-same f g (l ∷ ls) same h =
    let b = both_hold (all (agree f l) ls) (agree_all f ls) h in
    hold-both (all (agree g l) ls) (agree_all g ls)
    (each_all (agree g l) ls (λ m i. sym (agree_same f g l m (same l (here refl)) (same m (there i))) ∙ all-each (agree f l) i b.0))
    (agree_all-same f g ls (λ m i. same m (there i)) b.1)

-- locks that are kept agree
pub agree_all-keep : (f : ℕ → ℕ) (p : Lock → Bool) (ls : List Lock) → agree_all f ls ≡ true → agree_all f (keep p ls) ≡ true
unfolding agree_all
agree_all-keep f p ls h = tails-keep (λ l later. all (agree f l) later) p ls (λ l later e. all_keep p (agree f l) later e) h

-- Records obey the rules of sound tables with one more behind them that obeys its own (document 01, "Tables and room").
-- Assumes nothing.
use Rattle.std.specs.Prelude.{◌≡◌, true, ℕ, ◌+◌, ◌≤◌, ◌<◌, length, eqb}
use Rattle.std.proofs.Common.{sym, ◌∙◌, inl, inr, arith}
use mathlib.Core.List.Memᴰ
use mathlib.Core.List.{List, [], ◌∷◌, ◌++◌, map, map-append, Memᴰ as In}
use Rattle.std.proofs.lemmas.List.{length-map}
use Rattle.lists.specs.Walk.{any}
use Rattle.records.specs.declared.Session.{Session}
use Rattle.records.specs.declared.Tree.{Tree}
use Rattle.records.specs.declared.Open.{Open}
use Rattle.records.specs.declared.Lock.{Lock}
use Rattle.numbers.specs.Number.{contains, numbered, smallest_free}
use Rattle.numbers.specs.Column.{uid_of, tid_of, fid_of}
use Rattle.soundness.specs.File.{file_of}
use Rattle.soundness.specs.Sound.{tree_ok, holds_open, open_ok, lock_ok}
use Rattle.lists.specs.Truth.{decided}
use Rattle.lists.specs.Members.{all-each, each_all, any-more, all_snoc}
use Rattle.invariants.specs.Numbered.{contains-in, in-contains, numbered-snoc}
use Rattle.invariants.specs.Number.{smallest-low, smallest-high, smallest-free}
use Rattle.invariants.specs.SoundParts.{RecordsOk, LocksOk}
use Rattle.invariants.specs.RuleLaws.{tree-says, tree-ok, open-says, open-ok, LockOk, lock-says, lock-ok, file_of-other, file_of-here, contains-later, agree_all-same}

-- ---- one more behind

-- a number in use stays in use
contains-more : (k : ℕ) (xs ys : List ℕ) → contains k xs ≡ true → contains k (xs ++ ys) ≡ true
contains-more k xs ys e = in-contains (Memᴰ.append_left ys (contains-in k xs e))

module _ {A : Type 0} (f : A → ℕ) where
  named_more : (k : ℕ) (xs : List A) (x : A) → contains k (map f xs) ≡ true → contains k (map f (xs ++ (x ∷ []))) ≡ true
  named_more k xs x e = rw (map-append f xs (x ∷ [])) (contains-more k (map f xs) (f x ∷ []) e)

  -- a record with the smallest free number may be added, if fewer than the limit are there
  numbered_more : (limit : ℕ) (xs : List A) (x : A) → f x ≡ smallest_free (map f xs) → length xs < limit → numbered limit (map f xs) ≡ true
      → numbered limit (map f (xs ++ (x ∷ []))) ≡ true
  numbered_more limit xs x e h n =
      let low : 1 ≤ smallest_free (map f xs) = smallest-low (map f xs) in
      let high : smallest_free (map f xs) ≤ length (map f xs) + 1 = smallest-high (map f xs) in
      let long : length (map f xs) ≡ length xs = length-map xs f in
      rw (map-append f xs (x ∷ []), e) (numbered-snoc limit (map f xs) (smallest_free (map f xs)) low (omega arith) (smallest-free (map f xs)) n)

-- a FID in use has the file that it had
file_of-more : (os : List Open) (o : Open) (fid : ℕ) → contains fid (map fid_of os) ≡ true → file_of os fid ≡ file_of (os ++ (o ∷ [])) fid
unfolding contains any
file_of-more [] o fid e = absurd (let z : ◌≡◌ {A = ℕ} 0 1 = cc in let y : ⊥ = omega arith in y)
file_of-more (p ∷ os) o fid e =
    elim (decided (eqb p.fid fid)) [
      | inl h ↦ file_of-here p os fid h ∙ sym (file_of-here p (os ++ (o ∷ [])) fid h)
      | inr h ↦
          file_of-other p os fid h
          ∙ file_of-more os o fid (contains-later fid p.fid (map fid_of os) h e)
          ∙ sym (file_of-other p (os ++ (o ∷ [])) fid h)
    ]

-- ---- the rules with one record more

module _ (ss : List Session) (ts : List Tree) (os : List Open) (r : RecordsOk ss ts os) where
  -- a session more
  tree-more : (s : Session) (t : Tree) → In t ts → tree_ok (map uid_of (ss ++ (s ∷ []))) t ≡ true
  tree-more s t m =
      let old = tree-says (map uid_of ss) t (all-each (tree_ok (map uid_of ss)) m r.trees_ok) in
      tree-ok (map uid_of (ss ++ (s ∷ []))) t (record { right = old.right; session = named_more uid_of t.uid ss s old.session })

  -- with a session more, its UID the smallest free, all obey the rules
  pub records-session : (s : Session) → s.uid ≡ smallest_free (map uid_of ss) → length ss < 16 → RecordsOk (ss ++ (s ∷ [])) ts os
  records-session s e h =
      record {
        uids = numbered_more uid_of 16 ss s e h r.uids;
        tids = r.tids;
        fids = r.fids;
        trees_ok = each_all (tree_ok (map uid_of (ss ++ (s ∷ [])))) ts (tree-more s);
        opens_ok = r.opens_ok;
      }

  -- a tree more
  open_more : (t : Tree) (o : Open) → In o os → open_ok (ts ++ (t ∷ [])) o ≡ true
  open_more t o m =
      let old = open-says ts o (all-each (open_ok ts) m r.opens_ok) in
      open-ok (ts ++ (t ∷ [])) o (record { file = old.file; access = old.access; sharing = old.sharing; held = any-more (holds_open o) ts t old.held })

  -- with a tree more that obeys its own rule
  pub records-tree : (t : Tree) → t.tid ≡ smallest_free (map tid_of ts) → tree_ok (map uid_of ss) t ≡ true → length ts < 32
      → RecordsOk ss (ts ++ (t ∷ [])) os
  records-tree t e k h =
      record {
        uids = r.uids;
        tids = numbered_more tid_of 32 ts t e h r.tids;
        fids = r.fids;
        trees_ok = all_snoc (tree_ok (map uid_of ss)) ts t r.trees_ok k;
        opens_ok = each_all (open_ok (ts ++ (t ∷ []))) os (open_more t);
      }

  -- an open more
  pub records-open : (o : Open) → o.fid ≡ smallest_free (map fid_of os) → open_ok ts o ≡ true → length os < 64 → RecordsOk ss ts (os ++ (o ∷ []))
  records-open o e k h =
      record {
        uids = r.uids;
        tids = r.tids;
        fids = numbered_more fid_of 64 os o e h r.fids;
        trees_ok = r.trees_ok;
        opens_ok = all_snoc (open_ok ts) os o r.opens_ok k;
      }

module _ (os : List Open) (o : Open) (ls : List Lock) (k : LocksOk os ls) where
  lock-owner : (l : Lock) → In l ls → LockOk (map fid_of os) l
  lock-owner l m = lock-says (map fid_of os) l (all-each (lock_ok (map fid_of os)) m k.owned)

  lock-more : (l : Lock) → In l ls → lock_ok (map fid_of (os ++ (o ∷ []))) l ≡ true
  lock-more l m =
      let old = lock-owner l m in
      lock-ok (map fid_of (os ++ (o ∷ []))) l (record { owner = named_more fid_of l.fid os o old.owner; ends = old.ends })

  -- the locks, with an open more
  pub locks-open : LocksOk (os ++ (o ∷ [])) ls
  locks-open =
      record {
        owned = each_all (lock_ok (map fid_of (os ++ (o ∷ [])))) ls lock-more;
        agreed =
            agree_all-same (file_of os) (file_of (os ++ (o ∷ []))) ls (λ l m. file_of-more os o l.fid (lock-owner l m).owner) k.agreed;
      }

-- Sound tables in plain words: document 01, "Tables and room", second paragraph, and document 02, CR 6 ("Soundness gains sharing codes and the
-- catalogue's rules") and CR 8 ("By soundness an open's remembered number doesn't exceed its file's"), clause by clause, and that `sound` says just that. Assumes nothing.
use Rattle.std.specs.Prelude.{◌≡◌, Bool, true, false, not, ◌&&◌, ℕ, ◌+◌, ◌^◌, ◌≤◌, ◌<◌, get_or, leb, ltb, eqb}
use Rattle.std.proofs.Common.{sym, ap, ◌∙◌, inl, inr}
use mathlib.Core.List.Memᴰ.{cases_cons as first-or-later}
use mathlib.Core.List.{List, [], ◌∷◌, map, Memᴰ as In}
use Rattle.std.proofs.Math.ListN.{length}
use borrow.Author.Tests.{leb-true, le-leb, leb-false, eqb-true, eq-eqb, ltb-false, le-ltb, not-true, not-false}
use native.Mathlib.Omega.{arith}
use Rattle.std.proofs.Math.Decide.{dec_lt}
use Rattle.lists.specs.Walk.{all_tails}
use Rattle.lists.specs.Truth.{both_hold, hold-both, either-holds, holds-second, not-holds, decided, fails, not-decided-twice}
use Rattle.lists.specs.Members.{all-each, any-one, one-any}
use Rattle.lists.specs.PairLaws.{tails-pairs, pairs-tails, place_in}
use Rattle.locks.specs.Range.{Overlap, overlaps, overlap-iff, overlaps-sym, passes_end}
use Rattle.records.specs.Change.{changes_of}
use Rattle.records.specs.Empty.{no_lock}
use Rattle.records.specs.declared.Session.{Session}
use Rattle.records.specs.declared.Tree.{Tree}
use Rattle.records.specs.declared.Open.{Open}
use Rattle.records.specs.declared.Lock.{Lock}
use Rattle.records.specs.declared.File.{File}
use Rattle.records.specs.declared.Tables.{Tables}
use Rattle.records.specs.Held.{sessions_of, trees_of, opens_of, locks_of}
use Rattle.numbers.specs.Number.{contains, numbered, number_ok}
use Rattle.numbers.specs.Column.{uid_of, tid_of, fid_of}
use Rattle.soundness.specs.File.{file_of}
use Rattle.soundness.specs.Sound.{sharing_ok, tree_ok, permits, holds_open, open_ok, lock_ok, agree, agree_all}
use Rattle.invariants.specs.Numbered.{number-says, named-one, one-named}
use Rattle.soundness.specs.SoundLaws.{Room}
use Rattle.invariants.specs.SoundParts.{Sound}
use Rattle.invariants.specs.RuleLaws.{TreeOk, tree-says, tree-ok, holds-says, OpenOk, open-says, open-ok, LockOk, lock-says, lock-ok, file_of-here, file_of-other}
use Rattle.claims.specs.Distinct.{Numbers, numbered-ok}
use Rattle.claims.specs.CataloguePlain.{PlainCatalogue}

-- ---- the plain words

-- two locks are of one file: their opens are of one file
pub record OneFile (os : List Open) (l m : Lock) : Type 0 where
  pub first : Open
  pub second : Open
  pub first-in : In first os
  pub second-in : In second os
  pub first-is : first.fid ≡ l.fid
  pub second_is : second.fid ≡ m.fid
  pub same-file : first.file ≡ second.file

-- some byte is in both
abbrev pub LocksOverlap : Lock → Lock → Type 0
LocksOverlap l m = Overlap l.offset l.length m.offset m.length

-- the lock at a place of the list
abbrev pub lock_at : Tables → ℕ → Lock
lock_at t i = get_or (locks_of t) i no_lock

-- "Tables are sound if", clause by clause
pub record PlainSound (t : Tables) : Type 0 where
  -- "counts and file sizes are within these limits"
  pub counts : Room t.nsessions t.ntrees t.nopens t.nlocks
  pub sizes : (f : File) → In f t.files → f.size ≤ 4096
  -- document 02, CR 8: "a 32-bit change number"
  pub changes : (f : File) → In f t.files → f.changes < 2 ^ 32
  -- "numbers are distinct and lie in 1 to 16, 1 to 32 and 1 to 64"
  pub uids : Numbers 16 (map uid_of (sessions_of t))
  pub tids : Numbers 32 (map tid_of (trees_of t))
  pub fids : Numbers 64 (map fid_of (opens_of t))
  -- "connection apart, each record names records that exist (an open's tree has the open's UID)"
  pub tree-session : (r : Tree) → In r (trees_of t) → (s : Session) × In s (sessions_of t) × (s.uid ≡ r.uid)
  pub open-session : (o : Open) → In o (opens_of t) → (s : Session) × In s (sessions_of t) × (s.uid ≡ o.uid)
  -- "no open exceeds its tree's right": where the right is 0, the access is 0
  pub open-tree : (o : Open) → In o (opens_of t) → (r : Tree) × In r (trees_of t) × (r.tid ≡ o.tid) × (r.uid ≡ o.uid) × (r.right ≡ 0 → o.access ≡ 0)
  pub lock-open : (l : Lock) → In l (locks_of t) → (o : Open) × In o (opens_of t) × (o.fid ≡ l.fid)
  -- "rights, access and file numbers are among those listed"
  pub rights : (r : Tree) → In r (trees_of t) → r.right ≤ 1
  pub accesses : (o : Open) → In o (opens_of t) → o.access ≤ 2
  pub files : (o : Open) → In o (opens_of t) → o.file ≤ 15
  -- document 02, CR 6: "sharing codes 1 to 4"
  pub sharings : (o : Open) → In o (opens_of t) → (1 ≤ o.sharing) × (o.sharing ≤ 4)
  -- "and the catalogue's rules": up to 16 names, each of 1 to 12 bytes, none of them 0, with a file of 0 to 15; none doubled
  pub catalogue : PlainCatalogue t.names t.nnames
  -- document 02, CR 8: "an open's remembered number doesn't exceed its file's"
  pub seen : (o : Open) → In o (opens_of t) → o.seen ≤ changes_of t o.file
  -- "no lock passes 2^64"
  pub lock-ends : (l : Lock) → In l (locks_of t) → l.offset + l.length ≤ 2 ^ 64
  -- "two locks of one file that overlap are both shared"
  pub lock-pairs : (i j : ℕ) → i < length (locks_of t) → j < length (locks_of t) → (i ≡ j → ⊥)
      → OneFile (opens_of t) (lock_at t i) (lock_at t j) → LocksOverlap (lock_at t i) (lock_at t j)
      → ((lock_at t i).shared ≡ true) × ((lock_at t j).shared ≡ true)

-- ---- the rules for one record

-- "sharing codes 1 to 4"
pub sharing-says : (sharing : ℕ) → sharing_ok sharing ≡ true → (1 ≤ sharing) × (sharing ≤ 4)
unfolding sharing_ok
sharing-says sharing e = let b = both_hold (leb 1 sharing) (leb sharing 4) e in (leb-true 1 sharing b.0, leb-true sharing 4 b.1)

sharing-ok : (sharing : ℕ) → (1 ≤ sharing) × (sharing ≤ 4) → sharing_ok sharing ≡ true
unfolding sharing_ok
sharing-ok sharing h = hold-both (leb 1 sharing) (leb sharing 4) (le-leb 1 sharing h.0) (le-leb sharing 4 h.1)

-- right 0 permits access 0 alone
pub permits-says : (right access : ℕ) → permits right access ≡ true → right ≡ 0 → access ≡ 0
unfolding permits
permits-says right access h e =
    elim (either-holds (leb 1 right) (eqb access 0) h) [
      | inl k ↦ absurd (let l : 1 ≤ right = leb-true 1 right k in let z : ⊥ = omega arith in z)
      | inr k ↦ eqb-true access 0 k
    ]

permits-ok : (right access : ℕ) → (right ≡ 0 → access ≡ 0) → permits right access ≡ true
unfolding permits
permits-ok right access h =
    elim (decided (leb 1 right)) [
      | inl k ↦ rw k
      | inr k ↦
          let l : right < 1 = leb-false 1 right k in
          let z : right ≡ 0 = omega arith in
          holds-second (leb 1 right) (eqb access 0) (eq-eqb access 0 (h z))
    ]

-- a tree of the open's TID and UID that permits its access holds it
pub holds-ok : (o : Open) (r : Tree) → r.tid ≡ o.tid → r.uid ≡ o.uid → (r.right ≡ 0 → o.access ≡ 0) → holds_open o r ≡ true
unfolding holds_open
holds-ok o r a b c =
    hold-both (eqb r.tid o.tid) (eqb r.uid o.uid && permits r.right o.access) (eq-eqb r.tid o.tid a)
    (hold-both (eqb r.uid o.uid) (permits r.right o.access) (eq-eqb r.uid o.uid b) (permits-ok r.right o.access c))

pub ends-says : (offset length : ℕ) → not (passes_end offset length) ≡ true → offset + length ≤ 2 ^ 64
unfolding passes_end
ends-says offset length h = ltb-false (2 ^ 64) (offset + length) (not-true (ltb (2 ^ 64) (offset + length)) h)

ends-ok : (offset length : ℕ) → offset + length ≤ 2 ^ 64 → not (passes_end offset length) ≡ true
unfolding passes_end
ends-ok offset length h = not-holds (ltb (2 ^ 64) (offset + length)) (le-ltb (2 ^ 64) (offset + length) h)

-- ---- two locks

-- the file of an open's FID is the open's file
pub file_of-one : (limit : ℕ) (os : List Open) {o : Open} → numbered limit (map fid_of os) ≡ true → In o os → file_of os o.fid ≡ o.file
unfolding numbered all_tails
file_of-one limit [] n m = elim m [ ]
file_of-one limit (p ∷ os) {o} n m =
    let b = both_hold (number_ok limit p.fid (map fid_of os)) (numbered limit (map fid_of os)) n in
    let s = number-says limit p.fid (map fid_of os) b.0 in
    elim (first-or-later m) [
      | inl e ↦ file_of-here p os o.fid (eq-eqb p.fid o.fid (ap fid_of (sym e))) ∙ ap (λ (q : Open). q.file) (sym e)
      | inr k ↦
          file_of-other p os o.fid (fails (eqb p.fid o.fid) (λ h.
          not-decided-twice (contains p.fid (map fid_of os)) (one-named fid_of p.fid k (sym (eqb-true p.fid o.fid h))) s.new))
          ∙ file_of-one limit os b.1 k
    ]

both-shared : (s u : Bool) → not (s && u) ≡ false → (s ≡ true) × (u ≡ true)
both-shared s u h = both_hold s u (not-false (s && u) h)

agree-says : (file : ℕ → ℕ) (l m : Lock) → agree file l m ≡ true → LocksOverlap l m → file l.fid ≡ file m.fid → (l.shared ≡ true) × (m.shared ≡ true)
unfolding agree
agree-says file l m h over e =
    both-shared l.shared m.shared
    (fails (not (l.shared && m.shared)) (λ k.
    not-decided-twice
    (overlaps l.offset l.length m.offset m.length && (not (l.shared && m.shared) && eqb (file l.fid) (file m.fid)))
    (hold-both (overlaps l.offset l.length m.offset m.length) (not (l.shared && m.shared) && eqb (file l.fid) (file m.fid))
    ((overlap-iff l.offset l.length m.offset m.length).1 over)
    (hold-both (not (l.shared && m.shared)) (eqb (file l.fid) (file m.fid)) k (eq-eqb (file l.fid) (file m.fid) e)))
    (not-true (overlaps l.offset l.length m.offset m.length && (not (l.shared && m.shared) && eqb (file l.fid) (file m.fid))) h)))

agree-ok : (file : ℕ → ℕ) (l m : Lock) → (LocksOverlap l m → file l.fid ≡ file m.fid → (l.shared ≡ true) × (m.shared ≡ true)) → agree file l m ≡ true
unfolding agree
agree-ok file l m h =
    not-holds (overlaps l.offset l.length m.offset m.length && (not (l.shared && m.shared) && eqb (file l.fid) (file m.fid)))
    (fails (overlaps l.offset l.length m.offset m.length && (not (l.shared && m.shared) && eqb (file l.fid) (file m.fid))) λ k.
    let a = both_hold (overlaps l.offset l.length m.offset m.length) (not (l.shared && m.shared) && eqb (file l.fid) (file m.fid)) k in
    let b = both_hold (not (l.shared && m.shared)) (eqb (file l.fid) (file m.fid)) a.1 in
    let c = h ((overlap-iff l.offset l.length m.offset m.length).0 a.0) (eqb-true (file l.fid) (file m.fid) b.1) in
    not-decided-twice (l.shared && m.shared) (hold-both l.shared m.shared c.0 c.1) (not-true (l.shared && m.shared) b.0))

-- an overlap goes both ways
overlap-back : (l m : Lock) → LocksOverlap l m → LocksOverlap m l
overlap-back l m over =
    (overlap-iff m.offset m.length l.offset l.length).0
    (sym (overlaps-sym l.offset l.length m.offset m.length) ∙ (overlap-iff l.offset l.length m.offset m.length).1 over)

module _ (os : List Open) (n : numbered 64 (map fid_of os) ≡ true) where
  -- locks of one file have one file by their FIDs
  one-file-says : (l m : Lock) → OneFile os l m → file_of os l.fid ≡ file_of os m.fid
  one-file-says l m f =
      ap (file_of os) (sym f.first-is) ∙ file_of-one 64 os n f.first-in ∙ f.same-file ∙ sym (file_of-one 64 os n f.second-in) ∙ ap (file_of os) f.second_is

  -- and the other way round, where both have opens
  pub one-file-ok : (l m : Lock) → ((o : Open) × In o os × (o.fid ≡ l.fid)) → ((o : Open) × In o os × (o.fid ≡ m.fid))
      → file_of os l.fid ≡ file_of os m.fid → OneFile os l m
  one-file-ok l m o p e =
      record {
        first = o.0;
        second = p.0;
        first-in = o.1;
        second-in = p.1;
        first-is = o.2;
        second_is = p.2;
        same-file =
            sym (file_of-one 64 os n o.1) ∙ ap (file_of os) o.2 ∙ e ∙ ap (file_of os) (sym p.2) ∙ file_of-one 64 os n p.1;
      }

  -- two listed locks of one file that overlap are both shared
  pub pairs-says : (ls : List Lock) → agree_all (file_of os) ls ≡ true → (i j : ℕ) → i < length ls → j < length ls → (i ≡ j → ⊥)
      → OneFile os (get_or ls i no_lock) (get_or ls j no_lock) → LocksOverlap (get_or ls i no_lock) (get_or ls j no_lock)
      → ((get_or ls i no_lock).shared ≡ true) × ((get_or ls j no_lock).shared ≡ true)
  unfolding agree_all
  pairs-says ls h i j a b different one over =
      let same = one-file-says (get_or ls i no_lock) (get_or ls j no_lock) one in
      elim (dec_lt i j) [
        | yes k ↦ agree-says (file_of os) (get_or ls i no_lock) (get_or ls j no_lock) (tails-pairs no_lock (agree (file_of os)) ls h i j k b) over same
        | no k ↦
            let later : j < i = omega arith in
            let both = agree-says (file_of os) (get_or ls j no_lock) (get_or ls i no_lock) (tails-pairs no_lock (agree (file_of os)) ls h j i later a)
            (overlap-back (get_or ls i no_lock) (get_or ls j no_lock) over) (sym same) in
            (both.1, both.0)
      ]

  pub pairs-ok : (ls : List Lock) → ((l : Lock) → In l ls → (o : Open) × In o os × (o.fid ≡ l.fid))
      → ((i j : ℕ) → i < length ls → j < length ls → (i ≡ j → ⊥)
      → OneFile os (get_or ls i no_lock) (get_or ls j no_lock) → LocksOverlap (get_or ls i no_lock) (get_or ls j no_lock)
      → ((get_or ls i no_lock).shared ≡ true) × ((get_or ls j no_lock).shared ≡ true))
      → agree_all (file_of os) ls ≡ true
  unfolding agree_all
  pairs-ok ls owned h =
      pairs-tails no_lock (agree (file_of os)) ls λ i j a b.
      let c : i < length ls = omega arith in
      agree-ok (file_of os) (get_or ls i no_lock) (get_or ls j no_lock) λ over same.
      h i j c b (λ e. let z : ⊥ = omega arith in z)
      (one-file-ok (get_or ls i no_lock) (get_or ls j no_lock) (owned (get_or ls i no_lock) (place_in no_lock ls i c)) (owned (get_or ls j no_lock) (place_in no_lock ls j b)) same)
      over

-- ---- the whole

module _ (t : Tables) (s : Sound t) where
  pub plain-tree : (r : Tree) → In r (trees_of t) → TreeOk (map uid_of (sessions_of t)) r
  plain-tree r m = tree-says (map uid_of (sessions_of t)) r (all-each (tree_ok (map uid_of (sessions_of t))) m s.records.trees_ok)

  pub plain-open : (o : Open) → In o (opens_of t) → OpenOk (trees_of t) o
  plain-open o m = open-says (trees_of t) o (all-each (open_ok (trees_of t)) m s.records.opens_ok)

  pub plain-lock : (l : Lock) → In l (locks_of t) → LockOk (map fid_of (opens_of t)) l
  plain-lock l m = lock-says (map fid_of (opens_of t)) l (all-each (lock_ok (map fid_of (opens_of t))) m s.locks.owned)

  pub plain-open-tree : (o : Open) → In o (opens_of t) → (r : Tree) × In r (trees_of t) × (r.tid ≡ o.tid) × (r.uid ≡ o.uid) × (r.right ≡ 0 → o.access ≡ 0)
  plain-open-tree o m =
      let r = any-one (holds_open o) (trees_of t) (plain-open o m).held in
      let h = holds-says o r.0 r.2 in
      (r.0, r.1, h.tid, h.uid, permits-says r.0.right o.access h.permitted)

  pub plain-tree-session : (r : Tree) → In r (trees_of t) → (u : Session) × In u (sessions_of t) × (u.uid ≡ r.uid)
  plain-tree-session r m = named-one uid_of r.uid (sessions_of t) (plain-tree r m).session

  -- an open's session exists because its tree's does
  pub plain-open-session : (o : Open) → In o (opens_of t) → (u : Session) × In u (sessions_of t) × (u.uid ≡ o.uid)
  plain-open-session o m =
      let r = plain-open-tree o m in
      let u = plain-tree-session r.0 r.1 in
      (u.0, u.1, u.2 ∙ r.3)

module _ (t : Tables) (p : PlainSound t) where
  pub computed-tree : (r : Tree) → In r (trees_of t) → tree_ok (map uid_of (sessions_of t)) r ≡ true
  computed-tree r m =
      let u = p.tree-session r m in
      tree-ok (map uid_of (sessions_of t)) r (record { right = le-leb r.right 1 (p.rights r m); session = one-named uid_of r.uid u.1 u.2 })

  pub computed-open : (o : Open) → In o (opens_of t) → open_ok (trees_of t) o ≡ true
  computed-open o m =
      let r = p.open-tree o m in
      open-ok (trees_of t) o (record {
        file = le-leb o.file 15 (p.files o m);
        access = le-leb o.access 2 (p.accesses o m);
        sharing = sharing-ok o.sharing (p.sharings o m);
        held = one-any (holds_open o) r.1 (holds-ok o r.0 r.2 r.3 r.4);
      })

  pub computed-lock : (l : Lock) → In l (locks_of t) → lock_ok (map fid_of (opens_of t)) l ≡ true
  computed-lock l m =
      let o = p.lock-open l m in
      lock-ok (map fid_of (opens_of t)) l (record { owner = one-named fid_of l.fid o.1 o.2; ends = ends-ok l.offset l.length (p.lock-ends l m) })

  pub computed-fids : numbered 64 (map fid_of (opens_of t)) ≡ true
  computed-fids = numbered-ok 64 (map fid_of (opens_of t)) p.fids

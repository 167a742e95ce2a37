-- The walk over the list of locks finds the first one in the way, and that lock is the holder (document 02, CR 2: "The conflict test is to give, instead of
-- yes or no, the place of the first conflicting lock in the list as it then stands"). Assumes nothing.
use Rattle.std.proofs.Math.Path.{◌≡◌, refl, sym, ap}
use Rattle.std.proofs.Common.{◌∙◌, take-append-drop, get_or-take}
use Rattle.std.specs.Prelude.{◌↔◌, Bool, true, false, ◌&&◌, take, drop, get_or, Option, Some, None}
use Prim.Native.Nat.{ℕ, min, ◌<◌}
use native.Mathlib.Omega.{arith}
use Rattle.std.proofs.Math.Decide.{dec_lt}
use mathlib.Core.List.Memᴰ.{append_left as in_front}
use mathlib.Core.List.{List, Memᴰ as In}
use Rattle.std.proofs.Math.ListN.{length, length-take}
use Rattle.std.proofs.Math.Dec.{eqb}
use borrow.Author.Tests.{eqb-true, eq-eqb}
use Rattle.lists.specs.Walk.{found}
use Rattle.lists.specs.FoundLaws.{first_of, shifted, found-append, found_below}
use Rattle.lists.specs.PairLaws.{place_in}
use Rattle.lists.specs.Truth.{both_hold, hold-both, not-decided-twice}
use Rattle.records.specs.declared.Open.{Open}
use Rattle.records.specs.declared.Lock.{Lock}
use Rattle.records.specs.declared.Tables.{Tables}
use Rattle.records.specs.Empty.{no_lock}
use Rattle.records.specs.Held.{opens_of}
use Rattle.locks.specs.Range.{Overlap, overlaps, overlap-iff}
use Rattle.locks.specs.Wire.{range_at}
use Rattle.locks.specs.Answer.{bars, in_way, answers_for, answers}
use Rattle.locks.specs.Request.{ask_of, lock_of, holder_at, of_header}
use Rattle.locks.specs.declared.types.Ask.{Ask}
use Rattle.locks.specs.declared.types.LockRange.{LockRange}
use Rattle.locks.specs.declared.types.Holder.{Holder}
use Rattle.locks.specs.declared.types.Purpose.TheVariants.{Grant}
use Rattle.soundness.specs.File.{file_of}
use Rattle.soundness.specs.Sound.{sound}
use Rattle.invariants.specs.SoundParts.{sound-says}
use Rattle.invariants.specs.FoundFacts.{found-hit, found-miss}
use Rattle.claims.specs.SoundPlain.{file_of-one}
use Rattle.demands.specs.LoneLock.{OfFile, InWay, grant-bars}
use Rattle.demands.specs.LockWords.{Opened}
use Rattle.demands.specs.HolderWords.{FirstInWay}

-- ---- the first that passes a test

module _ {A : Type 0} (d : A) (xs : List A) (j k : ℕ) (below : j < k) (inside : j < length xs) where
  -- an element before a place is among those before it
  place-before : In (get_or xs j d) (take k xs)
  place-before =
      let n : length (take k xs) ≡ min k (length xs) = length-take k xs in
      let m : j < length (take k xs) = omega arith in
      rw (get_or-take k xs j d below) at (place_in d (take k xs) j m)

module _ {A : Type 0} (p : A → Bool) (xs : List A) where
  -- none in front of the one found passes: that would be found there
  front-none : (k : ℕ) (x y : Option ℕ) → found p (take k xs) ≡ x → first_of x y ≡ Some k → x ≡ None
  unfolding first_of
  front-none k (Some j) y e f =
      let same : j ≡ k = cc in
      let n : length (take k xs) ≡ min k (length xs) = length-take k xs in
      let below : j < length (take k xs) = found_below p (take k xs) j e in
      absurd (let z : ⊥ = omega arith in z)
  front-none k None y e f = refl

  none-front : (k : ℕ) → found p xs ≡ Some k → {x : A} → In x (take k xs) → p x ≡ false
  none-front k e m =
      let whole : first_of (found p (take k xs)) (shifted (length (take k xs)) (found p (drop k xs))) ≡ Some k =
      sym (found-append p (take k xs) (drop k xs)) ∙ ap (found p) (take-append-drop k xs) ∙ e in
      found-miss p m (front-none k (found p (take k xs)) _ refl whole)

  -- one that passes, with none in front of it that does, is the one found
  first_found : (d : A) (k : ℕ) → k < length xs → p (get_or xs k d) ≡ true → ((x : A) → In x (take k xs) → p x ≡ true → ⊥) → (x : Option ℕ) → found p xs ≡ x → x ≡ Some k
  first_found d k inside passes free (Some j) e =
      let same : j ≡ k =
      elim (dec_lt j k) [
        | yes l ↦ absurd (free (get_or xs j d) (place-before d xs j k l (found_below p xs j e)) (found-hit p xs j d e).passes)
        | no n ↦ elim (dec_lt k j) [
          | yes l ↦ absurd (not-decided-twice (p (get_or xs k d)) passes (none-front j e (place-before d xs k j l inside)))
          | no m ↦ omega arith
        ]
      ] in
      ap Some same
  first_found d k inside passes free None e = absurd (not-decided-twice (p (get_or xs k d)) passes (found-miss p (place_in d xs k inside) e))

-- what is taken of a list was in it
take-was : {A : Type 0} (k : ℕ) (xs : List A) {x : A} → In x (take k xs) → In x xs
take-was k xs m = rw (take-append-drop k xs) at (in_front (drop k xs) m)

-- ---- a test that says just that a lock is in the way

pub record Way (t : Tables) (o : Open) (offset size : ℕ) (Clash : Lock → Type 0) (l : Lock) : Type 0 where
  pub of-file : OfFile t o l
  pub overlap : Overlap l.offset l.length offset size
  pub clash : Clash l

module _ {t : Tables} {o : Open} {offset size : ℕ} {Clash : Lock → Type 0} (p : Lock → Bool) (list : List Lock)
    (exact : (l : Lock) → In l list → (p l ≡ true) ↔ Way t o offset size Clash l) where
  way-passes : (xs : List Lock) → ((l : Lock) → In l xs → In l list) → (w : InWay t o xs offset size Clash) → p w.lock ≡ true
  way-passes xs was w = (exact w.lock (was w.lock w.listed)).1 (record { of-file = w.of-file; overlap = w.overlap; clash = w.clash })

  passes-way : (xs : List Lock) → ((l : Lock) → In l xs → In l list) → (l : Lock) → In l xs → p l ≡ true → InWay t o xs offset size Clash
  passes-way xs was l m e = let w = (exact l (was l m)).0 e in record { lock = l; listed = m; of-file = w.of-file; overlap = w.overlap; clash = w.clash }

  -- the walk found nothing exactly if none is in the way
  pub none_found : found p list ≡ None → InWay t o list offset size Clash → ⊥
  none_found e w = not-decided-twice (p w.lock) (way-passes list (λ l m. m) w) (found-miss p w.listed e)

  pub found_none : (InWay t o list offset size Clash → ⊥) → (x : Option ℕ) → found p list ≡ x → x ≡ None
  found_none free (Some k) e = let h = found-hit p list k no_lock e in absurd (free (passes-way list (λ l m. m) (get_or list k no_lock) h.listed h.passes))
  found_none free None e = refl

  -- and a place exactly if the record there is the first in the way
  pub found_first : (k : ℕ) → found p list ≡ Some k → FirstInWay t o list offset size Clash (holder_at list k)
  unfolding holder_at
  found_first k e =
      let h = found-hit p list k no_lock e in
      let w = (exact (get_or list k no_lock) h.listed).0 h.passes in
      record {
        in_list = found_below p list k e;
        stands-there = refl;
        of-file = w.of-file;
        overlap = w.overlap;
        clash = w.clash;
        none_before = λ b. not-decided-twice (p b.lock) (way-passes (take k list) (λ l m. take-was k list m) b) (none-front p list k e b.listed);
      }

  pub first-place : {h : Holder} → FirstInWay t o list offset size Clash h → (found p list ≡ Some h.place) × (holder_at list h.place ≡ h)
  unfolding holder_at
  first-place {h} a = (
    first_found p list no_lock h.place a.in_list
        ((exact (get_or list h.place no_lock) (place_in no_lock list h.place a.in_list)).1
        (rw a.stands-there (record { of-file = a.of-file; overlap = a.overlap; clash = a.clash })))
        (λ l m e. a.none_before (passes-way (take h.place list) (λ l m. take-was h.place list m) l m e)) (found p list) refl,
    λ i. record { lock = a.stands-there i; place = h.place },
  )

-- ---- what is asked through an open, of locks whose FIDs are opens'

module _ (t : Tables) (ok : sound t ≡ true) (o : Open) (there-is : In o (opens_of t)) (q : Ask) (of : o.fid ≡ q.fid) {Clash : Lock → Type 0}
    (clashes : (l : Lock) → (bars q.purpose q l ≡ true) ↔ Clash l) (asks : (l : Lock) → answers (file_of (opens_of t)) q l ≡ in_way (file_of (opens_of t)) q l)
    (list : List Lock) (opened : Opened t list) where
  abbrev pub file-of : ℕ → ℕ
  file-of n = file_of (opens_of t) n

  file-one : {p : Open} → In p (opens_of t) → file-of p.fid ≡ p.file
  file-one m = file_of-one 64 (opens_of t) (sound-says t ok).records.fids m

  file-asked : file-of q.fid ≡ o.file
  file-asked = ap file-of (sym of) ∙ file-one there-is

  pub asked-exact : (l : Lock) → In l list → (answers file-of q l ≡ true) ↔ Way t o q.offset q.length Clash l
  unfolding in_way Opened
  asked-exact l m = (
    λ e. let a = both_hold (overlaps l.offset l.length q.offset q.length) (bars q.purpose q l && eqb (file-of l.fid) (file-of q.fid)) (sym (asks l) ∙ e) in
        let b = both_hold (bars q.purpose q l) (eqb (file-of l.fid) (file-of q.fid)) a.1 in
        let p = opened l m in
        record {
          of-file = (p.0, p.1, p.2, sym (file-one p.1) ∙ ap file-of p.2 ∙ eqb-true (file-of l.fid) (file-of q.fid) b.1 ∙ file-asked);
          overlap = (overlap-iff l.offset l.length q.offset q.length).0 a.0;
          clash = (clashes l).0 b.0;
        },
    λ w. let p = w.of-file in
        let same : file-of l.fid ≡ file-of q.fid = ap file-of (sym p.2) ∙ file-one p.1 ∙ p.3 ∙ sym file-asked in
        asks l
        ∙ hold-both (overlaps l.offset l.length q.offset q.length) (bars q.purpose q l && eqb (file-of l.fid) (file-of q.fid))
        ((overlap-iff l.offset l.length q.offset q.length).1 w.overlap)
        (hold-both (bars q.purpose q l) (eqb (file-of l.fid) (file-of q.fid)) ((clashes l).1 w.clash) (eq-eqb (file-of l.fid) (file-of q.fid) same)),
  )

-- ---- the ranges of a request, in order

module _ (t : Tables) (ok : sound t ≡ true) (o : Open) (fid : ℕ) (there-is : In o (opens_of t)) (of : o.fid ≡ fid) (high : ℕ) (shared large : Bool) (area : List ℕ) where
  abbrev pub files : ℕ → ℕ
  files n = file_of (opens_of t) n

  abbrev pub range : ℕ → LockRange
  range k = of_header high (range_at large area k)

  abbrev pub lock : LockRange → Lock
  lock r = lock_of fid shared r

  abbrev pub test : ℕ → Lock → Bool
  test k l = answers files (ask_of fid (Grant shared) (range k)) l

  -- the walk's test of the k-th range
  pub test-exact : (k : ℕ) (list : List Lock) → Opened t list → (l : Lock) → In l list
      → (test k l ≡ true) ↔ Way t o (range_at large area k).offset (range_at large area k).length (λ m. (m.shared ≡ true) × (shared ≡ true) → ⊥) l
  unfolding of_header ask_of answers answers_for bars
  test-exact k list opened = asked-exact t ok o there-is (ask_of fid (Grant shared) (range k)) of (grant-bars shared) (λ l. refl) list opened

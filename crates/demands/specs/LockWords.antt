-- The unlocks and locks of a request in plain words (document 01, "Locks, reads and writes"): what is taken out of the list in order, what stands in the way of a
-- range, and what is granted; and that the definitions of `locks` say the same. Assumes nothing.
use Rattle.std.proofs.Math.Path.{◌≡◌, refl, sym, ap}
use Rattle.std.proofs.Common.{◌∙◌, length-append}
use Rattle.std.proofs.Math.Logic.{inl, inr}
use Prim.Native.Nat.{ℕ, ◌+◌, ◌-◌, ◌^◌, ◌≤◌, ◌<◌}
use native.Mathlib.Omega.{arith}
use Rattle.std.specs.Prelude.{Bool, not, ◌&&◌, length, Option, None, Some}
use Rattle.std.proofs.Math.Bool.{true}
use mathlib.Core.List.Memᴰ.{append_cases as front-or-back}
use mathlib.Core.List.Memᴰ.{cases_cons as first-or-later}
use mathlib.Core.List.Memᴰ.{eq_of_singleton as only_one}
use mathlib.Core.List.Memᴰ.{head as here}
use mathlib.Core.List.Memᴰ.{tail as there}
use mathlib.Core.List.{List, [], ◌∷◌, ◌++◌, Memᴰ as In}
use Rattle.std.proofs.Math.Dec.{eqb}
use borrow.Author.Tests.{eqb-true, eq-eqb, ltb-true, lt-ltb, not-true}
use Rattle.lists.specs.Walk.{any}
use Rattle.lists.specs.Truth.{both_hold, hold-both, fails, not-decided-twice, not-holds}
use Rattle.lists.specs.Members.{any-one, one-any}
use Rattle.records.specs.declared.Open.{Open}
use Rattle.records.specs.declared.Lock.{Lock}
use Rattle.records.specs.declared.Tables.{Tables}
use Rattle.records.specs.Held.{opens_of}
use Rattle.locks.specs.Range.{overlaps, passes_end, overlap-iff}
use Rattle.locks.specs.Answer.{owns, bars, in_way, named, answers_for, answers}
use Rattle.locks.specs.Request.{ask_of, lock_of, remove_at, Grants, granted, blocked, range_passes}
use Rattle.locks.specs.declared.types.LockRange.{LockRange}
use Rattle.locks.specs.declared.types.Holder.{Holder}
use Rattle.locks.specs.declared.types.Purpose.TheVariants.{Grant, Release}
use Rattle.soundness.specs.File.{file_of}
use Rattle.soundness.specs.Sound.{sound}
use Rattle.invariants.specs.SoundParts.{sound-says}
use Rattle.claims.specs.SoundPlain.{file_of-one}
use Rattle.demands.specs.LoneLock.{BarsLock}

-- two constructors are not one
pub never : {P : Type 0} → ◌≡◌ {A = ℕ} 0 1 → P
never e = absurd (omega arith)

-- ---- unlocks

-- "with equal FID, process, offset and length"
pub record Named (fid : ℕ) (r : LockRange) (l : Lock) : Type 0 where
  pub of-fid : l.fid ≡ fid
  pub of-process : l.process ≡ r.process
  pub of-offset : l.offset ≡ r.offset
  pub of_length : l.length ≡ r.length

-- "each removes the earliest listed lock with equal FID, process, offset and length"
pub data TakenOut (fid : ℕ) (r : LockRange) : List Lock → List Lock → Type 0 where
  this-one : {l : Lock} {ls : List Lock} → Named fid r l → TakenOut fid r (l ∷ ls) ls
  later-one : {l : Lock} {ls left : List Lock} → (Named fid r l → ⊥) → TakenOut fid r ls left → TakenOut fid r (l ∷ ls) (l ∷ left)

-- "Unlocks go first, in order": all found something to remove
pub data Released (fid : ℕ) : List LockRange → List Lock → List Lock → Type 0 where
  none-to-release : {list : List Lock} → Released fid [] list list
  release-then : {r : LockRange} {rs : List LockRange} {list left last : List Lock} → TakenOut fid r list left → Released fid rs left last → Released fid (r ∷ rs) list last

-- "no such lock to release": one of them found nothing
pub data Unnamed (fid : ℕ) : List LockRange → List Lock → Type 0 where
  names-none : {r : LockRange} {rs : List LockRange} {list : List Lock} → ((l : Lock) → In l list → Named fid r l → ⊥) → Unnamed fid (r ∷ rs) list
  later-names-none : {r : LockRange} {rs : List LockRange} {list left : List Lock} → TakenOut fid r list left → Unnamed fid rs left → Unnamed fid (r ∷ rs) list

module _ (file : ℕ → ℕ) (fid : ℕ) (r : LockRange) where
  -- the test of a listed lock
  abbrev pub test : Lock → Bool
  test l = answers file (ask_of fid Release r) l

  pub test-named : (l : Lock) → test l ≡ true → Named fid r l
  unfolding answers answers_for ask_of named owns
  test-named l e =
      let a = both_hold (eqb l.offset r.offset) (eqb l.length r.length && (eqb l.fid fid && eqb l.process r.process)) e in
      let b = both_hold (eqb l.length r.length) (eqb l.fid fid && eqb l.process r.process) a.1 in
      let d = both_hold (eqb l.fid fid) (eqb l.process r.process) b.1 in
      record {
        of-fid = eqb-true l.fid fid d.0;
        of-process = eqb-true l.process r.process d.1;
        of-offset = eqb-true l.offset r.offset a.0;
        of_length = eqb-true l.length r.length b.0;
      }

  pub named-test : (l : Lock) → Named fid r l → test l ≡ true
  unfolding answers answers_for ask_of named owns
  named-test l n =
      rw (
        eq-eqb l.offset r.offset n.of-offset,
        eq-eqb l.length r.length n.of_length,
        eq-eqb l.fid fid n.of-fid,
        eq-eqb l.process r.process n.of-process,
      )

  -- what a walk finds is taken out
  pub record OutFrom (j k : ℕ) (list : List Lock) : Type 0 where
    pub from : j ≤ k
    pub out : TakenOut fid r list (remove_at (k - j) list)

-- only one lock can be taken out
pub out_once : {fid : ℕ} {r : LockRange} {list a b : List Lock} → TakenOut fid r list a → TakenOut fid r list b → a ≡ b
out_once (this-one n) (this-one m) = refl
out_once (this-one n) (later-one h m) = absurd (h n)
out_once (later-one h n) (this-one m) = absurd (h m)
out_once (later-one {l} h n) (later-one g m) = ap (λ (x : List Lock). l ∷ x) (out_once n m)

-- and it was listed
pub out-named : {fid : ℕ} {r : LockRange} {list left : List Lock} → TakenOut fid r list left → (l : Lock) × In l list × Named fid r l
out-named (this-one {l} n) = (l, here refl, n)
out-named (later-one h n) = let w = out-named n in (w.0, there w.1, w.2)

-- no range takes nothing out; one takes its lock out, or names none
pub none-released : {fid : ℕ} {rs : List LockRange} {list left : List Lock} → Released fid rs list left → rs ≡ [] → left ≡ list
none-released none-to-release e = refl
none-released (release-then out more) e = never cc

pub none-unnamed : {fid : ℕ} {rs : List LockRange} {list : List Lock} → Unnamed fid rs list → rs ≡ [] → ⊥
none-unnamed (names-none h) e = never cc
none-unnamed (later-names-none out more) e = never cc

pub one-released : {fid : ℕ} {r : LockRange} {list left : List Lock} → Released fid (r ∷ []) list left → TakenOut fid r list left
one-released (release-then out none-to-release) = out

-- what the release of all gives, and what that means
pub data Releasing (fid : ℕ) (rs : List LockRange) (list : List Lock) : Option (List Lock) → Type 0 where
  all-released : {left : List Lock} → Released fid rs list left → Releasing fid rs list (Some left)
  one-unnamed : Unnamed fid rs list → Releasing fid rs list None

pub releasing-then : {fid : ℕ} {r : LockRange} {rs : List LockRange} {list left : List Lock} {o : Option (List Lock)} → TakenOut fid r list left → Releasing fid rs left o
    → Releasing fid (r ∷ rs) list o
releasing-then t (all-released a) = all-released (release-then t a)
releasing-then t (one-unnamed a) = one-unnamed (later-names-none t a)

-- what is left was listed
pub out-was : {fid : ℕ} {r : LockRange} {list left : List Lock} → TakenOut fid r list left → {l : Lock} → In l left → In l list
out-was (this-one n) m = there m
out-was (later-one h n) m = elim (first-or-later m) [ inl e ↦ here e | inr k ↦ there (out-was n k) ]

-- ---- ranges past 2^64

-- "lock range passes 2^64"
unfoldable pub PastEnd : List LockRange → Type 0
PastEnd rs = (r : LockRange) × In r rs × (2 ^ 64 < r.offset + r.length)

pub past-means : (rs : List LockRange) → any range_passes rs ≡ true → PastEnd rs
unfolding PastEnd range_passes passes_end
past-means rs e = let w = any-one range_passes rs e in (w.0, w.1, ltb-true (2 ^ 64) (w.0.offset + w.0.length) w.2)

pub past_is : (rs : List LockRange) → PastEnd rs → any range_passes rs ≡ true
unfolding PastEnd range_passes passes_end
past_is rs w = one-any range_passes w.1 (lt-ltb (2 ^ 64) (w.0.offset + w.0.length) w.2)

pub one-past : (r : LockRange) → PastEnd (r ∷ []) → 2 ^ 64 < r.offset + r.length
unfolding PastEnd
one-past r w = rw (only_one w.1) at w.2

-- ---- locks

-- "Then locks in order, each against the list as it stands, the asker's own locks included, however long it gets": no lock of the list is in the way of any
-- (`BarsLock` in LoneLock.antt)
pub data AllGranted (t : Tables) (o : Open) (fid : ℕ) (shared : Bool) : List LockRange → List Lock → List Lock → Type 0 where
  none-to-grant : {list : List Lock} → AllGranted t o fid shared [] list list
  grant-then : {r : LockRange} {rs : List LockRange} {list last : List Lock} → (BarsLock t o list shared r → ⊥)
      → AllGranted t o fid shared rs (list ++ (lock_of fid shared r ∷ [])) last → AllGranted t o fid shared (r ∷ rs) list last

-- no range is granted nothing
pub none-granted : {t : Tables} {o : Open} {fid : ℕ} {shared : Bool} {rs : List LockRange} {list last : List Lock} → AllGranted t o fid shared rs list last → rs ≡ [] → last ≡ list
none-granted none-to-grant e = refl
none-granted (grant-then free more) e = never cc

-- or one is in the way
pub data OneBlocked (t : Tables) (o : Open) (fid : ℕ) (shared : Bool) : List LockRange → List Lock → Type 0 where
  blocked-here : {r : LockRange} {rs : List LockRange} {list : List Lock} → BarsLock t o list shared r → OneBlocked t o fid shared (r ∷ rs) list
  blocked-later : {r : LockRange} {rs : List LockRange} {list : List Lock} → (BarsLock t o list shared r → ⊥)
      → OneBlocked t o fid shared rs (list ++ (lock_of fid shared r ∷ [])) → OneBlocked t o fid shared (r ∷ rs) list

pub none-blocked : {t : Tables} {o : Open} {fid : ℕ} {shared : Bool} {rs : List LockRange} {list : List Lock} → OneBlocked t o fid shared rs list → rs ≡ [] → ⊥
none-blocked (blocked-here bar) e = never cc
none-blocked (blocked-later free more) e = never cc

pub one_more : (list : List Lock) (l : Lock) → length (list ++ (l ∷ [])) ≡ length list + 1
one_more list l = length-append list (l ∷ [])

pub one-granted : {t : Tables} {o : Open} {fid : ℕ} {shared : Bool} {r : LockRange} {list last : List Lock} → AllGranted t o fid shared (r ∷ []) list last
    → (BarsLock t o list shared r → ⊥) × (last ≡ list ++ (lock_of fid shared r ∷ [])) × (length last ≡ length list + 1)
one-granted {fid = fid} {shared = shared} {r = r} {list = list} (grant-then free none-to-grant) = (free, refl, one_more list (lock_of fid shared r))

-- each lock's FID is an open's
unfoldable pub Opened : Tables → List Lock → Type 0
Opened t list = (l : Lock) → In l list → (p : Open) × In p (opens_of t) × (p.fid ≡ l.fid)

-- what the walk over all locks gives, and what that means
pub data Granting (t : Tables) (o : Open) (fid : ℕ) (shared : Bool) (rs : List LockRange) (list : List Lock) : Grants → Type 0 where
  all-granted : {last : List Lock} → AllGranted t o fid shared rs list last → Granting t o fid shared rs list (granted last)
  one-blocked : {h : Holder} → OneBlocked t o fid shared rs list → Granting t o fid shared rs list (blocked h)

module _ (t : Tables) (ok : sound t ≡ true) (o : Open) (fid : ℕ) (there-is : In o (opens_of t)) (of : o.fid ≡ fid) (shared : Bool) where
  abbrev pub file-of : ℕ → ℕ
  file-of n = file_of (opens_of t) n

  file-one : {p : Open} → In p (opens_of t) → file-of p.fid ≡ p.file
  file-one m = file_of-one 64 (opens_of t) (sound-says t ok).records.fids m

  file-asked : file-of fid ≡ o.file
  file-asked = ap file-of (sym of) ∙ file-one there-is

  module _ (r : LockRange) where
    abbrev pub in-way : Lock → Bool
    in-way l = answers file-of (ask_of fid (Grant shared) r) l

    pub bars-means : (list : List Lock) → Opened t list → (l : Lock) → In l list → in-way l ≡ true → BarsLock t o list shared r
    unfolding answers answers_for ask_of in_way bars Opened
    bars-means list opened l m e =
        let a = both_hold (overlaps l.offset l.length r.offset r.length) (not (l.shared && shared) && eqb (file-of l.fid) (file-of fid)) e in
        let b = both_hold (not (l.shared && shared)) (eqb (file-of l.fid) (file-of fid)) a.1 in
        let p = opened l m in
        record {
          lock = l;
          listed = m;
          of-file = (p.0, p.1, p.2, sym (file-one p.1) ∙ ap file-of p.2 ∙ eqb-true (file-of l.fid) (file-of fid) b.1 ∙ file-asked);
          overlap = (overlap-iff l.offset l.length r.offset r.length).0 a.0;
          clash = λ s. not-decided-twice (l.shared && shared) (hold-both l.shared shared s.0 s.1) (not-true (l.shared && shared) b.0);
        }

    pub bars-is : (list : List Lock) (s : BarsLock t o list shared r) → in-way s.lock ≡ true
    unfolding answers answers_for ask_of in_way bars
    bars-is list s =
        let p = s.of-file in
        let same : file-of s.lock.fid ≡ file-of fid = ap file-of (sym p.2) ∙ file-one p.1 ∙ p.3 ∙ sym file-asked in
        hold-both (overlaps s.lock.offset s.lock.length r.offset r.length) (not (s.lock.shared && shared) && eqb (file-of s.lock.fid) (file-of fid))
        ((overlap-iff s.lock.offset s.lock.length r.offset r.length).1 s.overlap)
        (hold-both (not (s.lock.shared && shared)) (eqb (file-of s.lock.fid) (file-of fid))
        (not-holds (s.lock.shared && shared) (fails (s.lock.shared && shared) (λ e. s.clash (both_hold s.lock.shared shared e))))
        (eq-eqb (file-of s.lock.fid) (file-of fid) same))

    -- the list with the lock granted
    pub opened-more : (list : List Lock) → Opened t list → Opened t (list ++ (lock_of fid shared r ∷ []))
    unfolding Opened lock_of
    opened-more list opened l m =
        elim (front-or-back list m) [
          | inl n ↦ opened l n
          | inr n ↦ (o, there-is, of ∙ sym (ap (λ (x : Lock). x.fid) (only_one n)))
        ]

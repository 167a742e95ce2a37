-- The question whether a file has changed (document 02, CR 8): "A host call answers "unchanged" exactly if the open has read, the numbers are equal and below the largest;
-- otherwise "changed". .. Refusals: 6 for an unknown FID, after 4." Assumes nothing.
use Rattle.std.specs.Prelude.{◌≡◌, ◌↔◌, ℕ, ◌<◌, Bool, cond, not, get_or, ltb, eqb, Option, Some, None}
use Rattle.std.proofs.Math.Path.{refl, sym, ap}
use Rattle.std.proofs.Common.{◌∙◌, arith, eqb-true, eq-eqb, ltb-true, lt-ltb}
use Rattle.std.proofs.Math.Bool.{true, false}
use mathlib.Core.List.{Memᴰ as In}
use Rattle.lists.specs.Truth.{both_hold, hold-both, not-decided-twice, test-cases}
use Rattle.lists.specs.Walk.{found}
use Rattle.records.specs.declared.Open.{Open}
use Rattle.records.specs.declared.Tables.{Tables}
use Rattle.records.specs.Change.{LARGEST, changes_of}
use Rattle.records.specs.Empty.{no_open}
use Rattle.records.specs.Held.{opens_of}
use Rattle.numbers.specs.Column.{fid_of}
use Rattle.soundness.specs.Sound.{sound}
use Rattle.host.specs.declared.answer.Returned.{Returned}
use Rattle.host.specs.HostCall.{refused, done, is_unchanged, unchanged_at, ask_unchanged}
use Rattle.invariants.specs.FoundFacts.{found-hit, found-miss}
use Rattle.invariants.specs.Numbered.{numbered-same}
use Rattle.invariants.specs.SoundParts.{sound-says}

-- why the question is answered with a number
pub data AskReason (t : Tables) (fid : ℕ) : ℕ → Type 0 where
  ask-unsound : sound t ≡ false → AskReason t fid 4
  ask-unknown : sound t ≡ true → ((o : Open) → In o (opens_of t) → o.fid ≡ fid → ⊥) → AskReason t fid 6
  ask-done : sound t ≡ true → (o : Open) → In o (opens_of t) → o.fid ≡ fid → AskReason t fid 0

-- "unchanged" exactly if the open has read, the numbers are equal and below the largest
pub record UpToDate (t : Tables) (o : Open) : Type 0 where
  pub has-read : o.read ≡ true
  pub equal : o.seen ≡ changes_of t o.file
  pub below : changes_of t o.file < LARGEST

pub up-to-date : (t : Tables) (o : Open) → (is_unchanged t o ≡ true) ↔ UpToDate t o
unfolding is_unchanged
up-to-date t o = (
  λ e. let a = both_hold o.read _ e in
      let b = both_hold (eqb o.seen (changes_of t o.file)) (ltb (changes_of t o.file) LARGEST) a.1 in
      record { has-read = a.0; equal = eqb-true o.seen (changes_of t o.file) b.0; below = ltb-true (changes_of t o.file) LARGEST b.1 },
  λ u. hold-both o.read _ u.has-read
      (hold-both (eqb o.seen (changes_of t o.file)) (ltb (changes_of t o.file) LARGEST) (eq-eqb o.seen (changes_of t o.file) u.equal)
      (lt-ltb (changes_of t o.file) LARGEST u.below)),
)

module _ (t : Tables) (fid : ℕ) where
  unfoldable pub has-fid : Open → Bool
  has-fid o = eqb o.fid fid

  pub asked_of : (f : Option ℕ) → found has-fid (opens_of t) ≡ f → sound t ≡ true → AskReason t fid (unchanged_at t f).number
  unfolding unchanged_at refused done has-fid
  asked_of (Some k) e s = let h = found-hit has-fid (opens_of t) k no_open e in ask-done s (get_or (opens_of t) k no_open) h.listed (eqb-true (get_or (opens_of t) k no_open).fid fid h.passes)
  asked_of None e s = ask-unknown s (λ o m q. not-decided-twice (eqb o.fid fid) (eq-eqb o.fid fid q) (found-miss has-fid m e))

  -- it changes nothing
  at-stands : (f : Option ℕ) → (unchanged_at t f).tables ≡ t
  unfolding unchanged_at refused done
  at-stands (Some k) = refl
  at-stands None = refl

  cond-stands : (b : Bool) (a : Returned) → a.tables ≡ t → (cond b (refused 4 t) a).tables ≡ t
  unfolding refused
  cond-stands true a e = refl
  cond-stands false a e = e

  pub ask-stands : (ask_unchanged t fid).tables ≡ t
  unfolding ask_unchanged
  ask-stands = cond-stands (not (sound t)) _ (at-stands _)

  -- the number beside a refusal is 0, so it never says "unchanged"
  at-refused : (f : Option ℕ) → ((unchanged_at t f).number ≡ 0 → ⊥) → (unchanged_at t f).id ≡ 0
  unfolding unchanged_at refused done
  at-refused (Some k) n = absurd (n refl)
  at-refused None n = refl

  cond-refused : (b : Bool) (a : Returned) → ((a.number ≡ 0 → ⊥) → a.id ≡ 0) → ((cond b (refused 4 t) a).number ≡ 0 → ⊥) → (cond b (refused 4 t) a).id ≡ 0
  unfolding refused
  cond-refused true a e n = refl
  cond-refused false a e n = e n

  pub ask-refused : ((ask_unchanged t fid).number ≡ 0 → ⊥) → (ask_unchanged t fid).id ≡ 0
  unfolding ask_unchanged
  ask-refused = cond-refused (not (sound t)) _ (at-refused _)

  module _ (s : sound t ≡ true) (o : Open) (listed : In o (opens_of t)) (named : o.fid ≡ fid) where
    at_open : (f : Option ℕ) → found has-fid (opens_of t) ≡ f → unchanged_at t f ≡ done (cond (is_unchanged t o) 1 0) t
    unfolding unchanged_at has-fid
    at_open (Some k) e =
        let h = found-hit has-fid (opens_of t) k no_open e in
        let same = numbered-same fid_of 64 (opens_of t) (sound-says t s).records.fids h.listed listed (eqb-true (get_or (opens_of t) k no_open).fid fid h.passes ∙ sym named) in
        ap (λ (x : Open). done (cond (is_unchanged t x) 1 0) t) same
    at_open None e = absurd (not-decided-twice (eqb o.fid fid) (eq-eqb o.fid fid named) (found-miss has-fid listed e))

    -- the open of that FID is asked about
    pub ask-open : ask_unchanged t fid ≡ done (cond (is_unchanged t o) 1 0) t
    unfolding ask_unchanged has-fid
    ask-open = rw s (at_open (found has-fid (opens_of t)) refl)

-- a FID that no open has
at_none : (t : Tables) (fid : ℕ) (f : Option ℕ) → found (λ o. eqb o.fid fid) (opens_of t) ≡ f → ((o : Open) → In o (opens_of t) → o.fid ≡ fid → ⊥) → (unchanged_at t f).number ≡ 6
unfolding unchanged_at refused
at_none t fid (Some k) e none =
    let h = found-hit (λ (o : Open). eqb o.fid fid) (opens_of t) k no_open e in
    absurd (none (get_or (opens_of t) k no_open) h.listed (eqb-true (get_or (opens_of t) k no_open).fid fid h.passes))
at_none t fid None e none = refl

-- each reason gives its number
pub ask-given : (t : Tables) (fid : ℕ) {n : ℕ} → AskReason t fid n → (ask_unchanged t fid).number ≡ n
unfolding ask_unchanged refused done
ask-given t fid (ask-unsound e) = rw e
ask-given t fid (ask-unknown e none) = rw e (at_none t fid (found (λ o. eqb o.fid fid) (opens_of t)) refl none)
ask-given t fid (ask-done e o m q) = ap (λ (a : Returned). a.number) (ask-open t fid e o m q)

-- it is answered on sound tables alone
pub ask-sound : (t : Tables) (fid : ℕ) → (ask_unchanged t fid).number ≡ 0 → sound t ≡ true
unfolding ask_unchanged refused
ask-sound t fid e = test-cases (sound t) (λ s. s) (λ s. absurd (let four : ◌≡◌ {A = ℕ} 4 0 = rw s at e in let z : ⊥ = omega arith in z))

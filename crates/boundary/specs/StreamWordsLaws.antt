-- Seven words are the state that they hold, and what is written on 0 only. Assumes nothing.
use Rattle.std.specs.Prelude.{◌≡◌, refl, ℕ, List, [], ◌∷◌, length}
use Rattle.std.proofs.Common.{arith}
use Rattle.stream.specs.declared.state.State.{State}
use Rattle.stream.specs.Reader.{Step}
use Rattle.stream.specs.Writer.{Written}
use Rattle.boundary.specs.OutParameter.{stands-else, given-done}
use Rattle.boundary.specs.StreamWords.{state_in, words_of, step_words, step_after, written_after}

-- the words of a state hold it
pub state-words : (s : State) → state_in (words_of s) ≡ s
unfolding state_in words_of
state-words s = refl

-- seven words are the words of the state that they hold
pub words-state : (w : List ℕ) → length w ≡ 7 → words_of (state_in w) ≡ w
unfolding state_in words_of
words-state (a ∷ b ∷ c ∷ d ∷ e ∷ f ∷ g ∷ []) h = refl
words-state [] h = absurd (let z : ⊥ = omega arith in z)
words-state (a ∷ []) h = absurd (let z : ⊥ = omega arith in z)
words-state (a ∷ b ∷ []) h = absurd (let z : ⊥ = omega arith in z)
words-state (a ∷ b ∷ c ∷ []) h = absurd (let z : ⊥ = omega arith in z)
words-state (a ∷ b ∷ c ∷ d ∷ []) h = absurd (let z : ⊥ = omega arith in z)
words-state (a ∷ b ∷ c ∷ d ∷ e ∷ []) h = absurd (let z : ⊥ = omega arith in z)
words-state (a ∷ b ∷ c ∷ d ∷ e ∷ f ∷ []) h = absurd (let z : ⊥ = omega arith in z)
words-state (a ∷ b ∷ c ∷ d ∷ e ∷ f ∷ g ∷ x ∷ xs) h = absurd (let z : ⊥ = omega arith in z)

module _ (before : List ℕ) (s : Step) where
  pub step-stands : (s.number ≡ 0 → ⊥) → before ≡ step_after before s
  unfolding step_after
  step-stands n = stands-else s.number (step_words s.taken s.event) before n

  pub step_given : s.number ≡ 0 → step_words s.taken s.event ≡ step_after before s
  unfolding step_after
  step_given z = given-done s.number (step_words s.taken s.event) before z

module _ (before : ℕ) (a : Written) where
  pub written_stands : (a.number ≡ 0 → ⊥) → before ≡ written_after before a
  unfolding written_after
  written_stands n = stands-else a.number a.length before n

  pub written-given : a.number ≡ 0 → a.length ≡ written_after before a
  unfolding written_after
  written-given z = given-done a.number a.length before z

-- "A reader state that no stream leaves is 5, before these, and nothing changes": the test of a state holds exactly of the states that some stream of
-- bytes leaves, and 5 is answered exactly where it fails. Assumes nothing.
use Rattle.std.specs.Prelude.{◌≡◌, refl, ℕ, zero, suc, ◌/◌, ◌%◌, ◌≤◌, ◌<◌, true, eqb, ltb, length, take, get_or, replicate}
use Rattle.std.proofs.Common.{arith, eqb-true, ltb-true, ltb-false}
use mathlib.Core.List.{List, [], ◌∷◌, ◌++◌, append-nil}
use Rattle.std.proofs.lemmas.List.{length-replicate, get_or-replicate}
use Rattle.std.proofs.Math.ListN.{get_or-eq_default}
use Rattle.std.proofs.lemmas.Bool.{eqb-false}
use Rattle.lists.specs.Truth.{test-cases}
use Rattle.stream.specs.declared.state.State.{State}
use Rattle.stream.specs.Stream.{header_of, length_of, known, judge_length, judge, begins_by, begins, First, wanted, stops, whole, first_of, first, carried_by, carried_within, carried, stopped}
use Rattle.stream.specs.State.{state_of, begun_bytes, pending, is_left}
use Rattle.stream.specs.Reader.{step_of, handed, read_by}
use Rattle.stream.specs.StateLaws.{header-says, is-left-header, is-left-message}
use Rattle.claims.specs.StreamLaws.{carried_step}
use Rattle.claims.specs.StreamKept.{Bytes, bytes-header, bytes_take, bytes-append, pending-header, pending-message, going-state, pending-wanted}
use Rattle.claims.specs.StreamCut.{stops-number}

-- ---- a state that some stream leaves

-- a stream of bytes, in one piece, after which the reader has that state
pub record LeftBySome (state : State) : Type 0 where
  pub stream : List ℕ
  pub bytes : Bytes stream
  pub leaves : state_of (carried stream).left ≡ state

-- a buffer of zeros
pub zeros : List ℕ
zeros = replicate 8192 0

pub zeros-room : length zeros ≡ 8192
unfolding zeros
zeros-room = length-replicate {A = ℕ} 8192 0

zeros-bytes : Bytes zeros
unfolding zeros
zeros-bytes =
    record {
      small = λ i.
          test-cases (ltb i 8192)
          (λ e. rw (get_or-replicate {A = ℕ} 8192 i 0 0 (ltb-true i 8192 e)) (omega arith))
          (λ e.
          let past : 8192 ≤ i = ltb-false i 8192 e in
          let size = zeros-room in
          let none : get_or zeros i 0 ≡ 0 = get_or-eq_default zeros 0 (let z : length zeros ≤ i = omega arith in z) in
          omega arith);
    }

-- ---- a stream for each state

-- each number stops the reader by one header: another type; a reserved flag; a keep-alive with length; 65,536 bytes
unfoldable pub stopper : ℕ → List ℕ
stopper zero = []
stopper (suc zero) = 1 ∷ 0 ∷ 0 ∷ 0 ∷ []
stopper (suc (suc zero)) = 0 ∷ 2 ∷ 0 ∷ 0 ∷ []
stopper (suc (suc (suc zero))) = 133 ∷ 0 ∷ 0 ∷ 1 ∷ []
stopper (suc (suc (suc (suc n)))) = 0 ∷ 1 ∷ 0 ∷ 0 ∷ []

four-small : (a b c d : ℕ) → a < 256 → b < 256 → c < 256 → d < 256 → Bytes (a ∷ b ∷ c ∷ d ∷ [])
four-small a b c d h i j k = record { small = at }
  where
    at : (n : ℕ) → get_or (a ∷ b ∷ c ∷ d ∷ []) n 0 < 256
    at zero = h
    at (suc zero) = i
    at (suc (suc zero)) = j
    at (suc (suc (suc zero))) = k
    at (suc (suc (suc (suc n)))) = omega arith

pub stopper-bytes : (n : ℕ) → 1 ≤ n → Bytes (stopper n)
unfolding stopper
stopper-bytes zero h = absurd (let z : ⊥ = omega arith in z)
stopper-bytes (suc zero) h = four-small 1 0 0 0 (omega arith) (omega arith) (omega arith) (omega arith)
stopper-bytes (suc (suc zero)) h = four-small 0 2 0 0 (omega arith) (omega arith) (omega arith) (omega arith)
stopper-bytes (suc (suc (suc zero))) h = four-small 133 0 0 1 (omega arith) (omega arith) (omega arith) (omega arith)
stopper-bytes (suc (suc (suc (suc n)))) h = four-small 0 1 0 0 (omega arith) (omega arith) (omega arith) (omega arith)

pub stopper-stops : (n : ℕ) → 1 ≤ n → n ≤ 4 → (carried (stopper n)).left ≡ stopped n
unfolding stopper carried carried_within carried_by first first_of begins begins_by judge judge_length known length_of
stopper-stops zero h k = absurd (let z : ⊥ = omega arith in z)
stopper-stops (suc zero) h k = refl
stopper-stops (suc (suc zero)) h k = refl
stopper-stops (suc (suc (suc zero))) h k = refl
stopper-stops (suc (suc (suc (suc zero)))) h k = refl
stopper-stops (suc (suc (suc (suc (suc n))))) h k = absurd (let z : ⊥ = omega arith in z)

pending-bytes : (state : State) → is_left state ≡ true → state.stopped ≡ 0 → Bytes (pending state zeros)
unfolding header_of
pending-bytes state left going =
    test-cases (eqb state.length 0)
    (λ none.
    let w = header-says state (is-left-header state left going (eqb-true state.length 0 none)).0 in
    rw (pending-header state zeros none, ← append-nil (begun_bytes state)) (bytes-header state w [] (record { small = λ i. omega arith })))
    (λ some.
    let limit = (is-left-message state left going (eqb-false state.length 0 some)).limit in
    rw (pending-message state zeros some)
    (bytes-append (header_of state.length) (take state.got zeros)
    (four-small 0 0 (state.length / 256) (state.length % 256) (omega arith) (omega arith) (omega arith) (omega arith)) (bytes_take state.got zeros zeros-bytes)))

-- the bytes begun leave the state that says them
pub going-left : (state : State) → is_left state ≡ true → state.stopped ≡ 0 → LeftBySome state
unfolding state_of carried_by
going-left state left going =
    record {
      stream = pending state zeros;
      bytes = pending-bytes state left going;
      leaves = rw (carried_step (pending state zeros), pending-wanted state zeros left going zeros-room) (going-state state zeros left going zeros-room);
    }

-- ---- 5

pub number_by : (state : State) (buffer piece : List ℕ) (f : First) → first (pending state buffer ++ piece) ≡ f → (read_by state buffer piece f).step.number ≤ 4
unfolding read_by handed step_of
number_by state buffer piece (wanted q) e = omega arith
number_by state buffer piece (stops n q) e = (stops-number (pending state buffer ++ piece) n q e).1
number_by state buffer piece (whole m q) e = test-cases (eqb state.got 0) (λ t. rw t (omega arith)) (λ t. rw t (omega arith))

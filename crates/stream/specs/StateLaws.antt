-- What the test of a state says of its words, and the bytes begun by the words.
-- Assumes nothing.
use Rattle.std.specs.Prelude.{◌≡◌, ℕ, ◌+◌, ◌-◌, ◌≤◌, ◌<◌, true, List, [], ◌∷◌, ◌++◌, eqb, leb, ltb, drop, get_or}
use Rattle.std.proofs.Common.{ap, ◌∙◌, length-append, get_or-append-add}
use Rattle.std.proofs.Math.ListN.{length, get_or-append}
use Rattle.std.proofs.Math.Seq.{length-take-le, get_or-take, drop-append-add}
use native.Mathlib.Omega.{arith}
use borrow.Author.Tests.{eqb-true, leb-true, ltb-true, eq-eqb, ne_eqb}
use Rattle.lists.specs.Truth.{both_hold, choice-cases}
use Rattle.stream.specs.declared.state.State.{State}
use Rattle.stream.specs.State.{begun_bytes, no_header, no_message, byte_fits, header_fits, message_fits, is_left}

-- ---- the words

-- a byte where it is in, else 0
pub record ByteWord (place count b : ℕ) : Type 0 where
  pub small : b < 256
  pub absent : count ≤ place → b ≡ 0

byte-says : (place count b : ℕ) → byte_fits place count b ≡ true → ByteWord place count b
unfolding byte_fits
byte-says place count b e =
    choice-cases (ltb place count) _ _ _ e
    (λ t f. let in-there : place < count = ltb-true place count t in record { small = ltb-true b 256 f; absent = λ h. absurd (let z : ⊥ = omega arith in z) })
    (λ t f. let zero : b ≡ 0 = eqb-true b 0 f in record { small = omega arith; absent = λ _. zero })

-- fewer than four bytes of a header
pub record HeaderWords (s : State) : Type 0 where
  pub few : s.begun ≤ 3
  pub first : ByteWord 0 s.begun s.first
  pub second : ByteWord 1 s.begun s.second
  pub third : ByteWord 2 s.begun s.third

pub header-says : (s : State) → header_fits s ≡ true → HeaderWords s
unfolding header_fits
header-says s e =
    let a = both_hold (leb s.begun 3) _ e in
    let b = both_hold (byte_fits 0 s.begun s.first) _ a.1 in
    let d = both_hold (byte_fits 1 s.begun s.second) _ b.1 in
    record {
      few = leb-true s.begun 3 a.0;
      first = byte-says 0 s.begun s.first b.0;
      second = byte-says 1 s.begun s.second d.0;
      third = byte-says 2 s.begun s.third d.1;
    }

-- no byte of a header
pub record NoHeader (s : State) : Type 0 where
  pub none : s.begun ≡ 0
  pub first : s.first ≡ 0
  pub second : s.second ≡ 0
  pub third : s.third ≡ 0

pub no-header-says : (s : State) → no_header s ≡ true → NoHeader s
unfolding no_header
no-header-says s e =
    let a = both_hold (eqb s.begun 0) _ e in
    let b = both_hold (eqb s.first 0) _ a.1 in
    let d = both_hold (eqb s.second 0) _ b.1 in
    record {
      none = eqb-true s.begun 0 a.0;
      first = eqb-true s.first 0 b.0;
      second = eqb-true s.second 0 d.0;
      third = eqb-true s.third 0 d.1;
    }

-- of a message of at most 8,192 bytes fewer are in
pub record MessageWords (s : State) : Type 0 where
  pub header : NoHeader s
  pub limit : s.length ≤ 8192
  pub more : s.got < s.length

pub record StoppedWords (s : State) : Type 0 where
  pub limit : s.stopped ≤ 4
  pub header : NoHeader s
  pub length : s.length ≡ 0
  pub got : s.got ≡ 0

module _ (s : State) (e : is_left s ≡ true) where
  -- a stopped reader
  pub is-left-stopped : (s.stopped ≡ 0 → ⊥) → StoppedWords s
  unfolding is_left no_message
  is-left-stopped h =
      let a = both_hold (leb s.stopped 4) _ (rw (ne_eqb s.stopped 0 h) at e) in
      let b = both_hold (no_header s) _ a.1 in
      let d = both_hold (eqb s.length 0) _ b.1 in
      record {
        limit = leb-true s.stopped 4 a.0;
        header = no-header-says s b.0;
        length = eqb-true s.length 0 d.0;
        got = eqb-true s.got 0 d.1;
      }

  -- a header, of which no byte need be in
  pub is-left-header : s.stopped ≡ 0 → s.length ≡ 0 → (header_fits s ≡ true) × (s.got ≡ 0)
  unfolding is_left
  is-left-header h k =
      let a = both_hold (header_fits s) _ (rw (eq-eqb s.stopped 0 h, eq-eqb s.length 0 k) at e) in
      (a.0, eqb-true s.got 0 a.1)

  -- a message
  pub is-left-message : s.stopped ≡ 0 → (s.length ≡ 0 → ⊥) → MessageWords s
  unfolding is_left message_fits
  is-left-message h k =
      let a = both_hold (no_header s) _ (rw (eq-eqb s.stopped 0 h, ne_eqb s.length 0 k) at e) in
      let b = both_hold (leb s.length 8192) _ a.1 in
      record {
        header = no-header-says s a.0;
        limit = leb-true s.length 8192 b.0;
        more = ltb-true s.got s.length b.1;
      }

-- ---- the bytes of a begun header

module _ (s : State) (few : s.begun ≤ 3) where
  pub length-begun : length (begun_bytes s) ≡ s.begun
  unfolding begun_bytes
  length-begun = length-take-le s.begun (s.first ∷ s.second ∷ s.third ∷ []) few

  module _ (piece : List ℕ) where
    pub length-header : length (begun_bytes s ++ piece) ≡ s.begun + length piece
    length-header = rw (length-append, length-begun)

    -- a byte that is in
    pub header-in : (place : ℕ) → place < s.begun → get_or (begun_bytes s ++ piece) place 0 ≡ get_or (s.first ∷ s.second ∷ s.third ∷ []) place 0
    unfolding begun_bytes
    header-in place h =
        let size : length (begun_bytes s) ≡ s.begun = length-begun in
        let inside : place < length (begun_bytes s) = omega arith in
        get_or-append (begun_bytes s) piece 0 place inside ∙ get_or-take s.begun (s.first ∷ s.second ∷ s.third ∷ []) place 0 h

    -- a byte of the piece
    pub header-behind : (place : ℕ) → s.begun ≤ place → get_or (begun_bytes s ++ piece) place 0 ≡ get_or piece (place - s.begun) 0
    header-behind place h =
        let size : length (begun_bytes s) ≡ s.begun = length-begun in
        let there : place ≡ length (begun_bytes s) + (place - s.begun) = omega arith in
        ap (λ (k : ℕ). get_or (begun_bytes s ++ piece) k 0) there ∙ get_or-append-add (begun_bytes s) piece (place - s.begun) 0

    -- what stands behind the header
    pub behind-header : drop 4 (begun_bytes s ++ piece) ≡ drop (4 - s.begun) piece
    behind-header =
        let size : length (begun_bytes s) ≡ s.begun = length-begun in
        let there : 4 ≡ length (begun_bytes s) + (4 - s.begun) = omega arith in
        ap (λ (k : ℕ). drop k (begun_bytes s ++ piece)) there ∙ drop-append-add (begun_bytes s) piece (4 - s.begun)

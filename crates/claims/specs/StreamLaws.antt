-- Laws of the first thing in a stream, which the claims of the stream rest on.
-- Assumes nothing.
use Rattle.std.specs.Prelude.{◌≡◌, refl, ℕ, zero, suc, ◌+◌, ◌-◌, ◌≤◌, ◌<◌, List, ◌++◌, leb, length, take, drop}
use Rattle.std.proofs.Common.{sym, ap, ◌∙◌, length-append, length-drop, length-take-le, drop-drop, arith, leb-true, le-leb}
use Rattle.std.proofs.lemmas.List.{take-append-le, drop-append-le}
use Rattle.lists.specs.Truth.{test-cases, choice-cases}
use Rattle.stream.specs.Stream.{Begins, short, bad, message, begins, First, wanted, stops, whole, first_of, first, Carried, with_message, carried_by, carried_within, carried}
use Rattle.stream.specs.BeginsLaws.{Shown, shown, rest_of, shown-again, shown-begins, grown, shown-grown, Ends, shown-ends, message-head, bad-head}

-- ---- what a whole message came from

-- the bytes from its header on, to the end of the stream
pub record WholeSeen (x : Begins) (m behind : List ℕ) : Type 0 where
  pub size : ℕ
  pub rest : List ℕ
  pub is : x ≡ message size rest
  pub enough : 4 + size ≤ length rest
  pub bytes : m ≡ take size (drop 4 rest)
  pub left : behind ≡ drop (4 + size) rest

pub whole-seen : (x : Begins) (m behind : List ℕ) → first_of x ≡ whole m behind → WholeSeen x m behind
unfolding first_of
whole-seen (short s) m behind e = let z : ◌≡◌ {A = ℕ} 0 1 = cc in absurd (omega arith)
whole-seen (bad n s) m behind e = let z : ◌≡◌ {A = ℕ} 0 1 = cc in absurd (omega arith)
whole-seen (message n s) m behind e =
    choice-cases (leb (4 + n) (length s)) _ _ _ e
    (λ t f.
    let a : take n (drop 4 s) ≡ m = cc in
    let b : drop (4 + n) s ≡ behind = cc in
    record { size = n; rest = s; is = refl; enough = leb-true (4 + n) (length s) t; bytes = sym a; left = sym b })
    (λ t f. let z : ◌≡◌ {A = ℕ} 0 1 = cc in absurd (omega arith))

-- the message and the bytes behind it are what stands behind the header
module _ {x : Begins} {m behind : List ℕ} (w : WholeSeen x m behind) where
  length-body : length (drop 4 w.rest) ≡ length w.rest - 4
  length-body = length-drop 4 w.rest

  pub whole-size : length m ≡ w.size
  whole-size =
      let n = length-body in
      let i = w.enough in
      let fits : w.size ≤ length (drop 4 w.rest) = omega arith in
      ap length w.bytes ∙ length-take-le w.size (drop 4 w.rest) fits

  pub whole-left : behind ≡ drop w.size (drop 4 w.rest)
  whole-left = w.left ∙ sym (drop-drop w.size 4 w.rest)

  pub whole_length : length behind ≡ length w.rest - (4 + w.size)
  whole_length = ap length w.left ∙ length-drop (4 + w.size) w.rest

-- it is shorter than the stream
pub first-shorter : (s m behind : List ℕ) → first s ≡ whole m behind → length behind < length s
unfolding first rest_of
first-shorter s m behind e =
    let w = whole-seen (begins s) m behind e in
    let ends : Ends s w.rest = rw w.is at (shown-ends (shown s)) in
    let a : length w.rest ≡ length s - ends.at = ap length ends.same ∙ length-drop ends.at s in
    let b = whole_length w in
    let i = w.enough in
    omega arith

-- ---- more bytes

unfoldable pub first_grown : First → List ℕ → First
first_grown (wanted s) t = first (s ++ t)
first_grown (stops n s) t = stops n (s ++ t)
first_grown (whole m s) t = whole m (s ++ t)

four_bytes : (s t : List ℕ) → 4 ≤ length s → drop 4 (s ++ t) ≡ drop 4 s ++ t
four_bytes s t h = drop-append-le 4 s t h

grown-first : (x : Begins) (t : List ℕ) → Shown (rest_of x) x → first_of (grown x t) ≡ first_grown (first_of x) t
unfolding rest_of grown first_of first_grown first
grown-first (short s) t w = refl
grown-first (bad n s) t w =
    let h = bad-head w n s refl in
    rw h.same
grown-first (message n s) t w =
    let h = message-head w n s refl in
    let long : length s ≡ 4 + length h.behind = ap length h.same ∙ (let z : suc (suc (suc (suc (length h.behind)))) ≡ 4 + length h.behind = omega arith in z) in
    let four : 4 ≤ length s = omega arith in
    let size : length (s ++ t) ≡ length s + length t = length-append s t in
    test-cases (leb (4 + n) (length s))
    (λ e.
    let enough : 4 + n ≤ length s = leb-true (4 + n) (length s) e in
    let more : 4 + n ≤ length (s ++ t) = omega arith in
    let body : length (drop 4 s) ≡ length s - 4 = length-drop 4 s in
    let inside : n ≤ length (drop 4 s) = omega arith in
    rw (e, le-leb (4 + n) (length (s ++ t)) more, four_bytes s t four, take-append-le n (drop 4 s) t inside, drop-append-le (4 + n) s t enough))
    (λ e. rw (e, shown-grown w t))

pub first-grown : (s t : List ℕ) → first (s ++ t) ≡ first_grown (first s) t
unfolding first
first-grown s t = ap first_of (shown-grown (shown s) t) ∙ grown-first (begins s) t (shown-again (shown s))

-- bytes after which more are wanted are themselves such bytes
again-wanted : (x : Begins) (t : List ℕ) → Shown (rest_of x) x → first_of x ≡ wanted t → first t ≡ wanted t
unfolding first rest_of first_of
again-wanted (short s) t w e =
    let same : s ≡ t = cc in
    ap first_of (ap begins (sym same) ∙ shown-begins w) ∙ e
again-wanted (bad n s) t w e = let z : ◌≡◌ {A = ℕ} 0 1 = cc in absurd (omega arith)
again-wanted (message n s) t w e =
    choice-cases (leb (4 + n) (length s)) _ _ _ e
    (λ _ f. let z : ◌≡◌ {A = ℕ} 0 1 = cc in absurd (omega arith))
    (λ _ f. let same : s ≡ t = cc in ap first_of (ap begins (sym same) ∙ shown-begins w) ∙ e)

pub first-again : (s t : List ℕ) → first s ≡ wanted t → first t ≡ wanted t
unfolding first
first-again s t e = again-wanted (begins s) t (shown-again (shown s)) e

-- ---- the whole stream by its first thing

-- two ways to go on that agree on shorter streams
by_first : (f : First) (n : ℕ) (g h : List ℕ → Carried) → ((m r : List ℕ) → f ≡ whole m r → length r < n)
    → ((r : List ℕ) → length r < n → g r ≡ h r) → carried_by f g ≡ carried_by f h
unfolding carried_by
by_first (wanted s) n g h less same = refl
by_first (stops k s) n g h less same = refl
by_first (whole m s) n g h less same = ap (with_message m) (same s (less m s refl))

enough_turns : (turns more : ℕ) (s : List ℕ) → length s < turns → length s < more → carried_within turns s ≡ carried_within more s
unfolding carried_within
enough_turns zero more s h k = absurd (let z : ⊥ = omega arith in z)
enough_turns (suc turns) zero s h k = absurd (let z : ⊥ = omega arith in z)
enough_turns (suc turns) (suc more) s h k =
    by_first (first s) (length s) _ _ (λ m r e. first-shorter s m r e)
    (λ r less. enough_turns turns more r (let z : length r < turns = omega arith in z) (let z : length r < more = omega arith in z))

-- what a stream carries is its first thing, and what the rest carries
pub carried_step : (s : List ℕ) → carried s ≡ carried_by (first s) carried
unfolding carried carried_within
carried_step s =
    by_first (first s) (length s) _ _ (λ m r e. first-shorter s m r e)
    (λ r less. enough_turns (length s) (suc (length r)) r less (let z : length r < suc (length r) = omega arith in z))

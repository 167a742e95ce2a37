-- Laws of what a stream begins with: how it is seen header by header, that it is a rest of the stream, and what bytes behind it add.
-- Assumes nothing.
use Rattle.std.specs.Prelude.{◌≡◌, refl, ℕ, suc, ◌+◌, ◌-◌, ◌/◌, ◌%◌, ◌≤◌, ◌<◌, true, false, not, List, [], ◌∷◌, ◌++◌, eqb, ltb, length, drop, get_or}
use Rattle.std.proofs.Common.{sym, ap, ◌∙◌, length-append, length-drop, drop-drop, get_or-drop, arith, ltb-false, eqb-true, le-ltb}
use Rattle.std.proofs.Math.Seq.{drop-append-add}
use Rattle.std.proofs.lemmas.Bool.{not-false}
use Rattle.lists.specs.Truth.{choice-cases, either-cases, not-decided-twice}
use Rattle.stream.specs.Stream.{Judged}
use Rattle.stream.specs.Stream.{Stop, KeepAlive, Message}
use Rattle.stream.specs.Stream.{length_of, header_of, known, judge_length, judge, Begins, short, bad, message, begins_by, begins}

-- ---- header by header

-- what a stream begins with, by its first headers
pub data Shown : List ℕ → Begins → Type 0 where
  shown-short : (s : List ℕ) → length s < 4 → Shown s (short s)
  shown-bad : {a b c d n : ℕ} {s : List ℕ} → judge a b c d ≡ Stop n → Shown (a ∷ b ∷ c ∷ d ∷ s) (bad n (a ∷ b ∷ c ∷ d ∷ s))
  shown-message : {a b c d n : ℕ} {s : List ℕ} → judge a b c d ≡ Message n → Shown (a ∷ b ∷ c ∷ d ∷ s) (message n (a ∷ b ∷ c ∷ d ∷ s))
  shown-later : {a b c d : ℕ} {s : List ℕ} {x : Begins} → judge a b c d ≡ KeepAlive → Shown s x → Shown (a ∷ b ∷ c ∷ d ∷ s) x

shown_by : (a b c d : ℕ) (s : List ℕ) (j : Judged) → judge a b c d ≡ j → Shown s (begins s)
    → Shown (a ∷ b ∷ c ∷ d ∷ s) (begins_by j (a ∷ b ∷ c ∷ d ∷ s) (begins s))
unfolding begins_by
shown_by a b c d s (Stop n) e later = shown-bad e
shown_by a b c d s KeepAlive e later = shown-later e later
shown_by a b c d s (Message n) e later = shown-message e

pub shown : (s : List ℕ) → Shown s (begins s)
unfolding begins
shown [] = shown-short [] (omega arith)
shown (a ∷ []) = shown-short (a ∷ []) (omega arith)
shown (a ∷ b ∷ []) = shown-short (a ∷ b ∷ []) (omega arith)
shown (a ∷ b ∷ c ∷ []) = shown-short (a ∷ b ∷ c ∷ []) (omega arith)
shown (a ∷ b ∷ c ∷ d ∷ s) = shown_by a b c d s (judge a b c d) refl (shown s)

-- ---- by its length

-- fewer than four bytes are no header
pub begins-short : (s : List ℕ) → length s < 4 → begins s ≡ short s
unfolding begins
begins-short [] h = refl
begins-short (a ∷ []) h = refl
begins-short (a ∷ b ∷ []) h = refl
begins-short (a ∷ b ∷ c ∷ []) h = refl
begins-short (a ∷ b ∷ c ∷ d ∷ s) h = absurd (let z : ⊥ = omega arith in z)

-- four are judged
pub begins-long : (s : List ℕ) → 4 ≤ length s
    → begins s ≡ begins_by (judge (get_or s 0 0) (get_or s 1 0) (get_or s 2 0) (get_or s 3 0)) s (begins (drop 4 s))
unfolding begins
begins-long [] h = absurd (let z : ⊥ = omega arith in z)
begins-long (a ∷ []) h = absurd (let z : ⊥ = omega arith in z)
begins-long (a ∷ b ∷ []) h = absurd (let z : ⊥ = omega arith in z)
begins-long (a ∷ b ∷ c ∷ []) h = absurd (let z : ⊥ = omega arith in z)
begins-long (a ∷ b ∷ c ∷ d ∷ s) h = refl

-- the same at a place of a piece
pub begins-at : (s : List ℕ) (at : ℕ) → at + 4 ≤ length s
    → begins (drop at s) ≡ begins_by (judge (get_or s at 0) (get_or s (at + 1) 0) (get_or s (at + 2) 0) (get_or s (at + 3) 0)) (drop at s) (begins (drop (at + 4) s))
begins-at s at h =
    let long : 4 ≤ length (drop at s) = rw length-drop (omega arith) in
    let here : at + 0 ≡ at = omega arith in
    begins-long (drop at s) long ∙ rw (get_or-drop at s 0 0, get_or-drop at s 1 0, get_or-drop at s 2 0, get_or-drop at s 3 0, drop-drop 4 at s, here)

-- ---- a rest of the stream

unfoldable pub rest_of : Begins → List ℕ
rest_of (short s) = s
rest_of (bad n s) = s
rest_of (message n s) = s

-- it stands at the end of the stream, from that place on
pub record Ends (s t : List ℕ) : Type 0 where
  pub at : ℕ
  pub within : at ≤ length s
  pub same : t ≡ drop at s

pub shown-ends : {s : List ℕ} {x : Begins} → Shown s x → Ends s (rest_of x)
unfolding rest_of
shown-ends (shown-short s h) = record { at = 0; within = omega arith; same = refl }
shown-ends (shown-bad e) = record { at = 0; within = omega arith; same = refl }
shown-ends (shown-message e) = record { at = 0; within = omega arith; same = refl }
shown-ends (shown-later e w) =
    let f = shown-ends w in
    record { at = suc (suc (suc (suc f.at))); within = (let i = f.within in omega arith); same = f.same }

-- and begins the same
pub shown-again : {s : List ℕ} {x : Begins} → Shown s x → Shown (rest_of x) x
unfolding rest_of
shown-again (shown-short s h) = shown-short s h
shown-again (shown-bad e) = shown-bad e
shown-again (shown-message e) = shown-message e
shown-again (shown-later e w) = shown-again w

pub shown-begins : {s : List ℕ} {x : Begins} → Shown s x → begins s ≡ x
unfolding begins begins_by
shown-begins (shown-short s h) = begins-short s h
shown-begins (shown-bad e) = rw e
shown-begins (shown-message e) = rw e
shown-begins (shown-later e w) = rw e (shown-begins w)

-- ---- more bytes

-- a header that was judged stands; of fewer than four bytes the header is judged with those that come
unfoldable pub grown : Begins → List ℕ → Begins
grown (short s) t = begins (s ++ t)
grown (bad n s) t = bad n (s ++ t)
grown (message n s) t = message n (s ++ t)

pub shown-grown : {s : List ℕ} {x : Begins} → Shown s x → (t : List ℕ) → begins (s ++ t) ≡ grown x t
unfolding grown begins begins_by
shown-grown (shown-short s h) t = refl
shown-grown (shown-bad e) t = rw e
shown-grown (shown-message e) t = rw e
shown-grown (shown-later e w) t = rw e (shown-grown w t)

-- ---- the header of a message

-- what a header says if it is a message's: the type is 0, no flag is reserved, and the length is no more than 8,192
pub record MessageHeader (a b c d n : ℕ) : Type 0 where
  pub kind : a ≡ 0
  pub flags : b ≤ 1
  pub size : length_of b c d ≡ n
  pub limit : n ≤ 8192

stop-message : (k n : ℕ) → Stop k ≡ Message n → ⊥
stop-message k n e = let z : ◌≡◌ {A = ℕ} 0 1 = cc in omega arith

alive-message : (n : ℕ) → KeepAlive ≡ Message n → ⊥
alive-message n e = let z : ◌≡◌ {A = ℕ} 0 1 = cc in omega arith

same-message : (k n : ℕ) → Message k ≡ Message n → k ≡ n
same-message k n e = cc

known-other : (a : ℕ) → known a ≡ true → eqb a 133 ≡ false → a ≡ 0
unfolding known
known-other a h e =
    either-cases (eqb a 0) (eqb a 133) h (λ f. eqb-true a 0 f) (λ f. absurd (not-decided-twice (eqb a 133) f e))

pub judged-message : (a b c d n : ℕ) → judge a b c d ≡ Message n → MessageHeader a b c d n
unfolding judge judge_length
judged-message a b c d n e =
    choice-cases (not (known a)) _ _ _ e (λ _ f. absurd (stop-message 1 n f)) λ k f.
    choice-cases (ltb 1 b) _ _ _ f (λ _ g. absurd (stop-message 2 n g)) λ flag g.
    choice-cases (eqb a 133) _ _ _ g
    (λ _ h. choice-cases (eqb (length_of b c d) 0) _ _ _ h (λ _ i. absurd (alive-message n i)) (λ _ i. absurd (stop-message 3 n i)))
    λ kind h.
    choice-cases (ltb 8192 (length_of b c d)) _ _ _ h (λ _ i. absurd (stop-message 4 n i)) λ long i.
    let same : length_of b c d ≡ n = same-message (length_of b c d) n i in
    let fits : length_of b c d ≤ 8192 = ltb-false 8192 (length_of b c d) long in
    record { kind = known-other a (not-false (known a) k) kind; flags = ltb-false 1 b flag; size = same; limit = omega arith }

-- a header of type 0 with no flag and a length of no more than 8,192 is a message's
pub message-judged : (c d : ℕ) → length_of 0 c d ≤ 8192 → judge 0 0 c d ≡ Message (length_of 0 c d)
unfolding judge judge_length known
message-judged c d h = rw (le-ltb 8192 (length_of 0 c d) h)

-- the header of a message of that length, and what stands behind it
pub header-begins : (n : ℕ) (s : List ℕ) → n ≤ 8192 → begins (header_of n ++ s) ≡ message n (header_of n ++ s)
unfolding header_of begins begins_by length_of
header-begins n s h =
    let size : length_of 0 (n / 256) (n % 256) ≡ n = omega arith in
    let fits : length_of 0 (n / 256) (n % 256) ≤ 8192 = omega arith in
    rw (message-judged (n / 256) (n % 256) fits, size)

-- a header that stops the reader stops it by 1 to 4
stop-within : (k n : ℕ) → 1 ≤ k → k ≤ 4 → Stop k ≡ Stop n → (1 ≤ n) × (n ≤ 4)
stop-within k n h i e = let f : k ≡ n = cc in (omega arith, omega arith)

alive-stop : (n : ℕ) → KeepAlive ≡ Stop n → ⊥
alive-stop n e = let z : ◌≡◌ {A = ℕ} 0 1 = cc in omega arith

message-stop : (k n : ℕ) → Message k ≡ Stop n → ⊥
message-stop k n e = let z : ◌≡◌ {A = ℕ} 0 1 = cc in omega arith

pub judged-stop : (a b c d n : ℕ) → judge a b c d ≡ Stop n → (1 ≤ n) × (n ≤ 4)
unfolding judge judge_length
judged-stop a b c d n e =
    choice-cases (not (known a)) _ _ _ e (λ _ f. stop-within 1 n (omega arith) (omega arith) f) λ k f.
    choice-cases (ltb 1 b) _ _ _ f (λ _ g. stop-within 2 n (omega arith) (omega arith) g) λ flag g.
    choice-cases (eqb a 133) _ _ _ g
    (λ _ h. choice-cases (eqb (length_of b c d) 0) _ _ _ h (λ _ i. absurd (alive-stop n i)) (λ _ i. stop-within 3 n (omega arith) (omega arith) i))
    λ kind h.
    choice-cases (ltb 8192 (length_of b c d)) _ _ _ h (λ _ i. stop-within 4 n (omega arith) (omega arith) i) (λ _ i. absurd (message-stop (length_of b c d) n i))

-- the four bytes of a header and what stands behind them
pub record Head (j : Judged) (s : List ℕ) : Type 0 where
  pub a : ℕ
  pub b : ℕ
  pub c : ℕ
  pub d : ℕ
  pub behind : List ℕ
  pub same : s ≡ a ∷ b ∷ c ∷ d ∷ behind
  pub judged : judge a b c d ≡ j

-- a stream that begins with a message's header has it in front of the rest
pub message-head : {s : List ℕ} {x : Begins} → Shown s x → (n : ℕ) (t : List ℕ) → x ≡ message n t → Head (Message n) t
message-head (shown-short s h) n t e = let z : ◌≡◌ {A = ℕ} 0 1 = cc in absurd (omega arith)
message-head (shown-bad f) n t e = let z : ◌≡◌ {A = ℕ} 0 1 = cc in absurd (omega arith)
message-head (shown-message {a} {b} {c} {d} {n = k} {s} f) n t e =
    let same : a ∷ b ∷ c ∷ d ∷ s ≡ t = cc in
    let size : k ≡ n = cc in
    record { a = a; b = b; c = c; d = d; behind = s; same = sym same; judged = f ∙ ap Message size }
message-head (shown-later f w) n t e = message-head w n t e

pub bad-head : {s : List ℕ} {x : Begins} → Shown s x → (n : ℕ) (t : List ℕ) → x ≡ bad n t → Head (Stop n) t
bad-head (shown-short s h) n t e = let z : ◌≡◌ {A = ℕ} 0 1 = cc in absurd (omega arith)
bad-head (shown-bad {a} {b} {c} {d} {n = k} {s} f) n t e =
    let same : a ∷ b ∷ c ∷ d ∷ s ≡ t = cc in
    let size : k ≡ n = cc in
    record { a = a; b = b; c = c; d = d; behind = s; same = sym same; judged = f ∙ ap Stop size }
bad-head (shown-message f) n t e = let z : ◌≡◌ {A = ℕ} 0 1 = cc in absurd (omega arith)
bad-head (shown-later f w) n t e = bad-head w n t e

pub short-few : {s : List ℕ} {x : Begins} → Shown s x → (t : List ℕ) → x ≡ short t → length t < 4
short-few (shown-short s h) t e = let same : s ≡ t = cc in rw same at h
short-few (shown-bad f) t e = let z : ◌≡◌ {A = ℕ} 0 1 = cc in absurd (omega arith)
short-few (shown-message f) t e = let z : ◌≡◌ {A = ℕ} 0 1 = cc in absurd (omega arith)
short-few (shown-later f w) t e = short-few w t e

-- ---- a rest of the bytes begun and a piece

-- a rest that is no longer than the piece is a rest of the piece
pub ends-in-piece : (p piece t : List ℕ) → Ends (p ++ piece) t → length t ≤ length piece → t ≡ drop (length piece - length t) piece
ends-in-piece p piece t e h =
    let size : length (p ++ piece) ≡ length p + length piece = length-append p piece in
    let within : e.at ≤ length p + length piece = rw size at e.within in
    let rest : length t ≡ length p + length piece - e.at = ap length e.same ∙ length-drop e.at (p ++ piece) ∙ rw size in
    let place : e.at ≡ length p + (length piece - length t) = omega arith in
    e.same ∙ ap (λ (k : ℕ). drop k (p ++ piece)) place ∙ drop-append-add p piece (length piece - length t)

-- a rest of a rest
pub ends-drop : {s t : List ℕ} (k : ℕ) → Ends s t → k ≤ length t → Ends s (drop k t)
ends-drop {s} {t} k e h =
    let rest : length t ≡ length s - e.at = ap length e.same ∙ length-drop e.at s in
    let i = e.within in
    record { at = e.at + k; within = omega arith; same = ap (drop k) e.same ∙ drop-drop k e.at s }

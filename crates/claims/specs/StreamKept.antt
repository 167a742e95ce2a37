-- What the words and the buffer keep of a stream: the bytes begun, and no less. Laws that the claims of the reader rest on.
-- Assumes nothing.
use Rattle.std.specs.Prelude.{◌≡◌, refl, true, false, List, [], ◌∷◌, ◌++◌, eqb, leb, ltb, take, drop, get_or}
use Rattle.std.proofs.Common.{sym, ap, ◌∙◌, append_assoc, append-nil, length-append, length-take, length-drop, get_or-drop, get_or-take, get_or-append-add}
use Prim.Native.Nat.{ℕ, zero, suc, ◌+◌, ◌-◌, ◌/◌, ◌%◌, ◌≤◌, ◌<◌}
use Rattle.std.proofs.Math.ListN.{length, get_or-eq_default, get_or-append}
use Rattle.std.proofs.Math.Seq.{length-take-le, take-append_seam}
use native.Mathlib.Omega.{arith}
use borrow.Author.Tests.{eqb-true, eqb-false, leb-false, le-leb, lt-leb, lt-ltb, le-ltb, ltb-true, ltb-false, eq-eqb, ne_eqb}
use Rattle.lists.specs.Truth.{test-cases, choice-cases}
use Rattle.lists.specs.Put.{put}
use Rattle.stream.specs.declared.state.State.{State}
use Rattle.stream.specs.Stream.{Message}
use Rattle.stream.specs.Stream.{length_of, header_of, Begins, short, bad, message, begins, wanted, whole, first_of, first, begun}
use Rattle.stream.specs.State.{header_words, header_begun, message_begun, begun_state, begun_bytes, pending, left_of, no_header, byte_fits, header_fits, message_fits, is_left}
use Rattle.stream.specs.BeginsLaws.{Shown, shown, begins-short, rest_of, shown-ends, Ends, Head, message-head, short-few, judged-message, header-begins, ends-drop, ends-in-piece}
use Rattle.claims.specs.StreamLaws.{WholeSeen, whole-seen, whole-size, whole-left, whole_length}
use Rattle.stream.specs.StateLaws.{ByteWord, HeaderWords, MessageWords, header-says, is-left-header, is-left-message, length-begun, header-in, header-behind}

-- ---- bytes

pub record Bytes (s : List ℕ) : Type 0 where
  pub small : (i : ℕ) → get_or s i 0 < 256

pub bytes-ends : {s t : List ℕ} → Bytes s → Ends s t → Bytes t
bytes-ends {s} {t} b e =
    record { small = λ i. rw (e.same, get_or-drop e.at s i 0) (b.small (e.at + i)) }

pub bytes_take : (n : ℕ) (s : List ℕ) → Bytes s → Bytes (take n s)
bytes_take n s b =
    record {
      small = λ i.
          test-cases (ltb i n)
          (λ e. rw (get_or-take n s i 0 (ltb-true i n e)) (b.small i))
          (λ e.
          let past : n ≤ i = ltb-false i n e in
          let none : get_or (take n s) i 0 ≡ 0 = get_or-eq_default (take n s) 0 (rw length-take (omega arith)) in
          omega arith);
    }

pub bytes-append : (s t : List ℕ) → Bytes s → Bytes t → Bytes (s ++ t)
bytes-append s t b d =
    record {
      small = λ i.
          test-cases (ltb i (length s))
          (λ e. rw (get_or-append s t 0 i (ltb-true i (length s) e)) (b.small i))
          (λ e.
          let past : length s ≤ i = ltb-false i (length s) e in
          let place : i ≡ length s + (i - length s) = omega arith in
          let there : get_or (s ++ t) i 0 ≡ get_or t (i - length s) 0 = ap (λ (k : ℕ). get_or (s ++ t) k 0) place ∙ get_or-append-add s t (i - length s) 0 in
          rw there (d.small (i - length s)));
    }

-- the bytes of a begun header and of a piece
pub bytes-header : (s : State) → HeaderWords s → (piece : List ℕ) → Bytes piece → Bytes (begun_bytes s ++ piece)
bytes-header s w piece b =
    record {
      small = λ i.
          test-cases (ltb i s.begun)
          (λ e. let inside : i < s.begun = ltb-true i s.begun e in rw (header-in s w.few piece i inside) (word_small i))
          (λ e. let behind : s.begun ≤ i = ltb-false i s.begun e in rw (header-behind s w.few piece i behind) (b.small (i - s.begun)));
    }
  where
    word_small : (i : ℕ) → get_or (s.first ∷ s.second ∷ s.third ∷ []) i 0 < 256
    word_small zero = w.first.small
    word_small (suc zero) = w.second.small
    word_small (suc (suc zero)) = w.third.small
    word_small (suc (suc (suc i))) = omega arith

-- ---- where more bytes are wanted

wanted_by : {C : Type 0} {s : List ℕ} (q : List ℕ) (x : Begins) → Shown s x → first_of x ≡ wanted q
    → (length q < 4 → C) → ((n : ℕ) → Head (Message n) q → length q < 4 + n → C) → C
unfolding first_of
wanted_by q (short t) w e header body =
    let same : t ≡ q = cc in
    header (short-few w q (ap short same))
wanted_by q (bad n t) w e header body = let z : ◌≡◌ {A = ℕ} 0 1 = cc in absurd (omega arith)
wanted_by q (message n t) w e header body =
    choice-cases (leb (4 + n) (length t)) _ _ _ e
    (λ _ f. let z : ◌≡◌ {A = ℕ} 0 1 = cc in absurd (omega arith))
    (λ few f.
    let same : t ≡ q = cc in
    let less : length t < 4 + n = leb-false (4 + n) (length t) few in
    body n (message-head w n q (ap (message n) same)) (rw same at less))

-- a begun header, or a begun message
pub wanted-cases : {C : Type 0} (s q : List ℕ) → first s ≡ wanted q → (length q < 4 → C) → ((n : ℕ) → Head (Message n) q → length q < 4 + n → C) → C
unfolding first
wanted-cases s q e header body = wanted_by q (begins s) (shown s) e header body

pub wanted-rest : (x : Begins) (q : List ℕ) → first_of x ≡ wanted q → rest_of x ≡ q
unfolding first_of rest_of
wanted-rest (short t) q e = cc
wanted-rest (bad n t) q e = let z : ◌≡◌ {A = ℕ} 0 1 = cc in absurd (omega arith)
wanted-rest (message n t) q e =
    choice-cases (leb (4 + n) (length t)) _ _ _ e (λ _ f. let z : ◌≡◌ {A = ℕ} 0 1 = cc in absurd (omega arith)) (λ _ f. let same : t ≡ q = cc in same)

-- the bytes begun are a rest of the stream
wanted-ends : (s q : List ℕ) → first s ≡ wanted q → Ends s q
unfolding first
wanted-ends s q e = rw (wanted-rest (begins s) q e) at (shown-ends (shown s))

-- ---- the words and the buffer keep the bytes begun

pub record Kept (q buffer : List ℕ) : Type 0 where
  pub left : left_of (begun_state q) buffer ≡ begun q
  pub test : is_left (begun_state q) ≡ true

byte-kept : (q : List ℕ) (i : ℕ) → get_or q i 0 < 256 → byte_fits i (length q) (get_or q i 0) ≡ true
unfolding byte_fits
byte-kept q i small =
    test-cases (ltb i (length q))
    (λ e. rw (e, lt-ltb (get_or q i 0) 256 small))
    (λ e. rw (e) (eq-eqb (get_or q i 0) 0 (get_or-eq_default q 0 (ltb-false i (length q) e))))

begun-same : (q : List ℕ) → length q < 4 → take (length q) (get_or q 0 0 ∷ get_or q 1 0 ∷ get_or q 2 0 ∷ []) ≡ q
begun-same [] h = refl
begun-same (a ∷ []) h = refl
begun-same (a ∷ b ∷ []) h = refl
begun-same (a ∷ b ∷ c ∷ []) h = refl
begun-same (a ∷ b ∷ c ∷ d ∷ s) h = absurd (let z : ⊥ = omega arith in z)

header-kept : (q buffer : List ℕ) → length q < 4 → ((i : ℕ) → i < 4 → get_or q i 0 < 256) → Kept q buffer
unfolding begun_state header_begun header_words left_of pending begun_bytes is_left header_fits
header-kept q buffer few small =
    record {
      left = rw (lt-ltb (length q) 4 few) (ap begun (begun-same q few));
      test = rw (lt-ltb (length q) 4 few, le-leb (length q) 3 (let z : length q ≤ 3 = omega arith in z), byte-kept q 0 (small 0 (omega arith)), byte-kept q 1 (small 1 (omega arith)), byte-kept q 2 (small 2 (omega arith)));
    }

message-kept : (n c d : ℕ) (body buffer : List ℕ) → length_of 0 c d ≡ n → n ≤ 8192 → c < 256 → d < 256 → length body < n
    → take (length body) buffer ≡ body → Kept (0 ∷ 0 ∷ c ∷ d ∷ body) buffer
unfolding begun_state message_begun left_of pending header_of is_left no_header message_fits length_of
message-kept n c d body buffer size limit small small' more stands =
    let long : 4 ≤ length (0 ∷ 0 ∷ c ∷ d ∷ body) = omega arith in
    let in-now : length (0 ∷ 0 ∷ c ∷ d ∷ body) - 4 ≡ length body = omega arith in
    let some : n ≡ 0 → ⊥ = λ e. let z : ⊥ = omega arith in z in
    let high : n / 256 ≡ c = omega arith in
    let low : n % 256 ≡ d = omega arith in
    record {
      left = rw (le-ltb (length (0 ∷ 0 ∷ c ∷ d ∷ body)) 4 long, size, in-now, ne_eqb n 0 some, high, low, stands);
      test = rw (le-ltb (length (0 ∷ 0 ∷ c ∷ d ∷ body)) 4 long, size, in-now, ne_eqb n 0 some, le-leb n 8192 limit, lt-ltb (length body) n more);
    }

-- a length of no more than 8,192 has no flag
flag-clear : (b c d n : ℕ) → b ≤ 1 → length_of b c d ≡ n → n ≤ 8192 → b ≡ 0
unfolding length_of
flag-clear b c d n flags size limit = omega arith

-- what stands at the front of the buffer
pub put-read : (d x : List ℕ) → take (length x) (put d 0 x) ≡ x
unfolding put
put-read d x = take-append_seam x _

pub wanted-kept : (s q : List ℕ) → first s ≡ wanted q → ((i : ℕ) → i < 4 → get_or q i 0 < 256) → (buffer : List ℕ) → Kept q (put buffer 0 (drop 4 q))
wanted-kept s q e small buffer =
    wanted-cases s q e (λ few. header-kept q (put buffer 0 (drop 4 q)) few small) λ n h less.
    let mh = judged-message h.a h.b h.c h.d n h.judged in
    let c-small : h.c < 256 = rw h.same at (small 2 (omega arith)) in
    let d_small : h.d < 256 = rw h.same at (small 3 (omega arith)) in
    let no_flag : h.b ≡ 0 = flag-clear h.b h.c h.d n mh.flags mh.size mh.limit in
    let named : length_of 0 h.c h.d ≡ n = rw no_flag at mh.size in
    let long : length q ≡ 4 + length h.behind = ap length h.same ∙ (let z : suc (suc (suc (suc (length h.behind)))) ≡ 4 + length h.behind = omega arith in z) in
    let more : length h.behind < n = omega arith in
    rw (h.same, mh.kind, no_flag) (message-kept n h.c h.d h.behind (put buffer 0 h.behind) named mh.limit c-small d_small more (put-read buffer h.behind))

-- and the buffer has room for the bytes begun
pub wanted_room : (s q : List ℕ) → first s ≡ wanted q → length (drop 4 q) ≤ 8192
wanted_room s q e =
    let n = length-drop 4 q in
    wanted-cases s q e (λ few. omega arith) λ size h less.
    let limit = (judged-message h.a h.b h.c h.d size h.judged).limit in
    omega arith

-- ---- a message that becomes whole with a piece

pub record InThePiece (got : ℕ) (piece m rest : List ℕ) : Type 0 where
  pub shorter : length rest < length piece
  pub behind : drop (length piece - length rest) piece ≡ rest
  pub part : got ≡ 0 → take (length m) (drop (length piece - length rest - length m) piece) ≡ m
  pub limit : length m ≤ 8192

module _ (p piece m rest : List ℕ) (got : ℕ) (e : first (p ++ piece) ≡ whole m rest) where
  seen : WholeSeen (begins (p ++ piece)) m rest
  unfolding first
  seen = whole-seen (begins (p ++ piece)) m rest e

  sizes : length m + length rest + 4 ≡ length seen.rest
  sizes =
      let a = whole-size seen in
      let b = whole_length seen in
      let i = seen.enough in
      omega arith

  ends : Ends (p ++ piece) seen.rest
  unfolding rest_of
  ends = rw seen.is at (shown-ends (shown (p ++ piece)))

  bounded : length seen.rest ≤ length p + length piece
  bounded =
      let a : length seen.rest ≡ length (p ++ piece) - ends.at = ap length ends.same ∙ length-drop ends.at (p ++ piece) in
      let b : length (p ++ piece) ≡ length p + length piece = length-append p piece in
      omega arith

  in-the-piece : length rest < length piece → (got ≡ 0 → length m + length rest ≤ length piece) → InThePiece got piece m rest
  in-the-piece less inside =
      let w = seen in
      let n = sizes in
      let four : Ends (p ++ piece) (drop 4 w.rest) = ends-drop 4 ends (let z : 4 ≤ length w.rest = omega arith in z) in
      let long : length (drop 4 w.rest) ≡ length m + length rest = length-drop 4 w.rest ∙ (let z : length w.rest - 4 ≡ length m + length rest = omega arith in z) in
      let later : Ends (p ++ piece) (drop w.size (drop 4 w.rest)) = ends-drop w.size four (let k = whole-size w in let z : w.size ≤ length (drop 4 w.rest) = omega arith in z) in
      let last : Ends (p ++ piece) rest = rw (whole-left w) later in
      let h : Head (Message w.size) w.rest = message-head (shown (p ++ piece)) w.size w.rest w.is in
      let limit = (judged-message h.a h.b h.c h.d w.size h.judged).limit in
      let size = whole-size w in
      record {
        shorter = less;
        behind = sym (ends-in-piece p piece rest last (let z : length rest ≤ length piece = omega arith in z));
        part = λ none.
            let fits = inside none in
            let place : length piece - length (drop 4 w.rest) ≡ length piece - length rest - length m = omega arith in
            let all : drop 4 w.rest ≡ drop (length piece - length rest - length m) piece =
            ends-in-piece p piece (drop 4 w.rest) four (let z : length (drop 4 w.rest) ≤ length piece = omega arith in z)
            ∙ ap (λ (k : ℕ). drop k piece) place in
            rw (← all, size) (sym w.bytes);
        limit = omega arith;
      }

pub pending-header : (state : State) (buffer : List ℕ) → eqb state.length 0 ≡ true → pending state buffer ≡ begun_bytes state
unfolding pending
pending-header state buffer e = rw e

pub pending-message : (state : State) (buffer : List ℕ) → eqb state.length 0 ≡ false
    → pending state buffer ≡ header_of state.length ++ take state.got buffer
unfolding pending
pending-message state buffer e = rw e

header-whole : (state : State) (buffer piece m rest : List ℕ) → (header_fits state ≡ true) × (state.got ≡ 0) → pending state buffer ≡ begun_bytes state
    → first (pending state buffer ++ piece) ≡ whole m rest → InThePiece state.got piece m rest
header-whole state buffer piece m rest h same e =
    let p = pending state buffer in
    let few = (header-says state h.0).few in
    let short : length p ≡ state.begun = ap length same ∙ length-begun state few in
    let n = sizes p piece m rest state.got e in
    let b = bounded p piece m rest state.got e in
    in-the-piece p piece m rest state.got e (let z : length rest < length piece = omega arith in z) (λ _. let z : length m + length rest ≤ length piece = omega arith in z)

message-whole : (state : State) (buffer piece m rest : List ℕ) → MessageWords state → length buffer ≡ 8192
    → pending state buffer ≡ header_of state.length ++ take state.got buffer
    → first (pending state buffer ++ piece) ≡ whole m rest → InThePiece state.got piece m rest
unfolding header_of
message-whole state buffer piece m rest w size same e =
    let p = pending state buffer in
    let limit = w.limit in
    let more = w.more in
    let held : length (take state.got buffer) ≡ state.got = length-take-le state.got buffer (let z : state.got ≤ length buffer = omega arith in z) in
    let long : length p ≡ 4 + state.got = ap length same ∙ (let z : suc (suc (suc (suc (length (take state.got buffer))))) ≡ 4 + state.got = omega arith in z) in
    let opens : begins (p ++ piece) ≡ message state.length (p ++ piece) =
    rw (same, append_assoc) (header-begins state.length (take state.got buffer ++ piece) limit) in
    let found = seen p piece m rest state.got e in
    let both : message found.size found.rest ≡ message state.length (p ++ piece) = sym found.is ∙ opens in
    let named : found.size ≡ state.length = cc in
    let whole-rest : found.rest ≡ p ++ piece = cc in
    let total : length found.rest ≡ length p + length piece = ap length whole-rest ∙ length-append p piece in
    let n = sizes p piece m rest state.got e in
    let k = whole-size found in
    in-the-piece p piece m rest state.got e (let z : length rest < length piece = omega arith in z) (λ none. let z : length m + length rest ≤ length piece = omega arith in z)

header-small : (n : ℕ) → n ≤ 8192 → (s : List ℕ) (i : ℕ) → i < 4 → get_or (header_of n ++ s) i 0 < 256
unfolding header_of
header-small n h s zero less = omega arith
header-small n h s (suc zero) less = omega arith
header-small n h s (suc (suc zero)) less = omega arith
header-small n h s (suc (suc (suc zero))) less = omega arith
header-small n h s (suc (suc (suc (suc i)))) less = absurd (let z : ⊥ = omega arith in z)

-- a header begun by bytes is of bytes
pub wanted-bytes : (state : State) (buffer piece q : List ℕ) → is_left state ≡ true → state.stopped ≡ 0 → Bytes piece
    → first (pending state buffer ++ piece) ≡ wanted q → (i : ℕ) → i < 4 → get_or q i 0 < 256
unfolding first rest_of
wanted-bytes state buffer piece q left going b e i h =
    test-cases (eqb state.length 0)
    (λ none.
    let w = header-says state (is-left-header state left going (eqb-true state.length 0 none)).0 in
    let all : Bytes (pending state buffer ++ piece) = rw (pending-header state buffer none) (bytes-header state w piece b) in
    (bytes-ends all (wanted-ends (pending state buffer ++ piece) q e)).small i)
    (λ some.
    let limit = (is-left-message state left going (eqb-false state.length 0 some)).limit in
    let shape : pending state buffer ++ piece ≡ header_of state.length ++ (take state.got buffer ++ piece) =
    rw (pending-message state buffer some) (append_assoc (header_of state.length) (take state.got buffer) piece) in
    let opens : begins (pending state buffer ++ piece) ≡ message state.length (pending state buffer ++ piece) =
    rw shape (header-begins state.length (take state.got buffer ++ piece) limit) in
    let same : pending state buffer ++ piece ≡ q = wanted-rest (message state.length (pending state buffer ++ piece)) q (rw opens at e) in
    rw (← same, shape) (header-small state.length limit (take state.got buffer ++ piece) i h))

-- of a state that some stream leaves
pub going-whole : (state : State) (buffer piece m rest : List ℕ) → is_left state ≡ true → state.stopped ≡ 0 → length buffer ≡ 8192
    → first (pending state buffer ++ piece) ≡ whole m rest → InThePiece state.got piece m rest
going-whole state buffer piece m rest left going size e =
    test-cases (eqb state.length 0)
    (λ none. header-whole state buffer piece m rest (is-left-header state left going (eqb-true state.length 0 none)) (pending-header state buffer none) e)
    (λ some. message-whole state buffer piece m rest (is-left-message state left going (eqb-false state.length 0 some)) size (pending-message state buffer some) e)

-- ---- the state says what is left, and what is left says the state

header-word : (s : State) → HeaderWords s → (i : ℕ) → ByteWord i s.begun (get_or (s.first ∷ s.second ∷ s.third ∷ []) i 0)
    → get_or (begun_bytes s) i 0 ≡ get_or (s.first ∷ s.second ∷ s.third ∷ []) i 0
header-word s w i word =
    rw (← append-nil (begun_bytes s))
    (test-cases (ltb i s.begun)
    (λ e. header-in s w.few [] i (ltb-true i s.begun e))
    (λ e.
    let past : s.begun ≤ i = ltb-false i s.begun e in
    header-behind s w.few [] i past ∙ get_or-eq_default [] 0 (let z : 0 ≤ i - s.begun = omega arith in z) ∙ sym (word.absent past)))

header-state : (s : State) → HeaderWords s → s.stopped ≡ 0 → s.length ≡ 0 → s.got ≡ 0 → begun_state (begun_bytes s) ≡ s
unfolding begun_state header_begun header_words
header-state s w going none nothing =
    let few = w.few in
    let size = length-begun s w.few in
    let short : length (begun_bytes s) < 4 = omega arith in
    rw (lt-ltb (length (begun_bytes s)) 4 short)
    (λ i. record {
      stopped = sym going i;
      begun = size i;
      first = header-word s w 0 w.first i;
      second = header-word s w 1 w.second i;
      third = header-word s w 2 w.third i;
      length = sym none i;
      got = sym nothing i;
    })

message-state : (s : State) (buffer : List ℕ) → MessageWords s → s.stopped ≡ 0 → length buffer ≡ 8192
    → begun_state (header_of s.length ++ take s.got buffer) ≡ s
unfolding begun_state message_begun header_of length_of
message-state s buffer w going room =
    let limit = w.limit in
    let more = w.more in
    let held : length (take s.got buffer) ≡ s.got = length-take-le s.got buffer (let z : s.got ≤ length buffer = omega arith in z) in
    let long : 4 ≤ suc (suc (suc (suc (length (take s.got buffer))))) = omega arith in
    let named : length_of 0 (s.length / 256) (s.length % 256) ≡ s.length = omega arith in
    let in-now : suc (suc (suc (suc (length (take s.got buffer))))) - 4 ≡ s.got = omega arith in
    rw (le-ltb (suc (suc (suc (suc (length (take s.got buffer)))))) 4 long)
    (λ i. record {
      stopped = sym going i;
      begun = sym w.header.none i;
      first = sym w.header.first i;
      second = sym w.header.second i;
      third = sym w.header.third i;
      length = named i;
      got = in-now i;
    })

module _ (state : State) (buffer : List ℕ) (left : is_left state ≡ true) (going : state.stopped ≡ 0) (room : length buffer ≡ 8192) where
  pub going-state : begun_state (pending state buffer) ≡ state
  going-state =
      test-cases (eqb state.length 0)
      (λ none.
      let zero-length = eqb-true state.length 0 none in
      let h = is-left-header state left going zero-length in
      rw (pending-header state buffer none) (header-state state (header-says state h.0) going zero-length h.1))
      (λ some.
      rw (pending-message state buffer some) (message-state state buffer (is-left-message state left going (eqb-false state.length 0 some)) going room))

  -- the bytes begun are no message and no bad header
  pub pending-wanted : first (pending state buffer) ≡ wanted (pending state buffer)
  unfolding first first_of header_of
  pending-wanted =
      test-cases (eqb state.length 0)
      (λ none.
      let few = (header-says state (is-left-header state left going (eqb-true state.length 0 none)).0).few in
      let size = length-begun state few in
      let short : length (begun_bytes state) < 4 = omega arith in
      rw (pending-header state buffer none, begins-short (begun_bytes state) short))
      (λ some.
      let w = is-left-message state left going (eqb-false state.length 0 some) in
      let limit = w.limit in
      let more = w.more in
      let held : length (take state.got buffer) ≡ state.got = length-take-le state.got buffer (let z : state.got ≤ length buffer = omega arith in z) in
      let less : suc (suc (suc (suc (length (take state.got buffer))))) < 4 + state.length = omega arith in
      rw (pending-message state buffer some, header-begins state.length (take state.got buffer) limit, lt-leb (4 + state.length) (suc (suc (suc (suc (length (take state.got buffer)))))) less))

-- How the reader's inner functions make what one call gives.
-- Assumes nothing.
use Rattle.std.specs.Prelude.{◌≡◌, refl, true, false, eqb, leb, take}
use Rattle.std.proofs.Math.Path.{sym, ap}
use Rattle.std.proofs.Common.{◌∙◌, length-append, length-take-le, drop-drop}
use Prim.Native.Nat.{ℕ, suc, ◌+◌, ◌-◌, ◌/◌, ◌%◌, ◌≤◌, ◌<◌}
use mathlib.Core.List.{List, ◌∷◌, ◌++◌, append_assoc}
use Rattle.std.proofs.Math.ListN.{length, drop, length-drop, drop_of_length-le}
use Rattle.std.proofs.Math.Seq.{drop-append-add, take-append-add}
use native.Mathlib.Omega.{arith}
use borrow.Author.Tests.{le-leb, lt-leb, leb-true, leb-false, lt-ltb, le-ltb, eq-eqb, ne_eqb, eqb-true}
use Rattle.lists.specs.Truth.{test-cases}
use Rattle.lists.specs.Put.{put}
use Rattle.lists.specs.PutLaws.{put-nothing}
use Rattle.stream.specs.declared.state.State.{State}
use Rattle.stream.specs.Stream.{Message}
use Rattle.stream.specs.Reader.{NoMessage}
use Rattle.stream.specs.Seen.{Short, Bad, Body}
use Rattle.stream.specs.Stream.{length_of, header_of, Begins, short, bad, message, begins, first_of, first}
use Rattle.stream.specs.State.{stopped_by, header_begun, begun_state, begun_bytes, pending, is_left}
use Rattle.stream.specs.Reader.{step_of, refused, handed, read_by, read}
use Rattle.stream.specs.Seen.{seen_of, gathered}
use Rattle.stream.specs.BeginsLaws.{shown, Head, message-head, short-few, judged-message, header-begins, Ends, shown-ends, rest_of, ends-drop, ends-in-piece}
use Rattle.stream.specs.StateLaws.{length-header}

-- ---- the buffer

-- bytes put over the buffer from 0 on, the first of which stand there, are bytes put behind those
pub put-onto : (d x : List ℕ) (n : ℕ) → n ≤ length d → put d 0 (take n d ++ x) ≡ put d n x
unfolding put
put-onto d x n h =
    let f : length (take n d) ≡ n = length-take-le n d h in
    let place : 0 + length (take n d ++ x) ≡ n + length x = rw (length-append, f) (omega arith) in
    rw (place, append_assoc)

-- ---- a message's bytes

-- the rest of the stream from a message's header on: four bytes, the bytes that are in the buffer, and those of the piece from a place on
module _ (a b c d size got at : ℕ) (buffer piece : List ℕ) (in_Buffer : got ≤ length buffer) where
  abbrev pub body_from : List ℕ
  body_from = a ∷ b ∷ c ∷ d ∷ (take got buffer ++ drop at piece)

  length_from : length body_from ≡ 4 + (got + (length piece - at))
  length_from = rw (length-append, length-take-le got buffer in_Buffer, length-drop) (omega arith)

  module _ (named : length_of b c d ≡ size) (within : got ≤ size) (inside : at ≤ length piece) where
    -- some are still to come
    pub body-wanted : (state : State) → length piece - at < size - got → read_by state buffer piece (first_of (message size body_from)) ≡ gathered size got buffer piece at
    unfolding read_by first_of gathered begun_state
    body-wanted state h =
        let n = length_from in
        let few : length body_from < 4 + size = omega arith in
        let long : 4 ≤ length body_from = omega arith in
        let in-now : length body_from - 4 ≡ got + (length piece - at) = omega arith in
        rw (lt-leb (size - got) (length piece - at) h, lt-leb (4 + size) (length body_from) few, le-ltb (length body_from) 4 long, in-now, named, put-onto buffer (drop at piece) got in_Buffer)

    module _ (there : size - got ≤ length piece - at) where
      gathered-bytes : take size (take got buffer ++ drop at piece) ≡ take got buffer ++ take (size - got) (drop at piece)
      gathered-bytes =
          let f : length (take got buffer) ≡ got = length-take-le got buffer in_Buffer in
          let split : size ≡ length (take got buffer) + (size - got) = omega arith in
          ap (λ (k : ℕ). take k (take got buffer ++ drop at piece)) split ∙ take-append-add (take got buffer) (drop at piece) (size - got)

      length-gathered : length (take got buffer ++ take (size - got) (drop at piece)) ≡ size
      length-gathered =
          let f : length (take got buffer) ≡ got = length-take-le got buffer in_Buffer in
          let rest : length (drop at piece) ≡ length piece - at = length-drop at piece in
          let short : size - got ≤ length (drop at piece) = omega arith in
          let g : length (take (size - got) (drop at piece)) ≡ size - got = length-take-le (size - got) (drop at piece) short in
          rw (length-append, f, g) (omega arith)

      left_behind : drop size (take got buffer ++ drop at piece) ≡ drop (at + (size - got)) piece
      left_behind =
          let f : length (take got buffer) ≡ got = length-take-le got buffer in_Buffer in
          let split : size ≡ length (take got buffer) + (size - got) = omega arith in
          ap (λ (k : ℕ). drop k (take got buffer ++ drop at piece)) split
          ∙ drop-append-add (take got buffer) (drop at piece) (size - got)
          ∙ drop-drop (size - got) at piece

      body_end : length piece - length (drop (4 + size) body_from) ≡ at + (size - got)
      body_end = rw (← drop-drop size 4 body_from, left_behind, length-drop) (omega arith)

      pub body-whole : (state : State) → state.got ≡ got → read_by state buffer piece (first_of (message size body_from)) ≡ gathered size got buffer piece at
      unfolding read_by first_of gathered handed
      body-whole state same =
          let n = length_from in
          let enough : 4 + size ≤ length body_from = omega arith in
          rw (le-leb (size - got) (length piece - at) there, le-leb (4 + size) (length body_from) enough, same, body_end, gathered-bytes, length-gathered)
          (test-cases (eqb got 0)
          (λ t.
          let none : got ≡ 0 = eqb-true got 0 t in
          let end : at + (size - got) ≡ at + size = omega arith in
          let from : at + size - size ≡ at = omega arith in
          rw (t, end, from))
          (λ t. rw (t, put-onto buffer (take (size - got) (drop at piece)) got in_Buffer)))

    -- the same, either way
    pub body-read : (state : State) → state.got ≡ got → read_by state buffer piece (first_of (message size body_from)) ≡ gathered size got buffer piece at
    body-read state same =
        test-cases (leb (size - got) (length piece - at))
        (λ t. body-whole (leb-true (size - got) (length piece - at) t) state same)
        (λ t. body-wanted state (leb-false (size - got) (length piece - at) t))

-- ---- what the headers of a piece showed

record ShortSeen (x : Begins) (next : State) : Type 0 where
  pub rest : List ℕ
  pub is : x ≡ short rest
  pub same : next ≡ header_begun rest

short-seen : (x : Begins) (n : ℕ) (next : State) → seen_of x n ≡ Short next → ShortSeen x next
unfolding seen_of
short-seen (short s) n next e = record { rest = s; is = refl; same = (let f : header_begun s ≡ next = cc in sym f) }
short-seen (bad k s) n next e = let z : ◌≡◌ {A = ℕ} 0 1 = cc in absurd (omega arith)
short-seen (message k s) n next e = let z : ◌≡◌ {A = ℕ} 0 1 = cc in absurd (omega arith)

record BadSeen (x : Begins) (n number at : ℕ) : Type 0 where
  pub rest : List ℕ
  pub is : x ≡ bad number rest
  pub place : n - length (drop 4 rest) ≡ at

bad-seen : (x : Begins) (n number at : ℕ) → seen_of x n ≡ Bad number at → BadSeen x n number at
unfolding seen_of
bad-seen (short s) n number at e = let z : ◌≡◌ {A = ℕ} 0 1 = cc in absurd (omega arith)
bad-seen (bad k s) n number at e = record { rest = s; is = (let f : k ≡ number = cc in ap (λ (m : ℕ). bad m s) f); place = cc }
bad-seen (message k s) n number at e = let z : ◌≡◌ {A = ℕ} 0 1 = cc in absurd (omega arith)

record BodySeen (x : Begins) (n size at : ℕ) : Type 0 where
  pub rest : List ℕ
  pub is : x ≡ message size rest
  pub place : n - length (drop 4 rest) ≡ at

body-seen : (x : Begins) (n size at : ℕ) → seen_of x n ≡ Body size at → BodySeen x n size at
unfolding seen_of
body-seen (short s) n size at e = let z : ◌≡◌ {A = ℕ} 0 1 = cc in absurd (omega arith)
body-seen (bad k s) n size at e = let z : ◌≡◌ {A = ℕ} 0 1 = cc in absurd (omega arith)
body-seen (message k s) n size at e = record { rest = s; is = (let f : k ≡ size = cc in ap (λ (m : ℕ). message m s) f); place = cc }

-- ---- what a call gives

-- a state that no stream leaves
pub read-not-left : (state : State) (buffer piece : List ℕ) → is_left state ≡ false → read state buffer piece ≡ refused 5 state buffer
unfolding read
read-not-left state buffer piece e = rw e

module _ (state : State) (buffer piece : List ℕ) (left : is_left state ≡ true) where
  pub read-stopped : (state.stopped ≡ 0 → ⊥) → read state buffer piece ≡ refused state.stopped state buffer
  unfolding read
  read-stopped h = rw (left, ne_eqb state.stopped 0 h)

  module _ (going : state.stopped ≡ 0) where
    pub read-going : read state buffer piece ≡ read_by state buffer piece (first (pending state buffer ++ piece))
    unfolding read
    read-going = rw (left, eq-eqb state.stopped 0 going)

    -- a begun message goes on
    pub read-message : (state.length ≡ 0 → ⊥) → state.length ≤ 8192 → length buffer ≡ 8192 → state.got < state.length
        → read state buffer piece ≡ gathered state.length state.got buffer piece 0
    unfolding pending header_of first length_of
    read-message h limit whole-buffer more =
        let size : length_of 0 (state.length / 256) (state.length % 256) ≡ state.length = omega arith in
        read-going
        ∙ rw (ne_eqb state.length 0 h, append_assoc, header-begins state.length (take state.got buffer ++ piece) limit)
        (body-read 0 0 (state.length / 256) (state.length % 256) state.length state.got 0 buffer piece (omega arith) size (omega arith) (omega arith) state refl)

    -- a header goes on
    module _ (none : state.length ≡ 0) where
      read-header : (x : Begins) → begins (begun_bytes state ++ piece) ≡ x → read state buffer piece ≡ read_by state buffer piece (first_of x)
      unfolding pending first
      read-header x e = read-going ∙ rw (eq-eqb state.length 0 none, e)

      pub read_short : (next : State) → seen_of (begins (begun_bytes state ++ piece)) (length piece) ≡ Short next
          → read state buffer piece ≡ record { step = step_of 0 (length piece) NoMessage next; buffer = buffer }
      unfolding read_by first_of begun_state
      read_short next e =
          let seen = short-seen (begins (begun_bytes state ++ piece)) (length piece) next e in
          let few : length seen.rest < 4 = short-few (shown (begun_bytes state ++ piece)) seen.rest seen.is in
          let past : length seen.rest ≤ 4 = omega arith in
          read-header (short seen.rest) seen.is
          ∙ rw (lt-ltb (length seen.rest) 4 few, ← seen.same, drop_of_length-le seen.rest past, put-nothing buffer 0)

      pub read-bad : (n at : ℕ) → seen_of (begins (begun_bytes state ++ piece)) (length piece) ≡ Bad n at
          → read state buffer piece ≡ record { step = step_of n at NoMessage (stopped_by n); buffer = buffer }
      unfolding read_by first_of
      read-bad n at e =
          let seen = bad-seen (begins (begun_bytes state ++ piece)) (length piece) n at e in
          read-header (bad n seen.rest) seen.is ∙ rw seen.place

      -- a message's header, and the message's bytes behind it in the piece
      module _ (few : state.begun ≤ 3) (nothing : state.got ≡ 0) (size at : ℕ) (e : seen_of (begins (begun_bytes state ++ piece)) (length piece) ≡ Body size at) where
        seen_here : BodySeen (begins (begun_bytes state ++ piece)) (length piece) size at
        seen_here = body-seen (begins (begun_bytes state ++ piece)) (length piece) size at e

        head-here : Head (Message size) seen_here.rest
        head-here = message-head (shown (begun_bytes state ++ piece)) size seen_here.rest seen_here.is

        pub body-place : at ≤ length piece
        body-place = let p = seen_here.place in omega arith

        pub body-limit : size ≤ 8192
        body-limit = (judged-message head-here.a head-here.b head-here.c head-here.d size head-here.judged).limit

        behind-here : head-here.behind ≡ drop at piece
        unfolding rest_of
        behind-here =
            let h = head-here in
            let q = seen_here.rest in
            let ends : Ends (begun_bytes state ++ piece) q = rw seen_here.is at (shown-ends (shown (begun_bytes state ++ piece))) in
            let four : drop 4 q ≡ h.behind = ap (drop 4) h.same in
            let size-q : length q ≡ 4 + length h.behind = ap length h.same ∙ (let z : suc (suc (suc (suc (length h.behind)))) ≡ 4 + length h.behind = omega arith in z) in
            let later : Ends (begun_bytes state ++ piece) (drop 4 q) = ends-drop 4 ends (omega arith) in
            let whole_length : length (begun_bytes state ++ piece) ≡ state.begun + length piece = length-header state few piece in
            let rest-length : length q ≡ length (begun_bytes state ++ piece) - ends.at = ap length ends.same ∙ length-drop ends.at (begun_bytes state ++ piece) in
            let count : length (drop 4 q) ≡ length h.behind = ap length four in
            let fits : length (drop 4 q) ≤ length piece = omega arith in
            sym four ∙ ends-in-piece (begun_bytes state) piece (drop 4 q) later fits ∙ ap (λ (k : ℕ). drop k piece) seen_here.place

        pub read-body : length buffer ≡ 8192 → read state buffer piece ≡ gathered size 0 buffer piece at
        read-body whole-buffer =
            let h = head-here in
            let named : length_of h.b h.c h.d ≡ size = (judged-message h.a h.b h.c h.d size h.judged).size in
            read-header (message size seen_here.rest) seen_here.is
            ∙ rw (h.same, behind-here)
            (body-read h.a h.b h.c h.d size 0 at buffer piece (omega arith) named (omega arith) body-place state nothing)

-- "However the stream is cut, the messages handed out and the state left are those of the stream in one piece": of the definition, and of a host that
-- calls the reader on each piece. "A stopped reader hands out nothing until reset and answers its number again"; "messages before stand".
-- Assumes nothing.
use Rattle.std.specs.Prelude.{◌≡◌, ℕ, zero, suc, ◌+◌, ◌-◌, ◌≤◌, ◌<◌, true, take, drop, eqb, leb}
use Rattle.std.proofs.Math.Path.{refl}
use Rattle.std.proofs.Common.{sym, ap, ◌∙◌, arith, eqb-true, eq-eqb, ne_eqb, le-leb}
use mathlib.Core.List.{List, [], ◌∷◌, ◌++◌, append_assoc, append-nil, flatten}
use Rattle.std.proofs.Math.ListN.{length}
use Rattle.lists.specs.Put.{put}
use Rattle.lists.specs.PutLaws.{length-put}
use Rattle.lists.specs.Truth.{test-cases, choice-cases}
use Rattle.std.proofs.lemmas.Bool.{eqb-false}
use Rattle.stream.specs.declared.state.State.{State}
use Rattle.stream.specs.Stream.{Stop}
use Rattle.stream.specs.Reader.{Event}
use Rattle.stream.specs.Reader.{NoMessage, InPiece, InBuffer}
use Rattle.stream.specs.State.{none_begun, stopped_by, state_of, begun_bytes, pending, left_of, no_header, no_message, byte_fits, header_fits, is_left}
use Rattle.stream.specs.Reader.{Read, step_of, refused, handed, read_by, read}
use Rattle.stream.specs.BeginsLaws.{Shown, shown, Head, bad-head, judged-stop}
use Rattle.stream.specs.StateLaws.{StoppedWords, is-left-stopped}
use Rattle.stream.specs.ReaderLaws.{read-stopped, read-going}
use Rattle.stream.specs.Stream.{Begins, short, bad, message, begins, First, wanted, stops, whole, first_of, first, Carried, with_message, carried_by, carried_within, carried, Left, begun, stopped, fed, after, fed_all}
use Rattle.claims.specs.StreamLaws.{first_grown, first-grown, first-again, first-shorter, carried_step}
use Rattle.claims.specs.StreamKept.{Bytes, bytes-ends, wanted-kept, wanted_room, put-read, going-whole, wanted-bytes, going-state, pending-wanted}

-- ---- a stream of two parts

cut_by : (f : First) (s t : List ℕ) → first s ≡ f → ((m r : List ℕ) → f ≡ whole m r → carried (r ++ t) ≡ after (carried r).messages (fed (carried r).left t))
    → carried_by (first_grown f t) carried ≡ after (carried_by f carried).messages (fed (carried_by f carried).left t)
unfolding first_grown carried_by after fed with_message
cut_by (wanted q) s t e later = sym (carried_step (q ++ t))
cut_by (stops n q) s t e later = refl
cut_by (whole m q) s t e later = ap (with_message m) (later m q refl)

cut-within : (n : ℕ) (s t : List ℕ) → length s < n → carried (s ++ t) ≡ after (carried s).messages (fed (carried s).left t)
cut-within zero s t h = absurd (let z : ⊥ = omega arith in z)
cut-within (suc n) s t h =
    carried_step (s ++ t)
    ∙ ap (λ (f : First). carried_by f carried) (first-grown s t)
    ∙ rw (carried_step s)
    (cut_by (first s) s t refl λ m r e.
    let less = first-shorter s m r e in
    cut-within n r t (let z : length r < n = omega arith in z))

-- the first part, and then the second fed to what it leaves
pub carried-cut : (s t : List ℕ) → carried (s ++ t) ≡ after (carried s).messages (fed (carried s).left t)
carried-cut s t = cut-within (suc (length s)) s t (let z : length s < suc (length s) = omega arith in z)

pub fed-cut : (l : Left) (s t : List ℕ) → fed l (s ++ t) ≡ after (fed l s).messages (fed (fed l s).left t)
unfolding fed after
fed-cut (begun p) s t = ap carried (sym (append_assoc p s t)) ∙ carried-cut (p ++ s) t
fed-cut (stopped n) s t = refl

-- ---- what is left stands until bytes come

left_by : (f : First) (s : List ℕ) → first s ≡ f → ((m r : List ℕ) → f ≡ whole m r → fed (carried r).left [] ≡ record { messages = []; left = (carried r).left })
    → fed (carried_by f carried).left [] ≡ record { messages = []; left = (carried_by f carried).left }
unfolding carried_by fed with_message
left_by (wanted q) s e later = ap carried (append-nil q) ∙ carried_step q ∙ rw (first-again s q e)
left_by (stops n q) s e later = refl
left_by (whole m q) s e later = later m q refl

left-within : (n : ℕ) (s : List ℕ) → length s < n → fed (carried s).left [] ≡ record { messages = []; left = (carried s).left }
left-within zero s h = absurd (let z : ⊥ = omega arith in z)
left-within (suc n) s h =
    rw (carried_step s)
    (left_by (first s) s refl λ m r e.
    let less = first-shorter s m r e in
    left-within n r (let z : length r < n = omega arith in z))

pub left-stands : (s : List ℕ) → fed (carried s).left [] ≡ record { messages = []; left = (carried s).left }
left-stands s = left-within (suc (length s)) s (let z : length s < suc (length s) = omega arith in z)

pub fed-stands : (l : Left) (s : List ℕ) → fed (fed l s).left [] ≡ record { messages = []; left = (fed l s).left }
unfolding fed
fed-stands (begun p) s = left-stands (p ++ s)
fed-stands (stopped n) s = refl

-- ---- any pieces

cut_all : (l : Left) → fed l [] ≡ record { messages = []; left = l } → (pieces : List (List ℕ)) → fed_all l pieces ≡ fed l (flatten pieces)
unfolding fed_all flatten
cut_all l e [] = sym e
cut_all l e (p ∷ ps) = ap (after (fed l p).messages) (cut_all (fed l p).left (fed-stands l p) ps) ∙ sym (fed-cut l p (flatten ps))

-- fed to what some stream leaves, the pieces of a stream carry what it carries in one
pub however-cut : (s : List ℕ) (pieces : List (List ℕ)) → fed_all (carried s).left pieces ≡ fed (carried s).left (flatten pieces)
however-cut s pieces = cut_all (carried s).left (left-stands s) pieces

-- the same where nothing is begun
pub however-cut-all : (pieces : List (List ℕ)) → fed_all (begun []) pieces ≡ carried (flatten pieces)
unfolding fed carried carried_within carried_by first first_of begins
however-cut-all pieces = cut_all (begun []) (left-stands []) pieces

-- ---- a stopped reader

-- whatever comes behind a header that stops the reader: the messages before it stand, none is added, and the number is the same
pub stopped-stands : (s : List ℕ) (n : ℕ) → (carried s).left ≡ stopped n → (t : List ℕ) → carried (s ++ t) ≡ carried s
unfolding fed after
stopped-stands s n e t = carried-cut s t ∙ rw (e, append-nil)

-- ---- the reader

-- what a host has that calls the reader on a piece until more is wanted or the reader stops: the messages, the last number, the state and the buffer
pub record Drained : Type 0 where
  pub messages : List (List ℕ)
  pub number : ℕ
  pub state : State
  pub buffer : List ℕ

unfoldable pub handed_out : List (List ℕ) → Drained → Drained
handed_out ms d = record { messages = ms ++ d.messages; number = d.number; state = d.state; buffer = d.buffer }

-- a message is read out of the piece or out of the buffer, and the rest of the piece is the next call's
unfoldable pub drain_on : Event → Read → List ℕ → (State → List ℕ → List ℕ → Drained) → Drained
drain_on NoMessage r piece next = record { messages = []; number = r.step.number; state = r.step.state; buffer = r.buffer }
drain_on (InPiece at size) r piece next = handed_out (take size (drop at piece) ∷ []) (next r.step.state r.buffer (drop r.step.taken piece))
drain_on (InBuffer size) r piece next = handed_out (take size r.buffer ∷ []) (next r.step.state r.buffer (drop r.step.taken piece))

-- each message takes a byte of the piece at least, so one call more than there are bytes is enough
unfoldable pub drain_within : ℕ → State → List ℕ → List ℕ → Drained
drain_within zero state buffer piece = record { messages = []; number = 0; state = state; buffer = buffer }
drain_within (suc calls) state buffer piece =
    drain_on (read state buffer piece).step.event (read state buffer piece) piece (λ s b p. drain_within calls s b p)

unfoldable pub drained : State → List ℕ → List ℕ → Drained
drained state buffer piece = drain_within (suc (length piece)) state buffer piece

-- piece after piece; with none the number is the one that the state has
unfoldable pub drained_all : State → List ℕ → List (List ℕ) → Drained
drained_all state buffer [] = record { messages = []; number = state.stopped; state = state; buffer = buffer }
drained_all state buffer (p ∷ ps) =
    handed_out (drained state buffer p).messages (drained_all (drained state buffer p).state (drained state buffer p).buffer ps)

-- "answers its number"
unfoldable pub number_of : Left → ℕ
number_of (begun s) = 0
number_of (stopped n) = n

-- the host has what the definition says: the messages, the number, and the state, which with the buffer says what is left; and the next call is as good
pub record Same (d : Drained) (c : Carried) : Type 0 where
  pub messages : d.messages ≡ c.messages
  pub number : d.number ≡ number_of c.left
  pub state : d.state ≡ state_of c.left
  pub left : left_of d.state d.buffer ≡ c.left
  pub test : is_left d.state ≡ true
  pub room : length d.buffer ≡ 8192

same_after : (ms : List (List ℕ)) (d : Drained) (c : Carried) → Same d c → Same (handed_out ms d) (after ms c)
unfolding handed_out after
same_after ms d c s =
    record { messages = ap (λ (x : List (List ℕ)). ms ++ x) s.messages; number = s.number; state = s.state; left = s.left; test = s.test; room = s.room }

-- a stopped reader has the one state of its number
pub stopped-words : (state : State) → StoppedWords state → state ≡ stopped_by state.stopped
unfolding stopped_by
stopped-words state w = λ i.
    record {
      stopped = state.stopped;
      begun = w.header.none i;
      first = w.header.first i;
      second = w.header.second i;
      third = w.header.third i;
      length = w.length i;
      got = w.got i;
    }

-- the state of a reader that a header stopped
stopped-kept : (n : ℕ) (buffer : List ℕ) → (1 ≤ n) × (n ≤ 4) → (left_of (stopped_by n) buffer ≡ stopped n) × (is_left (stopped_by n) ≡ true)
unfolding left_of stopped_by is_left no_header no_message
stopped-kept n buffer h =
    let low = h.0 in
    let some : n ≡ 0 → ⊥ = λ e. let z : ⊥ = omega arith in z in
    (rw (ne_eqb n 0 some), rw (ne_eqb n 0 some, le-leb n 4 h.1))

stops-by : {s : List ℕ} (x : Begins) → Shown s x → (n : ℕ) (rest : List ℕ) → first_of x ≡ stops n rest → (1 ≤ n) × (n ≤ 4)
unfolding first_of
stops-by (short t) w n rest e = let z : ◌≡◌ {A = ℕ} 0 1 = cc in absurd (omega arith)
stops-by (bad k t) w n rest e =
    let same : k ≡ n = cc in
    let h : Head (Stop k) t = bad-head w k t refl in
    rw same at (judged-stop h.a h.b h.c h.d k h.judged)
stops-by (message k t) w n rest e =
    choice-cases (leb (4 + k) (length t)) _ _ _ e
    (λ _ f. let z : ◌≡◌ {A = ℕ} 0 1 = cc in absurd (omega arith))
    (λ _ f. let z : ◌≡◌ {A = ℕ} 0 1 = cc in absurd (omega arith))

pub stops-number : (s : List ℕ) (n : ℕ) (rest : List ℕ) → first s ≡ stops n rest → (1 ≤ n) × (n ≤ 4)
unfolding first
stops-number s n rest e = stops-by (begins s) (shown s) n rest e

-- ---- one call

module _ (state : State) (buffer piece : List ℕ) (left : is_left state ≡ true) (going : state.stopped ≡ 0) (room : length buffer ≡ 8192) (b : Bytes piece) where
  same-wanted : (q : List ℕ) → first (pending state buffer ++ piece) ≡ wanted q → (next : State → List ℕ → List ℕ → Drained)
      → Same (drain_on (read_by state buffer piece (wanted q)).step.event (read_by state buffer piece (wanted q)) piece next) (carried_by (wanted q) carried)
  unfolding drain_on read_by step_of carried_by number_of state_of
  same-wanted q e next =
      let small = wanted-bytes state buffer piece q left going b e in
      let k = wanted-kept (pending state buffer ++ piece) q e small buffer in
      let fits : 0 + length (drop 4 q) ≤ length buffer = (let z = wanted_room (pending state buffer ++ piece) q e in omega arith) in
      record {
        messages = refl;
        number = refl;
        state = refl;
        left = k.left;
        test = k.test;
        room = length-put buffer (drop 4 q) 0 fits ∙ room;
      }

  same-stops : (n : ℕ) (q : List ℕ) → first (pending state buffer ++ piece) ≡ stops n q → (next : State → List ℕ → List ℕ → Drained)
      → Same (drain_on (read_by state buffer piece (stops n q)).step.event (read_by state buffer piece (stops n q)) piece next) (carried_by (stops n q) carried)
  unfolding drain_on read_by step_of carried_by number_of state_of
  same-stops n q e next =
      let k = stopped-kept n buffer (stops-number (pending state buffer ++ piece) n q e) in
      record { messages = refl; number = refl; state = refl; left = k.0; test = k.1; room = room }

  same_whole : (m q : List ℕ) → first (pending state buffer ++ piece) ≡ whole m q → (next : State → List ℕ → List ℕ → Drained)
      → ((held rest : List ℕ) → length rest < length piece → length held ≡ 8192 → Bytes rest → Same (next none_begun held rest) (carried rest))
      → Same (drain_on (read_by state buffer piece (whole m q)).step.event (read_by state buffer piece (whole m q)) piece next) (carried_by (whole m q) carried)
  unfolding drain_on read_by handed step_of carried_by with_message after
  same_whole m q e next later =
      let w = going-whole state buffer piece m q left going room e in
      let bytes_left : Bytes q = rw (← w.behind) (bytes-ends b (record { at = length piece - length q; within = omega arith; same = refl })) in
      let fits : 0 + length m ≤ length buffer = (let z = w.limit in omega arith) in
      test-cases (eqb state.got 0)
      (λ none.
      rw (none, w.part (eqb-true state.got 0 none), w.behind)
      (same_after (m ∷ []) (next none_begun buffer q) (carried q) (later buffer q w.shorter room bytes_left)))
      (λ some.
      rw (some, put-read buffer m, w.behind)
      (same_after (m ∷ []) (next none_begun (put buffer 0 m) q) (carried q) (later (put buffer 0 m) q w.shorter (length-put buffer m 0 fits ∙ room) bytes_left)))

  -- whatever comes first
  same_by : (f : First) → first (pending state buffer ++ piece) ≡ f → (next : State → List ℕ → List ℕ → Drained)
      → ((held rest : List ℕ) → length rest < length piece → length held ≡ 8192 → Bytes rest → Same (next none_begun held rest) (carried rest))
      → Same (drain_on (read_by state buffer piece f).step.event (read_by state buffer piece f) piece next) (carried_by f carried)
  same_by (wanted q) e next later = same-wanted q e next
  same_by (stops n q) e next later = same-stops n q e next
  same_by (whole m q) e next later = same_whole m q e next later

-- ---- one piece

stopped-same : (state : State) (buffer : List ℕ) → is_left state ≡ true → length buffer ≡ 8192 → (state.stopped ≡ 0 → ⊥) → (piece : List ℕ) (next : State → List ℕ → List ℕ → Drained)
    → Same (drain_on (refused state.stopped state buffer).step.event (refused state.stopped state buffer) piece next) (fed (left_of state buffer) piece)
unfolding drain_on refused step_of left_of fed number_of state_of
stopped-same state buffer left room h piece next =
    rw (ne_eqb state.stopped 0 h)
    (record { messages = refl; number = refl; state = stopped-words state (is-left-stopped state left h); left = rw (ne_eqb state.stopped 0 h); test = left; room = room })

left-begun : (state : State) (buffer : List ℕ) → state.stopped ≡ 0 → left_of state buffer ≡ begun (pending state buffer)
unfolding left_of
left-begun state buffer e = rw (eq-eqb state.stopped 0 e)

left-stopped : (state : State) (buffer : List ℕ) → (state.stopped ≡ 0 → ⊥) → left_of state buffer ≡ stopped state.stopped
unfolding left_of
left-stopped state buffer h = rw (ne_eqb state.stopped 0 h)

pub none-begun : (buffer : List ℕ) → (is_left none_begun ≡ true) × (left_of none_begun buffer ≡ begun [])
unfolding none_begun is_left left_of pending begun_bytes header_fits byte_fits
none-begun buffer = (refl, refl)

pub nothing-before : {d : Drained} (buffer rest : List ℕ) → Same d (fed (left_of none_begun buffer) rest) → Same d (carried rest)
unfolding fed
nothing-before buffer rest s = rw (none-begun buffer).1 at s

in_one : {d : Drained} (p piece : List ℕ) → Same d (carried_by (first (p ++ piece)) carried) → Same d (fed (begun p) piece)
unfolding fed
in_one p piece s = rw (carried_step (p ++ piece)) s

drained-within : (calls : ℕ) (state : State) (buffer piece : List ℕ) → length piece < calls → is_left state ≡ true → length buffer ≡ 8192 → Bytes piece
    → Same (drain_within calls state buffer piece) (fed (left_of state buffer) piece)
unfolding drain_within
drained-within zero state buffer piece h left room b = absurd (let z : ⊥ = omega arith in z)
drained-within (suc calls) state buffer piece h left room b =
    test-cases (eqb state.stopped 0)
    (λ e.
    let going : state.stopped ≡ 0 = eqb-true state.stopped 0 e in
    rw (read-going state buffer piece left going, left-begun state buffer going)
    (in_one (pending state buffer) piece (same_by state buffer piece left going room b (first (pending state buffer ++ piece)) refl (λ s c p. drain_within calls s c p) λ held rest less size bytes.
    let again = drained-within calls none_begun held rest (let z : length rest < calls = omega arith in z) (none-begun held).0 size bytes in
    nothing-before held rest again)))
    (λ e.
    let stop = eqb-false state.stopped 0 e in
    rw (read-stopped state buffer piece left stop) (stopped-same state buffer left room stop piece (λ s c p. drain_within calls s c p)))

-- a host that calls the reader on a piece until more is wanted gets what the definition says
pub drained-same : (state : State) (buffer piece : List ℕ) → is_left state ≡ true → length buffer ≡ 8192 → Bytes piece
    → Same (drained state buffer piece) (fed (left_of state buffer) piece)
unfolding drained
drained-same state buffer piece left room b = drained-within (suc (length piece)) state buffer piece (let z : length piece < suc (length piece) = omega arith in z) left room b

-- ---- any pieces

pub data AllBytes : List (List ℕ) → Type 0 where
  no_pieces : AllBytes []
  one_more : {p : List ℕ} {ps : List (List ℕ)} → Bytes p → AllBytes ps → AllBytes (p ∷ ps)

-- before any piece
none-drained : (state : State) (buffer : List ℕ) → is_left state ≡ true → length buffer ≡ 8192
    → Same (record { messages = []; number = state.stopped; state = state; buffer = buffer }) (fed (left_of state buffer) [])
unfolding fed number_of state_of carried_by
none-drained state buffer left room =
    test-cases (eqb state.stopped 0)
    (λ e.
    let going : state.stopped ≡ 0 = eqb-true state.stopped 0 e in
    rw (left-begun state buffer going, append-nil, carried_step (pending state buffer), pending-wanted state buffer left going room)
    (record { messages = refl; number = going; state = sym (going-state state buffer left going room); left = left-begun state buffer going; test = left; room = room }))
    (λ e.
    let stop = eqb-false state.stopped 0 e in
    let same : left_of state buffer ≡ stopped state.stopped = left-stopped state buffer stop in
    rw same
    (record { messages = refl; number = refl; state = stopped-words state (is-left-stopped state left stop); left = same; test = left; room = room }))

-- "However the stream is cut, the messages handed out and the state left are those of the stream in one piece"
pub reader-however-cut : (pieces : List (List ℕ)) → AllBytes pieces → (state : State) (buffer : List ℕ) → is_left state ≡ true → length buffer ≡ 8192
    → Same (drained_all state buffer pieces) (fed (left_of state buffer) (flatten pieces))
unfolding drained_all flatten
reader-however-cut [] no_pieces state buffer left room = none-drained state buffer left room
reader-however-cut (p ∷ ps) (one_more b bs) state buffer left room =
    let now = drained-same state buffer p left room b in
    let then = reader-however-cut ps bs (drained state buffer p).state (drained state buffer p).buffer now.test now.room in
    rw (fed-cut (left_of state buffer) p (flatten ps), ← now.messages, ← now.left)
    (same_after (drained state buffer p).messages _ _ then)

-- "A stopped reader hands out nothing until reset and answers its number again", and nothing changes
pub reader-stopped : (state : State) (buffer piece : List ℕ) → is_left state ≡ true → (state.stopped ≡ 0 → ⊥)
    → read state buffer piece ≡ record { step = record { number = state.stopped; taken = 0; event = NoMessage; state = state }; buffer = buffer }
unfolding refused step_of
reader-stopped state buffer piece left h = read-stopped state buffer piece left h

-- Change request 1 of document 02, "Messages arrive in a stream", sentence by sentence. Assumes nothing.
use Rattle.std.specs.Prelude.{◌≡◌, refl, ◌↔◌, ℕ, ◌+◌, ◌/◌, ◌%◌, ◌≤◌, ◌<◌, true, length}
use Rattle.std.proofs.Common.{◌∙◌}
use mathlib.Core.List.{List, [], ◌∷◌, ◌++◌, flatten}
use Rattle.stream.specs.Stream.{judge, header_of, begun, stopped, with_message, carried, fed, after}
use Rattle.stream.specs.State.{none_begun, header_words, header_begun, begun_state, state_of, is_left}
use Rattle.stream.specs.Reader.{Read, read}
use Rattle.stream.specs.Writer.{framed, write}
use Rattle.lists.specs.Put.{put}
use Rattle.stream.specs.Reader.{NoMessage}
use Rattle.stream.specs.Stream.{Stop}
use Rattle.stream.specs.declared.state.State.{State}
use Rattle.claims.specs.StreamReasons.{StopReason, stop-exact, header-stops, keep-alive-passed, not-judged, WriteReason, write-reason, write-given, write-nothing, write_done}
use Rattle.claims.specs.StreamCut.{number_of, AllBytes, Same, drained_all, carried-cut, stopped-stands, reader-stopped}
use Rattle.claims.proofs.StreamCut.{reader-in-one}
use Rattle.claims.specs.StreamStates.{LeftBySome}
use Rattle.claims.proofs.StreamStates.{left-passes}
use Rattle.claims.proofs.StreamStatesStated.{not-left-five, left-not-five}
use Rattle.claims.specs.StreamBack.{written_in, carried-framed}
use Rattle.claims.proofs.StreamBackStated.{written_back}
use Rattle.demands.specs.StreamTaken.{Lent, AsInOne, host_pieces}
use Rattle.demands.proofs.StreamTaken.{taken-in-one}
use Rattle.order.specs.Demand1.{exactly}

-- What a stream carries is defined over all of its bytes as one list (stream/specs/Stream.antt: `carried`); the contract of the reader is an equation with `read`
-- (Reader.antt), of the writer with `write` (Writer.antt).

-- "Type 0x00 carries a message; 0x85 is a keep-alive, passed over. A header is judged once its four bytes are in." "Refusals that stop the reader, in this order: 1
-- another type, 2 reserved flag bits, 3 a keep-alive with length, 4 a length above 8,192"
pub record WhatAHeaderDoes : Type 0 where
  pub message : (m rest : List ℕ) → length m ≤ 8192
      → carried ((0x00 ∷ 0 ∷ length m / 256 ∷ length m % 256 ∷ m) ++ rest) ≡ record { messages = m ∷ (carried rest).messages; left = (carried rest).left }
  pub keep-alive : (rest : List ℕ) → carried (0x85 ∷ 0 ∷ 0 ∷ 0 ∷ rest) ≡ carried rest
  pub not-in-yet : (s : List ℕ) → length s < 4 → carried s ≡ record { messages = []; left = begun s }
  pub stop : (kind flags high low n : ℕ) → StopReason kind flags high low n → (rest : List ℕ)
      → carried (kind ∷ flags ∷ high ∷ low ∷ rest) ≡ record { messages = []; left = stopped n }
  pub stop-exactly : (kind flags high low n : ℕ) → (judge kind flags high low ≡ Stop n) ↔ StopReason kind flags high low n

-- "messages before stand": what was handed out stands, whatever comes behind; and behind a header that stops the reader nothing counts
pub record BeforeStands : Type 0 where
  pub handed_out : (stream more : List ℕ) → carried (stream ++ more) ≡ after (carried stream).messages (fed (carried stream).left more)
  pub behind-a-stop : (stream : List ℕ) (n : ℕ) → (carried stream).left ≡ stopped n → (more : List ℕ) → carried (stream ++ more) ≡ carried stream

-- "However the stream is cut, the messages handed out and the state left are those of the stream in one piece": a host that calls the reader on each piece until it
-- is taken, with any bytes in its buffer at first
abbrev pub HoweverCut : Type 0
HoweverCut =
    (pieces : List (List ℕ)) → AllBytes pieces → (buffer : List ℕ) → length buffer ≡ 8192 → Same (drained_all none_begun buffer pieces) (carried (flatten pieces))

-- "a written message of at most 8,192 bytes is read back by a reader that isn't stopped and has nothing begun", which is left so
abbrev pub WrittenReadBack : Type 0
WrittenReadBack =
    (message room : List ℕ) → length message ≤ 8192 → length message + 4 ≤ length room
    → (pieces : List (List ℕ)) → AllBytes pieces → flatten pieces ≡ written_in message room → (buffer : List ℕ) → length buffer ≡ 8192
    → ((drained_all none_begun buffer pieces).messages ≡ message ∷ []) × ((drained_all none_begun buffer pieces).number ≡ 0) × ((drained_all none_begun buffer pieces).state ≡ none_begun)

-- a call that answers that number, hands out nothing, takes nothing and changes nothing
abbrev pub nothing_read : ℕ → State → List ℕ → Read
nothing_read n state buffer = record { step = record { number = n; taken = 0; event = NoMessage; state = state }; buffer = buffer }

-- "A stopped reader hands out nothing until reset and answers its number again"
abbrev pub StoppedAgain : Type 0
StoppedAgain =
    (state : State) → LeftBySome state → (state.stopped ≡ 0 → ⊥) → (buffer piece : List ℕ) → read state buffer piece ≡ nothing_read state.stopped state buffer

-- "A reader state that no stream leaves is 5, before these, and nothing changes": exactly such a state
pub record FiveExactly : Type 0 where
  pub is-five : (state : State) → (LeftBySome state → ⊥) → (buffer piece : List ℕ) → read state buffer piece ≡ nothing_read 5 state buffer
  pub no_other : (state : State) → LeftBySome state → (buffer piece : List ℕ) → (read state buffer piece).step.number ≤ 4

-- "the writer takes up to 12,292"; "Writer's, nothing written: 1 for a longer message, then 2 for too little room"
pub record WriterForItsReason : Type 0 where
  pub number : (message room : List ℕ) (n : ℕ) → ((write message room).answer.number ≡ n) ↔ WriteReason message room n
  pub nothing_written : (message room : List ℕ) → ((write message room).answer.number ≡ 0 → ⊥) → (write message room).room ≡ room
  pub written : (message room : List ℕ) → length message ≤ 12292 → length message + 4 ≤ length room
      → write message room ≡ record { answer = record { number = 0; length = length message + 4 }; room = put room 0 (0 ∷ 0 ∷ length message / 256 ∷ length message % 256 ∷ message) }

-- "Demands 2 and 3 speak of the messages handed out": a host that takes each message handed out, on one connection, has for any cut the numbers, holders, replies, tables
-- and files of the messages of the stream in one piece (calls of other connections between two pieces: by `HoweverCut`, the messages are the same)
abbrev pub HandedOutTaken : Type 0
HandedOutTaken =
    (connection : ℕ) (lent : Lent) (pieces : List (List ℕ)) → AllBytes pieces → (buffer : List ℕ) → length buffer ≡ 8192
    → AsInOne connection lent (host_pieces connection none_begun buffer pieces lent) (carried (flatten pieces))

pub record Request1 : Type 0 where
  pub what-a-header-does : WhatAHeaderDoes
  pub before_stands : BeforeStands
  pub however-cut : HoweverCut
  pub written-read-back : WrittenReadBack
  pub stopped-again : StoppedAgain
  pub five-exactly : FiveExactly
  pub writer-for-its-reason : WriterForItsReason
  pub handed-out-taken : HandedOutTaken

-- ---- the proof: each line cites the theorem that does the work

carried-message : (m rest : List ℕ) → length m ≤ 8192
    → carried ((0x00 ∷ 0 ∷ length m / 256 ∷ length m % 256 ∷ m) ++ rest) ≡ record { messages = m ∷ (carried rest).messages; left = (carried rest).left }
unfolding framed header_of with_message
carried-message m rest h = carried-framed m rest h

none_number : number_of (begun []) ≡ 0
unfolding number_of
none_number = refl

none_left : state_of (begun []) ≡ none_begun
unfolding state_of begun_state header_begun header_words none_begun
none_left = refl

left-test : (state : State) → LeftBySome state → is_left state ≡ true
left-test state l = rw l.leaves at (left-passes l.stream l.bytes)

pub request-1 : Request1
request-1 =
    record {
      what-a-header-does = record {
        message = carried-message;
        keep-alive = keep-alive-passed;
        not-in-yet = not-judged;
        stop = header-stops;
        stop-exactly = stop-exact;
      };
      before_stands = record { handed_out = carried-cut; behind-a-stop = stopped-stands };
      however-cut = reader-in-one;
      written-read-back = λ message room short fits pieces b same buffer size.
          let q = written_back message room short fits pieces b same buffer size in (q.messages, q.number ∙ none_number, q.state ∙ none_left);
      stopped-again = λ state left stop buffer piece. reader-stopped state buffer piece (left-test state left) stop;
      five-exactly = record { is-five = not-left-five; no_other = left-not-five };
      writer-for-its-reason = record {
        number = λ message room. exactly (write-reason message room) (write-given message room);
        nothing_written = write-nothing;
        written = write_done;
      };
      handed-out-taken = taken-in-one;
    }

-- "Demands 2 and 3 speak of the messages handed out" (document 02, CR 1): a host that feeds a connection's bytes to the reader as they come and takes each message
-- handed out gets what it gets of the messages that the stream carries in one piece. Assumes nothing.
use Rattle.std.specs.Prelude.{◌≡◌, length, take, drop}
use Rattle.std.proofs.Math.Path.{refl, ap}
use Rattle.std.proofs.Common.{arith}
use Prim.Native.Nat.{ℕ, zero, suc, ◌≤◌}
use mathlib.Core.List.{List, [], ◌∷◌, ◌++◌}
use Rattle.records.specs.declared.Tables.{Tables}
use Rattle.message.specs.HeldBy.{HeldBy}
use Rattle.message.specs.Message.{Taken, take-message}
use Rattle.invariants.specs.Sound.{Good}
use Rattle.invariants.specs.Fit.{take-message-good}
use Rattle.stream.specs.declared.state.State.{State}
use Rattle.stream.specs.Reader.{Event}
use Rattle.stream.specs.Reader.{NoMessage, InPiece, InBuffer}
use Rattle.stream.specs.Stream.{begins, First, wanted, stops, whole, first, Carried, with_message, carried_by, carried}
use Rattle.stream.specs.State.{state_of}
use Rattle.stream.specs.Reader.{Read, read}
use Rattle.stream.specs.BeginsLaws.{shown, message-head, judged-message}
use Rattle.claims.specs.StreamLaws.{whole-seen, whole-size}
use Rattle.claims.specs.StreamCut.{Drained, handed_out, drain_on, number_of}
use Rattle.claims.specs.StreamBack.{AllShort, no-messages, short-one}
use Rattle.demands.specs.CallsOneByOne.{reply_in}

-- ---- messages taken in turn

-- what the host lends to each call and has back from it
pub record Lent : Type 0 where
  pub tables : Tables
  pub memory : List ℕ
  pub room : List ℕ

-- the number, the holder and the reply of each message, in turn, and what the last one left
pub record TakenAll : Type 0 where
  pub numbers : List ℕ
  pub holders : List HeldBy
  pub replies : List (List ℕ)
  pub lent : Lent

unfoldable pub take_one : ℕ → List ℕ → Lent → Taken
take_one connection s l = take-message connection s l.tables l.memory l.room

unfoldable pub lent_after : Taken → Lent
lent_after k = record { tables = k.tables; memory = k.memory; room = k.room }

unfoldable pub nothing_taken : Lent → TakenAll
nothing_taken l = record { numbers = []; holders = []; replies = []; lent = l }

unfoldable pub with_taken : Taken → TakenAll → TakenAll
with_taken k a = record { numbers = k.number ∷ a.numbers; holders = k.holder ∷ a.holders; replies = reply_in k ∷ a.replies; lent = a.lent }

-- each message by `take-message`, demand 2's definition, on what the one before it left
unfoldable pub taken_all : ℕ → List (List ℕ) → Lent → TakenAll
taken_all connection [] l = nothing_taken l
taken_all connection (s ∷ ss) l = with_taken (take_one connection s l) (taken_all connection ss (lent_after (take_one connection s l)))

unfoldable pub taken_then : TakenAll → TakenAll → TakenAll
taken_then a b = record { numbers = a.numbers ++ b.numbers; holders = a.holders ++ b.holders; replies = a.replies ++ b.replies; lent = b.lent }

-- ---- a host with a reader

-- what came of the messages, the reader's last number, its state and the buffer
pub record Hosted : Type 0 where
  pub taken : TakenAll
  pub number : ℕ
  pub state : State
  pub buffer : List ℕ

unfoldable pub hosted_taken : Taken → Hosted → Hosted
hosted_taken k h = record { taken = with_taken k h.taken; number = h.number; state = h.state; buffer = h.buffer }

-- a message handed out is taken where it stands, in the piece or in the buffer, before the reader is called again on the rest of the piece
unfoldable pub host_on : ℕ → Event → Read → List ℕ → Lent → (State → List ℕ → List ℕ → Lent → Hosted) → Hosted
host_on connection NoMessage r piece l next =
    record { taken = nothing_taken l; number = r.step.number; state = r.step.state; buffer = r.buffer }
host_on connection (InPiece at size) r piece l next =
    hosted_taken (take_one connection (take size (drop at piece)) l)
    (next r.step.state r.buffer (drop r.step.taken piece) (lent_after (take_one connection (take size (drop at piece)) l)))
host_on connection (InBuffer size) r piece l next =
    hosted_taken (take_one connection (take size r.buffer) l)
    (next r.step.state r.buffer (drop r.step.taken piece) (lent_after (take_one connection (take size r.buffer) l)))

unfoldable pub host_within : ℕ → ℕ → State → List ℕ → List ℕ → Lent → Hosted
host_within zero connection state buffer piece l = record { taken = nothing_taken l; number = 0; state = state; buffer = buffer }
host_within (suc calls) connection state buffer piece l =
    host_on connection (read state buffer piece).step.event (read state buffer piece) piece l (λ s b p k. host_within calls connection s b p k)

-- each message takes a byte of the piece at least, so one call more than there are bytes is enough
unfoldable pub host_piece : ℕ → State → List ℕ → List ℕ → Lent → Hosted
host_piece connection state buffer piece l = host_within (suc (length piece)) connection state buffer piece l

unfoldable pub hosted_then : Hosted → Hosted → Hosted
hosted_then a b = record { taken = taken_then a.taken b.taken; number = b.number; state = b.state; buffer = b.buffer }

-- piece after piece
unfoldable pub host_pieces : ℕ → State → List ℕ → List (List ℕ) → Lent → Hosted
host_pieces connection state buffer [] l = record { taken = nothing_taken l; number = state.stopped; state = state; buffer = buffer }
host_pieces connection state buffer (p ∷ ps) l =
    hosted_then (host_piece connection state buffer p l)
    (host_pieces connection (host_piece connection state buffer p l).state (host_piece connection state buffer p l).buffer ps (host_piece connection state buffer p l).taken.lent)

-- ---- it takes the messages that the reader hands out

module _ (connection : ℕ) where
  -- the messages drained first, and taken then
  abbrev pub taken_of : Drained → Lent → Hosted
  taken_of d l = record { taken = taken_all connection d.messages l; number = d.number; state = d.state; buffer = d.buffer }

  pub on-taken : (e : Event) (r : Read) (piece : List ℕ) (l : Lent) (next : State → List ℕ → List ℕ → Lent → Hosted) (drain : State → List ℕ → List ℕ → Drained)
      → ((s : State) (b p : List ℕ) (k : Lent) → next s b p k ≡ taken_of (drain s b p) k) → host_on connection e r piece l next ≡ taken_of (drain_on e r piece drain) l
  unfolding host_on drain_on handed_out hosted_taken taken_all
  on-taken NoMessage r piece l next drain same = refl
  on-taken (InPiece at size) r piece l next drain same = ap (hosted_taken (take_one connection (take size (drop at piece)) l)) (same _ _ _ _)
  on-taken (InBuffer size) r piece l next drain same = ap (hosted_taken (take_one connection (take size r.buffer) l)) (same _ _ _ _)

  -- messages behind others are taken on what those left
  pub taken-append : (ms ns : List (List ℕ)) (l : Lent)
      → taken_then (taken_all connection ms l) (taken_all connection ns (taken_all connection ms l).lent) ≡ taken_all connection (ms ++ ns) l
  unfolding taken_then taken_all nothing_taken with_taken
  taken-append [] ns l = refl
  taken-append (m ∷ ms) ns l = ap (with_taken (take_one connection m l)) (taken-append ms ns (lent_after (take_one connection m l)))

-- ---- however the stream is cut

-- the host has the numbers, holders, replies, tables, file memory and room that the messages carried give; and the reader's number and state are what is left
pub record AsInOne (connection : ℕ) (l : Lent) (h : Hosted) (c : Carried) : Type 0 where
  pub taken : h.taken ≡ taken_all connection c.messages l
  pub number : h.number ≡ number_of c.left
  pub state : h.state ≡ state_of c.left

-- ---- sound tables stay sound

pub taken-good : (connection : ℕ) (ms : List (List ℕ)) (l : Lent) → Good l.tables → Good (taken_all connection ms l).lent.tables
unfolding taken_all nothing_taken with_taken take_one lent_after
taken-good connection [] l g = g
taken-good connection (m ∷ ms) l g =
    taken-good connection ms (lent_after (take_one connection m l)) (take-message-good connection m l.tables l.memory l.room g)

-- ---- no message handed out is longer than 8,192 bytes

pub first_short : (s m rest : List ℕ) → first s ≡ whole m rest → length m ≤ 8192
unfolding first
first_short s m rest e =
    let w = whole-seen (begins s) m rest e in
    let h = message-head (shown s) w.size w.rest w.is in
    let limit = (judged-message h.a h.b h.c h.d w.size h.judged).limit in
    let size = whole-size w in
    omega arith

pub short-by : (f : First) → ((m r : List ℕ) → f ≡ whole m r → (length m ≤ 8192) × AllShort (carried r).messages) → AllShort (carried_by f carried).messages
unfolding carried_by with_message
short-by (wanted s) later = no-messages
short-by (stops n s) later = no-messages
short-by (whole m s) later = let k = later m s refl in short-one k.0 k.1

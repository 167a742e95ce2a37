-- Demand 3 of the order, sentence by sentence. Assumes nothing.
use Rattle.std.specs.Prelude.{◌≡◌, ◌↔◌, ℕ, ◌+◌, ◌≤◌, ◌<◌, true, false, length, take, get_or}
use Rattle.std.proofs.Common.{sym, ap, ◌∙◌, get_or-take, arith}
use mathlib.Core.List.{List, Memᴰ as In}
use Rattle.std.proofs.lemmas.List.{length-replicate}
use Rattle.wire.specs.LittleEndian.{byte_at}
use Rattle.chain.specs.Layout.{header_command}
use Rattle.chain.specs.Grammar.{Span, Reading, Sentence}
use Rattle.chain.specs.Header.{dropped}
use Rattle.listing.specs.Text.{listing, not_chain, dropped_line}
use Rattle.readings.specs.OneReading.{one-reading-of-message}
use Rattle.readings.specs.Unread.{Unread}
use Rattle.readings.proofs.FreeBytes.{free-reading}
use Rattle.readings.specs.ListingExact.{span_lines}
use Rattle.readings.proofs.ListingExact.{reading-listed, dropped-exact}
use Rattle.readings.proofs.ListingExactStated.{not-chain-exact}
use Rattle.demands.proofs.NotServed.{known-exact}
use Rattle.demands.proofs.CallsStated.{malformed-call}
use Rattle.demands.proofs.Taken.{free-taken}
use Rattle.demands.specs.Taken.{unread-taken}
use Rattle.demands.specs.CallsOneByOne.{compared_call}
use Rattle.message.specs.JustOpened.{NOBODY}
use Rattle.demands.proofs.SpansOneByOne.{spans-one-by-one}
use Rattle.demands.specs.SpansFit.{AllSentFit}
use Rattle.demands.proofs.SpansFit.{spans_fit}
use Rattle.order.specs.Call.{Call, gives, Answerable, BeginsKnown, Says, sending, some_room, left_by}

-- "The grammar of chained messages is written without reference to the reader": chain/specs/Grammar.antt cites chain/specs/Layout.antt, where each field
-- stands, and nothing else.

-- "by it no message has two readings"
abbrev pub NoTwoReadings : Type 0
NoTwoReadings = (message : List ℕ) (one other : List Span) → Reading message one → Reading message other → one ≡ other

-- "A message fit to be answered that begins with a known command is answered as malformed exactly if it is not a sentence"
abbrev pub MalformedExactly : Type 0
MalformedExactly = (c : Call) → Answerable c → BeginsKnown c → (((gives c).number ≡ 0) × Says c 2 1) ↔ (Sentence c.message → ⊥)

-- "Bytes outside the blocks of a reading change nothing": another message, of any length, with the same header and the same bytes in every block; "it is the other's
-- reading too"
abbrev pub FreeBytes : Type 0
FreeBytes =
    (c : Call) (other : List ℕ) (spans : List Span) → Reading c.message spans → take 32 other ≡ take 32 c.message
    → ((x : Span) → In x spans → x.place + x.size ≤ length other)
    → ((x : Span) → In x spans → (k : ℕ) → x.place ≤ k → k < x.place + x.size → byte_at other k ≡ byte_at c.message k)
    → Answerable c → Answerable (sending c other) → Reading other spans × (gives (sending c other) ≡ gives c)

-- document 01: "Timeout fields are not looked at", "0xFF ends the chain and the offset is ignored": nor do these bytes inside a block (which they are:
-- readings/specs/Unread.antt)
abbrev pub UnreadBytes : Type 0
UnreadBytes =
    (c : Call) (other : List ℕ) (spans : List Span) → Reading c.message spans → take 32 other ≡ take 32 c.message
    → ((x : Span) → In x spans → x.place + x.size ≤ length other)
    → ((x : Span) → In x spans → (k : ℕ) → k < x.size → (Unread c.message x.place x.command k → ⊥) → byte_at other (x.place + k) ≡ byte_at c.message (x.place + k))
    → Answerable c → Answerable (sending c other) → gives (sending c other) ≡ gives c

-- "A sentence's commands sent one to a message, up to the first refused, give the chain's reply blocks, status, tables and files, every byte"; and its holder
-- (document 02, CR 2), the last message's. The calls one by one are demands/specs/SpansOneByOne.antt's `call_spans`, each a
-- block's own message, where "for 0xFFFF, and only then, demand 3's separate READ carries the FID returned" (CR 6), and what is compared CallsOneByOne.antt's `compared_call`
abbrev pub OneToAMessage : Type 0
OneToAMessage =
    (c : Call) (spans : List Span) → Reading c.message spans → Answerable c
    → gives c ≡ compared_call c.message c.room (left_by c spans)

-- each of these messages is fit to be answered and is one command alone, so that demand 1's reasons and demand 2's effects speak of it
abbrev pub EachAlone : Type 0
EachAlone = (c : Call) (spans : List Span) → Reading c.message spans → Answerable c → AllSentFit c.connection c.message some_room NOBODY spans c.tables c.memory

-- "a small program that lists a message's commands": a line for each block of the reading; `not a chain` exactly if there is none, `dropped` by row 1
pub record Listed : Type 0 where
  pub lines : (message : List ℕ) (spans : List Span) → Reading message spans → dropped message ≡ false → listing message ≡ span_lines 1 spans
  pub no-chain : (message : List ℕ) → (listing message ≡ not_chain) ↔ ((dropped message ≡ false) × (Sentence message → ⊥))
  pub is-dropped : (message : List ℕ) → (listing message ≡ dropped_line) ↔ (dropped message ≡ true)

pub record Demand3 : Type 0 where
  pub no-two-readings : NoTwoReadings
  pub malformed-exactly : MalformedExactly
  pub free_bytes : FreeBytes
  pub unread-bytes : UnreadBytes
  pub one-to-a-message : OneToAMessage
  pub each-alone : EachAlone
  pub listed : Listed

-- ---- the proof: each line cites the theorem that does the work

same-command : (s t : List ℕ) → take 32 t ≡ take 32 s → header_command t ≡ header_command s
same-command s t e = sym (get_or-take 32 t 4 0 (omega arith)) ∙ ap (λ (l : List ℕ). get_or l 4 0) e ∙ get_or-take 32 s 4 0 (omega arith)

pub demand-3 : Demand3
demand-3 =
    record {
      no-two-readings = one-reading-of-message;
      malformed-exactly = λ c a known. malformed-call c.connection c.message c.tables c.memory c.room a.fit ((known-exact _).1 known);
      free_bytes = λ c other spans r header inside same a b. (
        free-reading other (same-command c.message other header) r (λ x i. record { same = same x i; inside = inside x i }),
        free-taken c.connection c.message other header r (λ x i. record { same = same x i; inside = inside x i }) c.tables c.memory c.room a.fit b.fit,
      );
      unread-bytes = λ c other spans r header inside same a b.
          unread-taken c.connection c.message other header r (λ x i. record { same = same x i; inside = inside x i }) c.tables c.memory c.room a.fit b.fit;
      one-to-a-message = λ c spans r a.
          spans-one-by-one c.connection c.message r c.tables c.memory c.room some_room a.good a.fit (length-replicate {A = ℕ} 12292 0);
      each-alone = λ c spans r a.
          spans_fit c.connection c.message r c.tables c.memory c.room some_room a.good a.fit (length-replicate {A = ℕ} 12292 0);
      listed = record { lines = λ message spans r e. reading-listed message r e; no-chain = not-chain-exact; is-dropped = dropped-exact };
    }

-- No message has two readings: each is what the reader answers.
-- Assumes nothing.
use Rattle.std.specs.Prelude.{◌≡◌, ℕ, List, map, Some}
use Rattle.std.proofs.Common.{sym, ◌∙◌, ap}
use Rattle.chain.specs.Layout.{header_command, FIRST}
use Rattle.chain.specs.Grammar.{Span, ReadingFrom, Reading}
use Rattle.chain.specs.Chain.{blocks_from}
use Rattle.invariants.specs.ReaderSound.{span_of}
use Rattle.readings.specs.ReaderComplete.{Answered, reader-complete-from}

-- two answers of the reader have the same blocks
same_answer : {s : List ℕ} {command at : ℕ} {xs ys : List Span} → Answered s command at xs → Answered s command at ys → xs ≡ ys
same_answer {s} {command} {at} a b =
    let p : blocks_from s command at ≡ Some a.bs = a.answer in
    let q : blocks_from s command at ≡ Some b.bs = b.answer in
    let e : a.bs ≡ b.bs = cc in
    sym a.same ∙ ap (map span_of) e ∙ b.same

-- "A reading is a list of blocks inside the message, each by the rules above": from a place on there is one at most
pub one-reading : (s : List ℕ) (command at : ℕ) (xs ys : List Span) → ReadingFrom s command at xs → ReadingFrom s command at ys → xs ≡ ys
one-reading s command at xs ys p q = same_answer (reader-complete-from p) (reader-complete-from q)

-- "A sentence is a message with a reading": and it has only one
pub one-reading-of-message : (s : List ℕ) (xs ys : List Span) → Reading s xs → Reading s ys → xs ≡ ys
one-reading-of-message s xs ys p q = one-reading s (header_command s) FIRST xs ys p q

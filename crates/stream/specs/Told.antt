-- What the code answers, in the words of the definitions: a refusal by its number, and what a call gives as one record.
-- Assumes nothing.
use Rattle.std.specs.Prelude.{ℕ, Option, None, Some, Result, Ok, Err}
use Rattle.stream.specs.declared.header.Header.{Header}
use Rattle.stream.specs.declared.header.Header.TheVariants as said
use Rattle.stream.specs.declared.header.StreamRefusal.{StreamRefusal}
use Rattle.stream.specs.declared.header.StreamRefusal.TheVariants.{UnknownType, ReservedFlags, LongKeepAlive, LongMessage, NotLeft}
use Rattle.stream.specs.declared.reader.Seen as code
use Rattle.stream.specs.declared.reader.Seen.TheVariants as seen
use Rattle.stream.specs.declared.reader.Whole.{Whole}
use Rattle.stream.specs.declared.reader.Whole.TheVariants as there
use Rattle.stream.specs.declared.reader.Step as call
use Rattle.stream.specs.declared.writer.WriteRefusal.{WriteRefusal}
use Rattle.stream.specs.declared.writer.WriteRefusal.TheVariants.{TooLong, NoRoom}
use Rattle.stream.specs.Stream.{Judged, Stop, KeepAlive, Message}
use Rattle.stream.specs.Seen.{Seen, Short, Bad, Body}
use Rattle.stream.specs.Reader.{Event, NoMessage, InPiece, InBuffer, Step}
use Rattle.stream.specs.Writer.{Written}

-- "Refusals that stop the reader, in this order: 1 another type, 2 reserved flag bits, 3 a keep-alive with length, 4 a length above 8,192";
-- "A reader state that no stream leaves is 5"
abbrev pub number_of : StreamRefusal → ℕ
number_of UnknownType = 1
number_of ReservedFlags = 2
number_of LongKeepAlive = 3
number_of LongMessage = 4
number_of NotLeft = 5

abbrev pub judged_of : Result Header StreamRefusal → Judged
judged_of (Ok said.KeepAlive) = KeepAlive
judged_of (Ok (said.Message size)) = Message size
judged_of (Err refusal) = Stop (number_of refusal)

abbrev pub seen_told : code.Seen → Seen
seen_told (seen.Short next) = Short next
seen_told (seen.Bad refusal at) = Bad (number_of refusal) at
seen_told (seen.Body size at) = Body size at

abbrev pub outcome_number : Result (Option Whole) StreamRefusal → ℕ
outcome_number (Ok whole) = 0
outcome_number (Err refusal) = number_of refusal

abbrev pub outcome_event : Result (Option Whole) StreamRefusal → Event
outcome_event (Ok None) = NoMessage
outcome_event (Ok (Some (there.InPiece at size))) = InPiece at size
outcome_event (Ok (Some (there.InBuffer size))) = InBuffer size
outcome_event (Err refusal) = NoMessage

abbrev pub step_told : call.Step → Step
step_told s = record { number = outcome_number s.outcome; taken = s.taken; event = outcome_event s.outcome; state = s.state }

-- "Writer's, nothing written: 1 for a longer message, then 2 for too little room."
abbrev pub write_number : WriteRefusal → ℕ
write_number TooLong = 1
write_number NoRoom = 2

abbrev pub written_told : Result ℕ WriteRefusal → Written
written_told (Ok size) = record { number = 0; length = size }
written_told (Err refusal) = record { number = write_number refusal; length = 0 }

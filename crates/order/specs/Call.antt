-- The words of the page: a call that takes a message, and what is said of it. Assumes nothing.
use Rattle.std.specs.Prelude.{◌≡◌, ℕ, ◌/◌, ◌%◌, List, [], ◌∷◌, replicate}
use Rattle.wire.specs.LittleEndian.{byte_at, le32_at}
use Rattle.records.specs.declared.Tables.{Tables}
use Rattle.chain.specs.Layout.{header_command}
use Rattle.chain.specs.Grammar.{Span, Reading}
use Rattle.message.specs.Caller.{caller_of}
use Rattle.message.specs.declared.caller.Caller.{Caller}
use Rattle.message.specs.Refusal.{status}
use Rattle.message.specs.declared.refusal.Status.{Status}
use Rattle.message.specs.Message.{Taken, take-message}
use Rattle.invariants.specs.Fit.{Fit}
use Rattle.invariants.specs.Sound.{Good}
use Rattle.demands.specs.NotServed.{Known}
use Rattle.message.specs.JustOpened.{NOBODY}
use Rattle.demands.specs.StatusRead.{status_read}
use Rattle.demands.specs.CallsOneByOne.{Calls}
use Rattle.demands.specs.SpansOneByOne.{own_span, call_spans}
use Rattle.demands.specs.SpansRefused.{last_returned}

-- what a call is lent: "one request message, the tables of sessions, trees, opens and locks and the file memory", with the connection's number and the room
-- for the reply
pub record Call : Type 0 where
  pub connection : ℕ
  pub message : List ℕ
  pub tables : Tables
  pub memory : List ℕ
  pub room : List ℕ

-- what it gives back: number, reply length, holder, tables, file memory, room (message/specs/Message.antt). The contract of the code is an equation with it.
abbrev pub gives : Call → Taken
gives c = take-message c.connection c.message c.tables c.memory c.room

-- "Fit to be answered: rows 1, 2 and 4 don't apply", in tables whose arrays have their room (which the types say of code)
pub record Answerable (c : Call) : Type 0 where
  pub fit : Fit c.message c.tables c.memory c.room
  pub good : Good c.tables

-- "Known: a request served"
abbrev pub BeginsKnown : Call → Type 0
BeginsKnown c = Known (header_command c.message)

-- the message is one command alone
pub record OneCommand (c : Call) (command : ℕ) : Type 0 where
  pub span : Span
  pub reading : Reading c.message (span ∷ [])
  pub is : header_command c.message ≡ command

-- the Status in the reply: class and code, as a reader finds them in the form that the reply has (document 02, CR 7)
abbrev pub status_given : Call → Status
status_given c = status_read (gives c).room

-- the four bytes of Status as a number
abbrev pub status_number_given : Call → ℕ
status_number_given c = le32_at (gives c).room 5

abbrev pub Says : Call → ℕ → ℕ → Type 0
Says c class code = status_given c ≡ status class code

-- "Flags2 bit 0x4000 is set" (document 02, CR 7), which is bit 0x40 of the byte at 11
abbrev pub AsksNt : Call → Type 0
AsksNt c = byte_at c.message 11 / 64 % 2 ≡ 1

-- who sends the message
abbrev pub sender : Call → Caller
sender c = caller_of c.connection c.message

-- the same call with another message
abbrev pub sending : Call → List ℕ → Call
sending c message = record { connection = c.connection; message = message; tables = c.tables; memory = c.memory; room = c.room }

-- "reply room 12,292", for the messages of a chain's commands sent one by one
abbrev pub some_room : List ℕ
some_room = replicate 12292 0

-- what the commands of some blocks leave, sent one to a message up to the first refused; the first of them carries no FID returned, and a FID 0xFFFF is nobody's
abbrev pub left_by : Call → List Span → Calls
left_by c spans = call_spans c.connection c.message some_room NOBODY spans c.tables c.memory

-- the message of the next one: "for 0xFFFF, and only then, demand 3's separate READ carries the FID returned" (document 02, CR 6) by the last of these
abbrev pub own_message : Call → List Span → Span → List ℕ
own_message c front command =
    own_span c.message (last_returned c.connection c.message some_room NOBODY front c.tables c.memory) command

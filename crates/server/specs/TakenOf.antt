-- What the call gives back, with the tables, the file memory and the reply room it leaves, as document 01 says what a call
-- returns. Assumes nothing.
use Rattle.std.specs.Prelude.{◌≡◌, ℕ, List, Result, Ok, Err}
use native.Mathlib.Omega.{arith}
use Rattle.records.specs.declared.Tables.{Tables}
use Rattle.message.specs.Message.{Taken, not_taken}
use Rattle.server.specs.declared.call.CallRefusal.{CallRefusal}
use Rattle.server.specs.declared.call.CallRefusal.TheVariants.{Dropped, WrongRoom, NotSound}
use Rattle.server.specs.declared.call.Taken.{Taken as Returned}

-- the number of a refusal's row
abbrev pub row_number : CallRefusal → ℕ
row_number Dropped = 1
row_number WrongRoom = 2
row_number NotSound = 4

-- no refusal's row is 0
pub refused-row : (why : CallRefusal) → row_number why ≡ 0 → ⊥
refused-row Dropped e = omega arith
refused-row WrongRoom e = omega arith
refused-row NotSound e = omega arith

-- the row: 0 where the message is answered
abbrev pub number_in : Result Returned CallRefusal → ℕ
number_in (Ok r) = 0
number_in (Err why) = row_number why

unfoldable pub taken_of : Result Returned CallRefusal → Tables → List ℕ → List ℕ → Taken
taken_of (Ok r) t memory room = record { number = 0; length = r.length; holder = r.holder; tables = t; memory = memory; room = room }
taken_of (Err why) t memory room = not_taken (row_number why) t memory room

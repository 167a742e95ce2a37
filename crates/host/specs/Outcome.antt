-- How a host call on the words ends, by the numbers of document 01's table "What a call returns". Assumes nothing.
use Rattle.std.specs.Prelude.{◌≡◌, ℕ, Ok, Err}
use native.Mathlib.Omega.{arith}
use Rattle.std.proofs.Common.{Result}
use Rattle.host.specs.declared.answer.HostRefusal.{HostRefusal}
use Rattle.host.specs.declared.answer.HostRefusal.TheVariants.{WrongRoom, NotSound, Full, NoSuch, OutOfRange, ExceedsRight, FileOpen}

-- the number of a refusal's row
abbrev pub row_number : HostRefusal → ℕ
row_number WrongRoom = 2
row_number NotSound = 4
row_number Full = 5
row_number NoSuch = 6
row_number OutOfRange = 7
row_number ExceedsRight = 8
row_number FileOpen = 9

-- the row
abbrev pub number_in : {A : Type 0} → Result A HostRefusal → ℕ
number_in (Ok x) = 0
number_in (Err why) = row_number why

-- the number given out or the answer given: 0 beside a refusal
abbrev pub id_in : Result ℕ HostRefusal → ℕ
id_in (Ok id) = id
id_in (Err why) = 0

-- no refusal's row is 0
pub refused-row : (why : HostRefusal) → row_number why ≡ 0 → ⊥
refused-row WrongRoom e = omega arith
refused-row NotSound e = omega arith
refused-row Full e = omega arith
refused-row NoSuch e = omega arith
refused-row OutOfRange e = omega arith
refused-row ExceedsRight e = omega arith
refused-row FileOpen e = omega arith

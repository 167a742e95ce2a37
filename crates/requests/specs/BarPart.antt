-- A lock in the way of a read or a write. Assumes nothing.
use Rattle.std.specs.Prelude.{◌≡◌, ℕ, ◌<◌, length, Option, Some, None, Result, Ok, Err, ⊤}
use Rattle.std.proofs.Common.{arith}
use Rattle.lists.specs.FoundLaws.{found_below}
use Rattle.records.specs.declared.Tables.{Tables}
use Rattle.records.specs.Held.{opens_of, locks_of}
use Rattle.locks.specs.Answer.{answers}
use Rattle.locks.specs.declared.types.Ask.{Ask}
use Rattle.soundness.specs.File.{file_of}
use Rattle.std.proofs.Math.Path.{refl, ap}
use Rattle.locks.specs.Request.{holder_at}
use Rattle.message.specs.declared.refusal.Refusal.{Refusal}
use Rattle.message.specs.declared.refusal.Refusal.TheVariants.{FileLockConflict}
use Rattle.requests.specs.Reach.{passed}
use Rattle.message.specs.Command.{Given, refused, unless_barred, barring}

-- the place found is that of a listed lock
pub bar-below : (t : Tables) (q : Ask) (place : ℕ) → barring t q ≡ Some place → place < length (locks_of t)
unfolding barring
bar-below t q place e = found_below (answers (file_of (opens_of t)) q) (locks_of t) place e

-- no lock in the way, or 1/33 and the holder
unfoldable pub passed_by : Tables → Option ℕ → Result ⊤ Refusal
passed_by t (Some place) = Err (FileLockConflict (holder_at (locks_of t) place))
passed_by t None = passed

unfoldable pub locks_passed : Tables → Ask → Result ⊤ Refusal
locks_passed t q = passed_by t (barring t q)

barred-case : (t : Tables) (found : Option ℕ) (why : Refusal) (next : Given) → passed_by t found ≡ Err why → unless_barred t found next ≡ refused why
unfolding passed_by unless_barred
barred-case t (Some place) why next e = let same : FileLockConflict (holder_at (locks_of t) place) ≡ why = cc in ap refused same
barred-case t None why next e = let never : ◌≡◌ {A = ℕ} 0 1 = cc in absurd (omega arith)

passed-case : (t : Tables) (found : Option ℕ) (next : Given) (x : ⊤) → passed_by t found ≡ Ok x → unless_barred t found next ≡ next
unfolding passed_by unless_barred
passed-case t (Some place) next x e = let never : ◌≡◌ {A = ℕ} 0 1 = cc in absurd (omega arith)
passed-case t None next x e = refl

-- a read or a write that a lock bars, and one that none does
module _ (t : Tables) (q : Ask) (next : Given) where
  pub is-barred : (why : Refusal) → locks_passed t q ≡ Err why → unless_barred t (barring t q) next ≡ refused why
  unfolding locks_passed
  is-barred why e = barred-case t (barring t q) why next e

  pub not-barred : (x : ⊤) → locks_passed t q ≡ Ok x → unless_barred t (barring t q) next ≡ next
  unfolding locks_passed
  not-barred x e = passed-case t (barring t q) next x e

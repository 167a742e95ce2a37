-- A command that leaves the file memory alone, a refusal, and how what was performed is seen to be what a command gives.
-- Assumes nothing.
use Rattle.std.specs.Prelude.{◌≡◌, ℕ, true, List, refl, Ok, Err}
use Rattle.std.proofs.Common.{sym, ap}
use Rattle.records.specs.declared.Tables.{Tables}
use Rattle.message.specs.Command.{Said, Given, refused, done}
use Rattle.message.specs.Given.{Answered, said_of, bytes_inside, given_of, inside, tables_after, memory_after, Gives}
use Rattle.message.specs.declared.answer.Answer.{Answer}
use Rattle.message.specs.declared.answer.Performed.{Performed}
use Rattle.message.specs.declared.refusal.Refusal.{Refusal}

-- what was performed is what the command gives, whatever stands in the file memory, and leaves that alone
abbrev pub Leaves : (List ℕ → Given) → Tables → Performed → Type 0
Leaves given t p = (m : List ℕ) → Gives (given m) t m p m

abbrev pub performed : Answered → Tables → Performed
performed answer tables = record { answer = answer; tables = tables }

-- "A command refused changes no table and no file byte"
abbrev pub refusal : Refusal → Tables → Performed
refusal why t = performed (Err why) t

-- a command refused
pub gives-refused : {given : Given} {t : Tables} {m : List ℕ} {p : Performed} (why : Refusal) → given ≡ refused why → p ≡ refusal why t
    → Gives given t m p m
unfolding given_of inside tables_after memory_after
gives-refused why e q = rw (e, q) (record { meaning = refl; tables-left = refl; memory-left = refl; within = refl })

-- a command done
pub gives-done : {given : Given} {t : Tables} {m left : List ℕ} {p : Performed} (a : Answer) (t' : Tables) (said : Said)
    → given ≡ done t' left said → p ≡ performed (Ok a) t' → said_of a left ≡ said → bytes_inside a ≡ true → Gives given t m p left
unfolding given_of inside tables_after memory_after
gives-done {left = left} a t' said e q f i = rw (e, q) (record { meaning = ap (done t' left) (sym f); tables-left = refl; memory-left = refl; within = i })

-- what gives the same
pub gives-as : {d d' : Given} {t : Tables} {m left : List ℕ} {p : Performed} → d ≡ d' → Gives d' t m p left → Gives d t m p left
gives-as e g = rw e g

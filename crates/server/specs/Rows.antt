-- The number of what is taken, and the length of a message that is not dropped. Assumes nothing.
use Rattle.std.specs.Prelude.{◌≡◌, refl, ℕ, ◌≤◌, false, not, ◌||◌, List, length, ltb, Result, Ok, Err}
use Rattle.std.proofs.Common.{sym, ap, ◌∙◌, ltb-false}
use Rattle.lists.specs.Truth.{neither-holds}
use Rattle.records.specs.declared.Tables.{Tables}
use Rattle.chain.specs.Header.{starts_smb, is_reply, dropped}
use Rattle.message.specs.Message.{Ran, Taken, not_taken, replied}
use Rattle.server.specs.declared.call.CallRefusal.{CallRefusal}
use Rattle.server.specs.declared.call.Taken.{Taken as Returned}
use Rattle.server.specs.TakenOf.{row_number, number_in, taken_of}

-- the number that the call gives back
pub number-taken : (r : Result Returned CallRefusal) (t : Tables) (memory room : List ℕ) → (taken_of r t memory room).number ≡ number_in r
unfolding taken_of not_taken
number-taken (Ok r) t memory room = refl
number-taken (Err why) t memory room = refl

-- a refusal by name, whatever the tables, the file memory and the room
pub refusal-taken : (r : Result Returned CallRefusal) (why : CallRefusal) (t : Tables) (memory room : List ℕ) → r ≡ Err why
    → taken_of r t memory room ≡ not_taken (row_number why) t memory room
unfolding taken_of
refusal-taken r why t memory room e = rw e

-- a message answered is number 0
pub answered-number : (r : Result Returned CallRefusal) (t : Tables) (s memory room room' : List ℕ) (whole : Ran)
    → taken_of r t memory room' ≡ replied s room whole → number_in r ≡ 0
unfolding replied
answered-number r t s memory room room' whole e = sym (number-taken r t memory room') ∙ ap (λ (x : Taken). x.number) e

-- a message that is not dropped is neither too short nor too long
pub kept-length : (s : List ℕ) → dropped s ≡ false → (35 ≤ length s) × (length s ≤ 8192)
unfolding dropped
kept-length s e =
    let a = neither-holds (ltb (length s) 35) (ltb 8192 (length s) || (not (starts_smb s) || is_reply s)) e in
    let b = neither-holds (ltb 8192 (length s)) (not (starts_smb s) || is_reply s) a.1 in
    (ltb-false (length s) 35 a.0, ltb-false 8192 (length s) b.0)

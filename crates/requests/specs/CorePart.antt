-- What a counterpart answers, in the core command's reply block (document 02, CR 3): the same things are changed. Assumes nothing.
use Rattle.std.specs.Prelude.{◌≡◌, ℕ, Bool, true, false, cond, List, refl, Ok, Err}
use Rattle.std.proofs.Common.{sym, ap, ◌∙◌}
use Rattle.records.specs.declared.Open.{Open}
use Rattle.records.specs.declared.Tables.{Tables}
use Rattle.message.specs.declared.caller.Caller.{Caller}
use Rattle.message.specs.Command.{Given, refused, done, with_open, core_said, as_core}
use Rattle.message.specs.Given.{Answered, said_of, bytes_inside, given_of, inside, tables_after, memory_after, Gives}
use Rattle.message.specs.declared.answer.Answer.{Answer}
use Rattle.message.specs.declared.answer.Answer.TheVariants.{Locked, LoggedOff, Read, Wrote, Plain, CoreRead, CoreWrote, Opened}
use Rattle.message.specs.declared.refusal.Refusal.{Refusal}
use Rattle.requests.specs.Leaves.{Leaves, performed}
use Rattle.requests.specs.Reach.{NamedOpen, reached, on_reached, with-reached}

unfoldable pub core_answer : Answer → Answer
core_answer Locked = Plain
core_answer LoggedOff = LoggedOff
core_answer (Read place count) = CoreRead place count
core_answer (Wrote count) = CoreWrote count
core_answer Plain = Plain
core_answer (CoreRead place count) = CoreRead place count
core_answer (CoreWrote count) = CoreWrote count
core_answer (Opened fid size access results) = Opened fid size access results

-- it says what the counterpart says, in that block
pub core-answered : (a : Answer) (memory : List ℕ) → said_of (core_answer a) memory ≡ core_said (said_of a memory)
unfolding core_answer said_of core_said
core-answered Locked memory = refl
core-answered LoggedOff memory = refl
core-answered (Read place count) memory = refl
core-answered (Wrote count) memory = refl
core-answered Plain memory = refl
core-answered (CoreRead place count) memory = refl
core-answered (CoreWrote count) memory = refl
core-answered (Opened fid size access results) memory = refl

-- what is refused is refused as the counterpart is
unfoldable pub core_of : Answered → Answered
core_of (Ok a) = Ok (core_answer a)
core_of (Err why) = Err why

-- so what it gives is what the counterpart gives, in that block
pub core-given : (a : Answered) (t : Tables) (memory : List ℕ) → given_of (core_of a) t memory ≡ as_core (given_of a t memory)
unfolding core_of given_of as_core
core-given (Ok a) t memory = ap (done t memory) (core-answered a memory)
core-given (Err why) t memory = refl

-- a READ's bytes lie in the file memory as before
pub core-inside : (a : Answer) → bytes_inside (core_answer a) ≡ bytes_inside a
unfolding core_answer bytes_inside
core-inside Locked = refl
core-inside LoggedOff = refl
core-inside (Read place count) = refl
core-inside (Wrote count) = refl
core-inside Plain = refl
core-inside (CoreRead place count) = refl
core-inside (CoreWrote count) = refl
core-inside (Opened fid size access results) = refl

-- the same tables and file memory are left
core-tables : (d : Given) (t : Tables) → tables_after (as_core d) t ≡ tables_after d t
unfolding as_core tables_after
core-tables (refused why) t = refl
core-tables (done t' memory' said) t = refl

core-memory : (d : Given) (memory : List ℕ) → memory_after (as_core d) memory ≡ memory_after d memory
unfolding as_core memory_after
core-memory (refused why) memory = refl
core-memory (done t' memory' said) memory = refl

-- so what performs the counterpart performs the core command
pub gives-core : {d : Given} {t t' : Tables} {memory left : List ℕ} {a : Answer} → Gives d t memory (performed (Ok a) t') left
    → Gives (as_core d) t memory (performed (Ok (core_answer a)) t') left
unfolding given_of inside as_core
gives-core {d} {t} {t'} {memory} {left} {a} g =
    record {
      meaning = ap as_core g.meaning ∙ ap (done t' left) (sym (core-answered a left));
      tables-left = g.tables-left ∙ sym (core-tables d t);
      memory-left = g.memory-left ∙ sym (core-memory d memory);
      within = core-inside a ∙ g.within;
    }

-- and what refuses it refuses the core command
pub refuses-core : {d : Given} {t t' : Tables} {memory left : List ℕ} {why : Refusal} → Gives d t memory (performed (Err why) t') left
    → Gives (as_core d) t memory (performed (Err why) t') left
unfolding given_of inside as_core
refuses-core {d} {t} {t'} {memory} {left} {why} g =
    record {
      meaning = ap as_core g.meaning;
      tables-left = g.tables-left ∙ sym (core-tables d t);
      memory-left = g.memory-left ∙ sym (core-memory d memory);
      within = g.within;
    }

pub core-gives : (a : Answered) {d : Given} {t t' : Tables} {memory left : List ℕ} → Gives d t memory (performed a t') left
    → Gives (as_core d) t memory (performed (core_of a) t') left
unfolding core_of
core-gives (Ok a) g = gives-core g
core-gives (Err why) g = refuses-core g

pub leaves-core : {given : List ℕ → Given} {t t' : Tables} {a : Answered} → Leaves given t (performed a t')
    → Leaves (λ m. as_core (given m)) t (performed (core_of a) t')
leaves-core {a = a} g m = core-gives a (g m)

-- what a command gives and answers, in the reply block that it has
unfoldable pub in_form : Bool → Given → Given
in_form core d = cond core (as_core d) d

unfoldable pub formed : Bool → Answer → Answer
formed core a = cond core (core_answer a) a

pub gives-formed : (core : Bool) {d : Given} {t t' : Tables} {memory left : List ℕ} {a : Answer} → Gives d t memory (performed (Ok a) t') left
    → Gives (in_form core d) t memory (performed (Ok (formed core a)) t') left
unfolding in_form formed
gives-formed true g = gives-core g
gives-formed false g = g

pub refuses-formed : (core : Bool) {d : Given} {t t' : Tables} {memory left : List ℕ} {why : Refusal} → Gives d t memory (performed (Err why) t') left
    → Gives (in_form core d) t memory (performed (Err why) t') left
unfolding in_form
refuses-formed true g = refuses-core g
refuses-formed false g = g

-- a core command on an open
core-reached : (y : NamedOpen) (next : Open → Given) → as_core (on_reached y next) ≡ on_reached y (λ o. as_core (next o))
unfolding as_core on_reached
core-reached (Ok p) next = refl
core-reached (Err why) next = refl

pub core-open : (c : Caller) (t : Tables) (fid : ℕ) (next : Open → Given) → as_core (with_open c t fid next) ≡ with_open c t fid (λ o. as_core (next o))
core-open c t fid next =
    ap as_core (with-reached c t fid next) ∙ core-reached (reached c t fid) next ∙ sym (with-reached c t fid (λ o. as_core (next o)))

-- What a granted READ leaves in the tables (document 02, CR 8): "Each open remembers the number at its last granted read." Nothing else is changed. Assumes nothing.
use Rattle.std.specs.Prelude.{◌≡◌, refl, ℕ}
use Rattle.std.proofs.Common.{sym, ap, ◌∙◌, eq-eqb, ne_eqb}
use mathlib.Core.List.{List, map, Memᴰ as In}
use Rattle.lists.specs.Members.{in_map}
use Rattle.records.specs.declared.Open.{Open}
use Rattle.records.specs.declared.Tables.{Tables}
use Rattle.records.specs.Change.{changes_of, open_after, noting, with_read}
use Rattle.records.specs.Held.{opens_of, with_opens}
use Rattle.invariants.specs.Shaped.{opens-with}
use Rattle.message.specs.Message.{Taken}

-- the tables and the file memory after a READ through an open
pub record OnlyRemembers (t : Tables) (through : Open) (memory : List ℕ) (call : Taken) : Type 0 where
  -- the open has read, and remembers the change number that its file has
  pub remembers : In (open_after through (changes_of t through.file)) (opens_of call.tables)
  -- every other open is as it was, and none is new: one for each, in their order
  pub other-opens : (o : Open) → In o (opens_of t) → (o.fid ≡ through.fid → ⊥) → In o (opens_of call.tables)
  pub opens : opens_of call.tables ≡ map (noting through.fid (changes_of t through.file)) (opens_of t)
  -- nothing else is changed: no other table, and no file byte
  pub other-tables : call.tables ≡ with_opens t (opens_of call.tables)
  pub same_memory : call.memory ≡ memory

pub only-remembers : (t : Tables) (through : Open) (memory : List ℕ) (call : Taken) {fid : ℕ} → In through (opens_of t) → through.fid ≡ fid
    → call.tables ≡ with_read t fid (changes_of t through.file) → call.memory ≡ memory → OnlyRemembers t through memory call
unfolding noting
only-remembers t through memory call listed named left same =
    let number = changes_of t through.file in
    let noted = map (noting through.fid number) (opens_of t) in
    let whole : call.tables ≡ with_opens t (map (noting through.fid (changes_of t through.file)) (opens_of t)) = left ∙ ap (λ (f : ℕ). with_read t f number) (sym named) in
    let opens : opens_of call.tables ≡ map (noting through.fid (changes_of t through.file)) (opens_of t) = ap opens_of whole ∙ opens-with t noted in
    record {
      remembers = rw opens (rw (eq-eqb through.fid through.fid refl) at (in_map (noting through.fid number) listed));
      other-opens = λ o m n. rw opens (rw (ne_eqb o.fid through.fid n) at (in_map (noting through.fid number) m));
      opens = opens;
      other-tables = whole ∙ ap (with_opens t) (sym opens);
      same_memory = same;
    }

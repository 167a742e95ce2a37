-- What a LOCKING request leaves in the words of all tables, and its answer. Assumes nothing.
use Rattle.std.specs.Prelude.{◌≡◌, ℕ, false, List, ◌++◌, length, take, drop, Ok, Err}
use Rattle.std.proofs.Math.Path.{refl}
use Rattle.std.proofs.Common.{sym, ap, ◌∙◌, take-append-drop}
use Rattle.locks.specs.Outcome.{Outcome}
use Rattle.locks.specs.declared.types.LockRefusal.TheVariants.{Malformed as BadRanges, NoSuchLock as NoLock, PassesEnd as PastEnd, Conflict as InWay, NoRecord as NoRoom}
use Rattle.locks.specs.declared.types.Locking.{Locking}
use Rattle.locks.specs.Outcome.{is_done}
use Rattle.locks.specs.Changed.{Settles}
use Rattle.tables.specs.Words.{part, tables_of}
use Rattle.tables.specs.PartLaws.{lent}
use Rattle.tables.specs.WholeLaws.{with_lock_array, tables-locks}
use Rattle.message.specs.declared.answer.Answer.TheVariants.{Locked}
use Rattle.message.specs.declared.refusal.Refusal.{Refusal}
use Rattle.message.specs.declared.refusal.Refusal.TheVariants.{NotSentence, NoSuchLock, PassesEnd, LockNotGranted, NoRecord}
use Rattle.message.specs.Command.{refused, locked, with_lock_list, locking_end, locking_after}
use Rattle.message.specs.Given.{Answered, said_of, bytes_inside, Gives}
use Rattle.requests.specs.Leaves.{performed, gives-refused, gives-done}

-- "1/158 no such lock to release; 1/87 lock range passes 2^64; 1/33 lock conflict; 1/8 no lock record free"; "C0000055 for a lock refused" (document 02, CR 7)
unfoldable pub lock_answer : Outcome → Answered
lock_answer (Ok _) = Ok Locked
lock_answer (Err BadRanges) = Err NotSentence
lock_answer (Err NoLock) = Err NoSuchLock
lock_answer (Err PastEnd) = Err PassesEnd
lock_answer (Err (InWay h)) = Err (LockNotGranted h)
lock_answer (Err NoRoom) = Err NoRecord

-- a part put back as it was
lent_same : (w : List ℕ) (from n : ℕ) → lent w from n (part w from n) ≡ w
lent_same w from n = ap (λ (l : List ℕ). take from w ++ l) (take-append-drop n (drop from w)) ∙ take-append-drop from w

module _ (w e m : List ℕ) (l : Locking) (full : length w ≡ 1605) (long : length e ≡ 641) where
  -- a request refused changes no word
  none_left : {why : Outcome} (reason : Refusal) → Settles (part w 707 641) e why l → is_done why ≡ false → locking_after (tables_of w) m l ≡ refused reason
      → Gives (locking_after (tables_of w) m l) (tables_of w) m (performed (Err reason) (tables_of (lent w 707 641 e))) m
  none_left reason s q g =
      let same : lent w 707 641 e ≡ w = ap (lent w 707 641) (s.stands q) ∙ lent_same w 707 641 in
      gives-refused reason g (rw same)

  pub settles-gives : (why : Outcome) → Settles (part w 707 641) e why l
      → Gives (locking_after (tables_of w) m l) (tables_of w) m (performed (lock_answer why) (tables_of (lent w 707 641 e))) m
  unfolding lock_answer locking_after locking_end said_of bytes_inside with_lock_array with_lock_list
  settles-gives (Ok _) s =
      gives-done Locked _ locked (ap (λ (o : Outcome). locking_end o (tables_of w) m l) (sym s.outcome))
      (ap (performed (Ok Locked)) (tables-locks w e full long ∙ rw (s.locks, s.count))) refl refl
  settles-gives (Err BadRanges) s = none_left NotSentence s refl (ap (λ (o : Outcome). locking_end o (tables_of w) m l) (sym s.outcome))
  settles-gives (Err NoLock) s = none_left NoSuchLock s refl (ap (λ (o : Outcome). locking_end o (tables_of w) m l) (sym s.outcome))
  settles-gives (Err PastEnd) s = none_left PassesEnd s refl (ap (λ (o : Outcome). locking_end o (tables_of w) m l) (sym s.outcome))
  settles-gives (Err (InWay h)) s = none_left (LockNotGranted h) s refl (ap (λ (o : Outcome). locking_end o (tables_of w) m l) (sym s.outcome))
  settles-gives (Err NoRoom) s = none_left NoRecord s refl (ap (λ (o : Outcome). locking_end o (tables_of w) m l) (sym s.outcome))

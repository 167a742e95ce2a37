-- The status in the reply to a chain and the reason for it (document 01, "Refusals on the wire": "Order: as written, for the whole of each command with all its
-- ranges, command by command"), said of the call. Assumes nothing.
use Rattle.std.specs.Prelude.{◌≡◌, ℕ, List, [], ◌∷◌}
use Rattle.std.proofs.Math.Path.{ap}
use Rattle.lists.specs.Truth.{not-decided-twice}
use Rattle.records.specs.declared.Tables.{Tables}
use Rattle.chain.specs.declared.block.Body.{Body}
use Rattle.chain.specs.declared.block.Body.TheVariants.{Locking as LockingBody, Read as ReadBody, Write as WriteBody, Close, Logoff, TreeDisconnect, ProcessExit, CoreRead as CoreReadBody, CoreWrite as CoreWriteBody, LockByteRange, UnlockByteRange, Open as OpenBody}
use Rattle.chain.specs.declared.block.Block.{Block}
use Rattle.invariants.specs.BlockParse.{block_at}
use Rattle.invariants.specs.Chained.{Chained, chained-end, chained_more}
use Rattle.message.specs.declared.caller.Caller.{Caller}
use Rattle.message.specs.Refusal.{status, status_of}
use Rattle.message.specs.declared.refusal.Refusal.{Refusal}
use Rattle.message.specs.declared.refusal.Status.{Status}
use Rattle.message.specs.Command.{Said, done}
use Rattle.message.specs.JustOpened.{opened_by, body_meant}
use Rattle.message.specs.Message.{area_of, data_of}
use Rattle.demands.specs.Malformed.{length-area}
use Rattle.demands.specs.OneByOne.{refusal-fails}
use Rattle.invariants.specs.Sound.{Good, keeps-good, perform-keeps}
use Rattle.demands.specs.StatusRead.{succeeded}
use Rattle.demands.specs.LockWords.{never}
use Rattle.demands.specs.CommandReasons.{Reason, Announced}
use Rattle.demands.specs.ReasonCalls.{block-announced}
use Rattle.demands.specs.RefusedCall.{gives}

-- how a chain ends: each command done for its reason on what the last one left, or the first that isn't done refused for its own; "those after it aren't begun".
-- In the first of them FID 0xFFFF means the number before the list (document 02, CR 6).
pub data Ends (c : Caller) (s : List ℕ) : ℕ → List Block → Tables → List ℕ → Status → Type 0 where
  all_done : {just : ℕ} {t : Tables} {memory : List ℕ} → Ends c s just [] t memory (status 0 0)
  done-then : {just : ℕ} {b : Block} {bs : List Block} {t u : Tables} {memory m : List ℕ} {said : Said} {n : Status} → Reason c t (area_of s b) (body_meant just b.body) (status 0 0)
      → gives c s just b t memory ≡ done u m said → Ends c s (opened_by said) bs u m n → Ends c s just (b ∷ bs) t memory n
  stops : {just : ℕ} {b : Block} {bs : List Block} {t : Tables} {memory : List ℕ} {n : Status} → Reason c t (area_of s b) (body_meant just b.body) n → (n ≡ status 0 0 → ⊥)
      → Ends c s just (b ∷ bs) t memory n

-- ---- every block of a chain

-- has a byte area of just its ranges, if it is a LOCKING's
pub data AllAnnounced (s : List ℕ) : List Block → Type 0 where
  none_left : AllAnnounced s []
  next-announced : {b : Block} {bs : List Block} → Announced b.body (area_of s b) → AllAnnounced s bs → AllAnnounced s (b ∷ bs)

-- whatever FID is meant
pub meant-announced : (just : ℕ) (b : Body) (area : List ℕ) → Announced b area → Announced (body_meant just b) area
unfolding body_meant Announced
meant-announced just (LockingBody f) area h = h
meant-announced just (ReadBody f) area h = λ g e. never cc
meant-announced just (WriteBody f) area h = h
meant-announced just (Close fid) area h = h
meant-announced just Logoff area h = h
meant-announced just TreeDisconnect area h = h
meant-announced just ProcessExit area h = h
meant-announced just (CoreReadBody f) area h = h
meant-announced just (CoreWriteBody f) area h = h
meant-announced just (LockByteRange f) area h = h
meant-announced just (UnlockByteRange f) area h = h
meant-announced just (OpenBody f) area h = h

pub chained-announced : {s : List ℕ} {command at : ℕ} {bs : List Block} → Chained s command at bs → AllAnnounced s bs
unfolding block_at
chained-announced (chained-end h l) = next-announced (block-announced h _ (length-area h _)) none_left
chained-announced (chained_more h l r) = next-announced (block-announced h _ (length-area h _)) (chained-announced r)

-- ---- 0/0 is the status of no refusal

pub refusal-not-zero : (why : Refusal) → status_of why ≡ status 0 0 → ⊥
unfolding succeeded status
refusal-not-zero why e = not-decided-twice (succeeded (status_of why)) (ap succeeded e) (refusal-fails why)

-- ---- a chain ends for its reason

module _ (c : Caller) (s : List ℕ) where
  -- a command that is done leaves good tables to the next
  pub left-good : (just : ℕ) (b : Block) (t : Tables) (memory : List ℕ) → Good t → (u : Tables) (m : List ℕ) (said : Said) → gives c s just b t memory ≡ done u m said → Good u
  left-good just b t memory g u m said e = keeps-good (rw e at (perform-keeps t g c memory (body_meant just b.body) (area_of s b) (data_of s b)))

-- ---- said of the call

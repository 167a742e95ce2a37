-- What the host gets beside a Status (document 02, CR 2): a holder beside 1/33, lock conflict, and beside no other. Assumes nothing.
use Rattle.std.specs.Prelude.{◌≡◌, refl, ◌↔◌, ℕ, List, None as Nobody, Some as held_by}
use Rattle.std.proofs.Common.{ap, arith}
use Rattle.records.specs.declared.Tables.{Tables}
use Rattle.locks.specs.declared.types.Holder.{Holder}
use Rattle.message.specs.Refusal.{status, forms_of, status_of, holder_of}
use Rattle.message.specs.declared.refusal.Status.{Status}
use Rattle.message.specs.declared.refusal.Forms.{Forms}
use Rattle.message.specs.HeldBy.{HeldBy}
use Rattle.message.specs.declared.refusal.Refusal.{Refusal}
use Rattle.message.specs.declared.refusal.Refusal.TheVariants.{NotServed, NotSentence, NoSession, NoTree, NoOpen, NoAccess, LockType, NoSuchLock, PassesEnd, LockNotGranted, FileLockConflict, NoRecord, NoSpace, OpenMode, BadAccess, NoSuchFile, BadShare, NoFids}
use Rattle.message.specs.Message.{answered}
use Rattle.claims.specs.StatusList.{Ended, all_done, a-refusal, answered-ended}

-- a Status and what the host gets beside it: a holder beside 1/33, and none beside any other
pub data Beside (n : Status) : HeldBy → Type 0 where
  somebody : {h : Holder} → n ≡ status 1 33 → Beside n (held_by h)
  nobody : (n ≡ status 1 33 → ⊥) → Beside n Nobody

pub somebody-exact : {n : Status} {x : HeldBy} → Beside n x → ((h : Holder) × (x ≡ held_by h)) ↔ (n ≡ status 1 33)
somebody-exact (somebody {h} e) = (λ w. e, λ w. (h, refl))
somebody-exact (nobody n) = (λ w. let e = w.1 in let z : ◌≡◌ {A = ℕ} 0 1 = cc in absurd (omega arith), λ w. absurd (n w))

pub nobody-exact : {n : Status} {x : HeldBy} → Beside n x → (x ≡ Nobody) ↔ (n ≡ status 1 33 → ⊥)
nobody-exact (somebody e) = (λ w. let z : ◌≡◌ {A = ℕ} 0 1 = cc in absurd (omega arith), λ n. absurd (n e))
nobody-exact (nobody n) = (λ w. n, λ w. refl)

-- ---- a refusal, an answer

other-code : (n : Status) → (n.code ≡ 33 → ⊥) → Beside n Nobody
unfolding status
other-code n h = nobody (λ e. h (ap (λ (s : Status). s.code) e))

refusal-beside : (why : Refusal) → Beside (status_of why) (holder_of why)
unfolding forms_of holder_of status
refusal-beside NotServed = other-code _ (λ q. omega arith)
refusal-beside NotSentence = other-code _ (λ q. omega arith)
refusal-beside NoSession = other-code _ (λ q. omega arith)
refusal-beside NoTree = other-code _ (λ q. omega arith)
refusal-beside NoOpen = other-code _ (λ q. omega arith)
refusal-beside NoAccess = other-code _ (λ q. omega arith)
refusal-beside LockType = other-code _ (λ q. omega arith)
refusal-beside NoSuchLock = other-code _ (λ q. omega arith)
refusal-beside PassesEnd = other-code _ (λ q. omega arith)
refusal-beside (LockNotGranted h) = somebody refl
refusal-beside (FileLockConflict h) = somebody refl
refusal-beside NoRecord = other-code _ (λ q. omega arith)
refusal-beside NoSpace = other-code _ (λ q. omega arith)
refusal-beside OpenMode = other-code _ (λ q. omega arith)
refusal-beside BadAccess = other-code _ (λ q. omega arith)
refusal-beside NoSuchFile = other-code _ (λ q. omega arith)
refusal-beside BadShare = other-code _ (λ q. omega arith)
refusal-beside NoFids = other-code _ (λ q. omega arith)

zero-beside : Beside (status 0 0) Nobody
unfolding status
zero-beside = other-code _ (λ q. omega arith)

pub answered-beside : (connection : ℕ) (s : List ℕ) (t : Tables) (memory : List ℕ)
    → Beside (answered connection s t memory).forms.status (answered connection s t memory).holder
answered-beside connection s t memory = ended-beside (answered-ended connection s t memory)
  where
    ended-beside : {f : Forms} {h : HeldBy} → Ended f h → Beside f.status h
    ended-beside all_done = zero-beside
    ended-beside (a-refusal why) = refusal-beside why

-- Demand 2's sentence on a lock alone in its request, said of the call: a message's reply is 35 bytes with Status 1/33 exactly if its first command is
-- refused for conflict, and so for a lone lock exactly if a listed lock of that file overlaps it and the two aren't both shared. Assumes nothing.
use Rattle.std.specs.Prelude.{◌≡◌, ◌↔◌, ℕ, ◌+◌, ◌*◌, ◌/◌, ◌%◌, ◌^◌, ◌≤◌, take, drop, Some, None as End}
use Rattle.std.proofs.Math.Path.{refl, sym, ap}
use Rattle.std.proofs.Common.{◌∙◌, arith, length-append, eq-eqb, ne_eqb}
use mathlib.Core.List.{List, [], ◌∷◌}
use Rattle.std.proofs.Math.ListN.{length}
use Rattle.std.proofs.Math.Dec.{eqb}
use Rattle.records.specs.declared.Open.{Open}
use Rattle.records.specs.Held.{locks_of}
use Rattle.records.specs.declared.Tables.{Tables}
use Rattle.locks.specs.Wire.{range_size}
use Rattle.chain.specs.Layout.{FIRST, byte_area, byte_count, fid_after_andx, lock_type, unlock_count, lock_count}
use Rattle.chain.specs.Grammar.{IsBlock, locking-10, locking-20, read-10, read-12, write-12, write-14, close, logoff, tree-disconnect, process-exit, core-read, core-write, lock-byte-range, unlock-byte-range, open-15}
use Rattle.chain.specs.Chain.{blocks}
use Rattle.chain.specs.declared.block.LockingFields.{LockingFields}
use Rattle.chain.specs.declared.block.Body.TheVariants.{Locking as LockingBody}
use Rattle.chain.specs.declared.block.Block.{Block}
use Rattle.chain.specs.Next.{Next, Follow}
use Rattle.invariants.specs.BlockParse.{body_at, block_at}
use Rattle.invariants.specs.Chained.{Chained, chained-end, chained_more}
use Rattle.message.specs.Caller.{caller_of}
use Rattle.message.specs.Refusal.{status, forms_of, status_of}
use Rattle.message.specs.declared.refusal.Status.{Status}
use Rattle.message.specs.declared.refusal.Refusal.{Refusal}
use Rattle.message.specs.declared.refusal.Refusal.TheVariants.{NotServed, NotSentence, NoSession, NoTree, NoOpen, NoAccess, LockType, NoSuchLock, PassesEnd, LockNotGranted, FileLockConflict, NoRecord, NoSpace, OpenMode, BadAccess, NoSuchFile, BadShare, NoFids}
use Rattle.message.specs.declared.caller.Caller.{Caller}
use Rattle.message.specs.Command.{Said, locked, logged_off, read, wrote, plain, core_read, core_wrote, opened, Given, refused, done, perform}
use Rattle.message.specs.JustOpened.{opened_by, body_meant}
use Rattle.message.specs.Reply.{reply_block, refused_block, reply_size}
use Rattle.message.specs.Message.{area_of, data_of, Ran, after, link_to, after_given, run, Taken}
use Rattle.demands.specs.Malformed.{length-area}
use Rattle.invariants.specs.ReplySize.{length-block}
use Rattle.demands.specs.LoneLock.{held_in, held-status, Conflicts, BarsLock, lone_range, shared_in}
use Rattle.invariants.specs.Fit.{Fit}
use Rattle.demands.specs.StatusRead.{status_read}

-- the call's reply says that the first command is refused for conflict: Status 1/33 in a reply of 35 bytes, the header and one refused block. (Where a later
-- command is refused, the reply has the first one's block too.)
abbrev pub FirstConflict : Taken → Type 0
FirstConflict call = (status_read call.room ≡ status 1 33) × (call.length ≡ 35)

-- "a listed lock of that file overlaps it and the two aren't both shared"
abbrev pub LoneInWay : Tables → Open → LockingFields → List ℕ → Type 0
LoneInWay t o f area = BarsLock t o (locks_of t) (shared_in f) (lone_range f area)

-- "within range": the lone range does not pass 2^64
abbrev pub WithinRange : LockingFields → List ℕ → Type 0
WithinRange f area = (lone_range f area).offset + (lone_range f area).length ≤ 2 ^ 64

-- 1/33 is the status of a conflict and of no other refusal
never : {P : Type 0} (x y : Status) → x ≡ y → (x.code ≡ y.code → ⊥) → P
never x y e n = absurd (n (ap (λ (s : Status). s.code) e))

conflict-status : (why : Refusal) → status_of why ≡ status 1 33 → Conflicts (refused why)
unfolding forms_of status held_in
conflict-status NotServed e = never _ _ e (λ q. omega arith)
conflict-status NotSentence e = never _ _ e (λ q. omega arith)
conflict-status NoSession e = never _ _ e (λ q. omega arith)
conflict-status NoTree e = never _ _ e (λ q. omega arith)
conflict-status NoOpen e = never _ _ e (λ q. omega arith)
conflict-status NoAccess e = never _ _ e (λ q. omega arith)
conflict-status LockType e = never _ _ e (λ q. omega arith)
conflict-status NoSuchLock e = never _ _ e (λ q. omega arith)
conflict-status PassesEnd e = never _ _ e (λ q. omega arith)
conflict-status (LockNotGranted h) e = (h, refl)
conflict-status (FileLockConflict h) e = (h, refl)
conflict-status NoRecord e = never _ _ e (λ q. omega arith)
conflict-status NoSpace e = never _ _ e (λ q. omega arith)
conflict-status OpenMode e = never _ _ e (λ q. omega arith)
conflict-status BadAccess e = never _ _ e (λ q. omega arith)
conflict-status NoSuchFile e = never _ _ e (λ q. omega arith)
conflict-status BadShare e = never _ _ e (λ q. omega arith)
conflict-status NoFids e = never _ _ e (λ q. omega arith)

-- a command that is done is not refused for conflict
done-conflict : (u : Tables) (m : List ℕ) (said : Said) → Conflicts (done u m said) → ⊥
unfolding held_in
done-conflict u m said k = let e = k.1 in let z : ◌≡◌ {A = ℕ} 0 1 = cc in omega arith

-- no reply block is shorter than 3
size-least : (said : Said) → 3 ≤ reply_size said
unfolding reply_size
size-least locked = omega arith
size-least logged_off = omega arith
size-least (read bytes) = omega arith
size-least (wrote count) = omega arith
size-least plain = omega arith
size-least (core_read bytes) = omega arith
size-least (core_wrote count) = omega arith
size-least (opened fid size access results) = omega arith

-- of a command that is done, or refused, and those behind it there is a block
pub given-least : (g : Given) (bs : List Block) (place : ℕ) (t : Tables) (memory : List ℕ) (rest : ℕ → ℕ → Tables → List ℕ → Ran)
    → 3 ≤ length (after_given g bs place t memory rest).blocks
unfolding after_given after refused_block
given-least (refused why) bs place t memory rest = omega arith
given-least (done u m said) bs place t memory rest =
    let b : length (reply_block said place (link_to bs (place + reply_size said))) ≡ reply_size said = length-block said place (link_to bs (place + reply_size said)) in
    let c : 3 ≤ reply_size said = size-least said in
    rw (length-append (reply_block said place (link_to bs (place + reply_size said))) (rest (opened_by said) (place + reply_size said) u m).blocks) (omega arith)

-- commands that end with 1/33 give a block
pub run-least : (c : Caller) (s : List ℕ) (bs : List Block) (just place : ℕ) (t : Tables) (memory : List ℕ) → (run c s just bs place t memory).forms.status ≡ status 1 33
    → 3 ≤ length (run c s just bs place t memory).blocks
unfolding run status
run-least c s [] just place t memory e = never _ _ e (λ q. omega arith)
run-least c s (b ∷ bs) just place t memory e =
    given-least (perform c t memory (body_meant just b.body) (area_of s b) (data_of s b)) bs place t memory (λ j p u m. run c s j bs p u m)

-- the first command is refused for conflict exactly if the status is 1/33 and there is one block: a later one's stands behind the first one's
pub given-conflict : (g : Given) (bs : List Block) (place : ℕ) (t : Tables) (memory : List ℕ) (rest : ℕ → ℕ → Tables → List ℕ → Ran)
    → ((j p : ℕ) (u : Tables) (m : List ℕ) → (rest j p u m).forms.status ≡ status 1 33 → 3 ≤ length (rest j p u m).blocks)
    → (((after_given g bs place t memory rest).forms.status ≡ status 1 33) × (length (after_given g bs place t memory rest).blocks ≡ 3)) ↔ Conflicts g
unfolding after_given after refused_block held_in
given-conflict (refused why) bs place t memory rest h = (
  λ e. conflict-status why e.0,
  λ k. (held-status why k.0 k.1, refl),
)
given-conflict (done u m said) bs place t memory rest h = (
  λ e. let a : 3 ≤ length (rest (opened_by said) (place + reply_size said) u m).blocks = h _ _ u m e.0 in
      let b : length (reply_block said place (link_to bs (place + reply_size said))) ≡ reply_size said = length-block said place (link_to bs (place + reply_size said)) in
      let c : 3 ≤ reply_size said = size-least said in
      let d : length (reply_block said place (link_to bs (place + reply_size said))) + length (rest (opened_by said) (place + reply_size said) u m).blocks ≡ 3 =
      sym (length-append (reply_block said place (link_to bs (place + reply_size said))) (rest (opened_by said) (place + reply_size said) u m).blocks) ∙ e.1 in
      absurd (let z : ⊥ = omega arith in z),
  λ k. absurd (done-conflict u m said k),
)

-- the reading's first block: a LOCKING's byte area is just its ranges
area-announced : {s : List ℕ} {at command : ℕ} → IsBlock s at command → (nx : Next) (f : LockingFields) → (block_at s command at nx).body ≡ LockingBody f
    → length (area_of s (block_at s command at nx)) ≡ (f.unlocks + f.locks) * range_size (eqb (f.kind / 16 % 2) 1)
unfolding block_at body_at range_size
area-announced {s} {at} (locking-10 p h) nx f e =
    let k : lock_type s at ≡ f.kind = cc in
    let u : unlock_count s at ≡ f.unlocks = cc in
    let l : lock_count s at ≡ f.locks = cc in
    rw (← k, ← u, ← l, ne_eqb (lock_type s at / 16 % 2) 1 (omega arith)) (length-area (locking-10 p h) nx ∙ h.announced)
area-announced {s} {at} (locking-20 p h) nx f e =
    let k : lock_type s at ≡ f.kind = cc in
    let u : unlock_count s at ≡ f.unlocks = cc in
    let l : lock_count s at ≡ f.locks = cc in
    rw (← k, ← u, ← l, eq-eqb (lock_type s at / 16 % 2) 1 p) (length-area (locking-20 p h) nx ∙ h.announced)
area-announced (read-10 h) nx f e = let z : ◌≡◌ {A = ℕ} 0 1 = cc in absurd (omega arith)
area-announced (read-12 h) nx f e = let z : ◌≡◌ {A = ℕ} 0 1 = cc in absurd (omega arith)
area-announced (write-12 h) nx f e = let z : ◌≡◌ {A = ℕ} 0 1 = cc in absurd (omega arith)
area-announced (write-14 h) nx f e = let z : ◌≡◌ {A = ℕ} 0 1 = cc in absurd (omega arith)
area-announced (close h) nx f e = let z : ◌≡◌ {A = ℕ} 0 1 = cc in absurd (omega arith)
area-announced (logoff h) nx f e = let z : ◌≡◌ {A = ℕ} 0 1 = cc in absurd (omega arith)
area-announced (tree-disconnect h) nx f e = let z : ◌≡◌ {A = ℕ} 0 1 = cc in absurd (omega arith)
area-announced (process-exit h) nx f e = let z : ◌≡◌ {A = ℕ} 0 1 = cc in absurd (omega arith)
area-announced (core-read h) nx f e = let z : ◌≡◌ {A = ℕ} 0 1 = cc in absurd (omega arith)
area-announced (core-write h) nx f e = let z : ◌≡◌ {A = ℕ} 0 1 = cc in absurd (omega arith)
area-announced (lock-byte-range h) nx f e = let z : ◌≡◌ {A = ℕ} 0 1 = cc in absurd (omega arith)
area-announced (unlock-byte-range h) nx f e = let z : ◌≡◌ {A = ℕ} 0 1 = cc in absurd (omega arith)
area-announced (open-15 h) nx f e = let z : ◌≡◌ {A = ℕ} 0 1 = cc in absurd (omega arith)

pub area-first : {s : List ℕ} {at command : ℕ} {all : List Block} → Chained s command at all → (b : Block) (bs : List Block) → all ≡ b ∷ bs → (f : LockingFields) → b.body ≡ LockingBody f
    → length (area_of s b) ≡ (f.unlocks + f.locks) * range_size (eqb (f.kind / 16 % 2) 1)
area-first {s} {at} {command} (chained-end h l) b bs e f body =
    let q : block_at s command at End ≡ b = cc in rw (← q) (area-announced h End f (rw q body))
area-first {s} {at} {command} (chained_more {c = c} {a = a} h l r) b bs e f body =
    let q : block_at s command at (Follow c a) ≡ b = cc in rw (← q) (area-announced h (Follow c a) f (rw q body))

module _ (connection : ℕ) (s : List ℕ) (b : Block) (bs : List Block) (e : blocks s ≡ Some (b ∷ bs)) (t : Tables) (memory room : List ℕ) (fit : Fit s t memory room) where
  -- what the first command gives
  abbrev pub first-given : Given
  first-given = perform (caller_of connection s) t memory b.body (area_of s b) (data_of s b)

  -- and those behind it
  abbrev pub first-ran : Ran
  first-ran = after_given first-given bs FIRST t memory (λ j p u m. run (caller_of connection s) s j bs p u m)
  -- the open o that the command names

-- ---- a message of one command: every reply with 1/33 is 35 bytes long

pub one-length : (g : Given) (place : ℕ) (t : Tables) (memory : List ℕ) (rest : ℕ → ℕ → Tables → List ℕ → Ran) → ((j p : ℕ) (u : Tables) (m : List ℕ) → (rest j p u m).forms.status ≡ status 0 0)
    → (after_given g [] place t memory rest).forms.status ≡ status 1 33 → length (after_given g [] place t memory rest).blocks ≡ 3
unfolding after_given after status refused_block
one-length (refused why) place t memory rest h e = refl
one-length (done u m said) place t memory rest h e = never _ _ (sym (h _ _ u m) ∙ e) (λ q. omega arith)

-- ---- the same of a message's bytes

-- the fields and the byte area of a LOCKING block at 32, where the first block stands
abbrev pub locking_fields : List ℕ → LockingFields
locking_fields s = record { fid = fid_after_andx s FIRST; kind = lock_type s FIRST; unlocks = unlock_count s FIRST; locks = lock_count s FIRST }

abbrev pub locking_area : List ℕ → List ℕ
locking_area s = take (byte_count s FIRST) (drop (byte_area s FIRST) s)

-- the first block of a reading
pub record First (s : List ℕ) (command at : ℕ) (all : List Block) : Type 0 where
  pub block : Block
  pub later : List Block
  pub is-first : all ≡ block ∷ later
  pub stands : block.at ≡ at
  pub holds : block.body ≡ body_at s command at

pub first_block : {s : List ℕ} {command at : ℕ} {all : List Block} → Chained s command at all → First s command at all
unfolding block_at
first_block {s} (chained-end {command} {at} h l) = record { block = block_at s command at End; later = []; is-first = refl; stands = refl; holds = refl }
first_block {s} (chained_more {command} {at} {c} {a} {rest} h l r) =
    record { block = block_at s command at (Follow c a); later = rest; is-first = refl; stands = refl; holds = refl }

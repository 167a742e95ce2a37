-- The list of refusals in both forms, as a whole (document 02, CR 7): "A reader of either form must find the same refusal, the two lock codes being one in the old form: one
-- proof over the whole list." Assumes nothing.
use Rattle.std.specs.Prelude.{◌≡◌, refl, ℕ, ◌+◌, ◌*◌, ◌/◌, ◌%◌, ◌<◌, Bool, true, false, cond, not, ◌&&◌, eqb, ltb, get_or, Option, None, Some, None as Nobody}
use Rattle.std.proofs.Common.{sym, ap, ◌∙◌, arith, eqb-true, eq-eqb, ne_eqb}
use mathlib.Core.List.Memᴰ.{head as first}
use mathlib.Core.List.Memᴰ.{tail as later}
use mathlib.Core.List.{List, [], ◌∷◌, map, Memᴰ as In}
use Rattle.std.proofs.lemmas.Bool.{not-true}
use Rattle.lists.specs.Walk.{all}
use Rattle.lists.specs.Truth.{both_hold, hold-both, test-cases}
use Rattle.lists.specs.PairLaws.{place_in}
use Rattle.records.specs.Empty.{no_lock}
use Rattle.records.specs.declared.Tables.{Tables}
use Rattle.locks.specs.declared.types.Holder.{Holder}
use Rattle.chain.specs.Layout.{header_command, FIRST}
use Rattle.chain.specs.Chain.{blocks}
use Rattle.chain.specs.declared.block.Block.{Block}
use Rattle.message.specs.Caller.{caller_of}
use Rattle.message.specs.declared.caller.Caller.{Caller}
use Rattle.message.specs.Refusal.{status, success, forms_of, holder_of}
use Rattle.message.specs.declared.refusal.Status.{Status}
use Rattle.message.specs.declared.refusal.Forms.{Forms}
use Rattle.message.specs.HeldBy.{HeldBy}
use Rattle.message.specs.declared.refusal.Refusal.{Refusal}
use Rattle.message.specs.declared.refusal.Refusal.TheVariants.{NotServed, NotSentence, NoSession, NoTree, NoOpen, NoAccess, LockType, NoSuchLock, PassesEnd, LockNotGranted, FileLockConflict, NoRecord, NoSpace, OpenMode, BadAccess, NoSuchFile, BadShare, NoFids}
use Rattle.message.specs.Reply.{smb_number}
use Rattle.message.specs.Command.{Given, refused, done, perform}
use Rattle.message.specs.JustOpened.{NOBODY, body_meant}
use Rattle.message.specs.Message.{area_of, data_of, Ran, after, after_given, run, served, only_status, run_chain, answered}
use Rattle.invariants.specs.GivenCases.{cond-case}

-- ---- the list

-- some holder: neither form of a conflict says whose lock is in the way
unfoldable pub some_holder : Holder
some_holder = record { lock = no_lock; place = 0 }

unfoldable pub refusals : List Refusal
refusals =
    NotServed ∷ NotSentence ∷ NoSession ∷ NoTree ∷ NoOpen ∷ NoAccess ∷ LockType ∷ NoSuchLock ∷ PassesEnd ∷ LockNotGranted some_holder ∷ FileLockConflict some_holder ∷ NoRecord ∷ NoSpace ∷ OpenMode
    ∷ BadAccess ∷ NoSuchFile ∷ BadShare ∷ NoFids ∷ []

-- both forms of each refusal
unfoldable pub status_list : List Forms
status_list = map forms_of refusals

-- the row at a place
row : (k : ℕ) → k < 18 → In (get_or status_list k success) status_list
unfolding status_list refusals
row k h = place_in success status_list k h

-- no refusal is left out
pub listed : (why : Refusal) → In (forms_of why) status_list
unfolding status_list refusals forms_of
listed NotServed = row 0 (omega arith)
listed NotSentence = row 1 (omega arith)
listed NoSession = row 2 (omega arith)
listed NoTree = row 3 (omega arith)
listed NoOpen = row 4 (omega arith)
listed NoAccess = row 5 (omega arith)
listed LockType = row 6 (omega arith)
listed NoSuchLock = row 7 (omega arith)
listed PassesEnd = row 8 (omega arith)
listed (LockNotGranted h) = row 9 (omega arith)
listed (FileLockConflict h) = row 10 (omega arith)
listed NoRecord = row 11 (omega arith)
listed NoSpace = row 12 (omega arith)
listed OpenMode = row 13 (omega arith)
listed BadAccess = row 14 (omega arith)
listed NoSuchFile = row 15 (omega arith)
listed BadShare = row 16 (omega arith)
listed NoFids = row 17 (omega arith)

-- ---- a reader of the NT form

-- the class and code beside an NTSTATUS; a number of no row is no status: class 256, which no byte is
unfoldable pub beside_nt : ℕ → List Forms → Status
beside_nt n [] = status 256 n
beside_nt n (f ∷ fs) = cond (eqb n f.nt) f.status (beside_nt n fs)

-- 0 is beside 0/0
unfoldable pub read_nt : ℕ → Status
read_nt n = beside_nt n (success ∷ status_list)

-- "the two lock codes being one in the old form"
unfoldable pub as_one : ℕ → ℕ
as_one nt = cond (eqb nt 0xC0000054) 0xC0000055 nt

-- ---- tests over the whole list

unfoldable pub same_status : Status → Status → Bool
same_status a b = eqb a.class b.class && eqb a.code b.code

pub same-status : (a b : Status) → same_status a b ≡ true → a ≡ b
unfolding same_status
same-status a b e =
    let h = both_hold (eqb a.class b.class) (eqb a.code b.code) e in
    λ i. record { class = eqb-true a.class b.class h.0 i; code = eqb-true a.code b.code h.1 i }

pub status-same : (a b : Status) → a ≡ b → same_status a b ≡ true
unfolding same_status
status-same a b e =
    hold-both (eqb a.class b.class) (eqb a.code b.code) (eq-eqb a.class b.class (ap (λ (s : Status). s.class) e)) (eq-eqb a.code b.code (ap (λ (s : Status). s.code) e))

unfoldable pub alike : Bool → Bool → Bool
alike t u = cond t u (not u)

pub alike_same : (t u : Bool) → alike t u ≡ true → t ≡ u
unfolding alike
alike_same true u e = sym e
alike_same false u e = sym (not-true u e)

-- each row's class is a byte, its code has 16 bits, its NTSTATUS 32, neither form is 0, and the NT form reads back as the old one
unfoldable pub row_test : Forms → Bool
row_test f =
    (ltb f.status.class 256 && (ltb f.status.code 65536 && ltb f.nt 0x100000000))
    && ((not (same_status f.status (status 0 0)) && not (eqb f.nt 0)) && same_status (read_nt f.nt) f.status)

pub rows-tested : all row_test status_list ≡ true
unfolding all status_list refusals forms_of status row_test same_status read_nt beside_nt
rows-tested = refl

-- of each two rows the old forms are equal exactly if the NT forms are, the two lock codes taken as one
unfoldable pub pair_test : Forms → Forms → Bool
pair_test f g = alike (same_status f.status g.status) (eqb (as_one f.nt) (as_one g.nt))

pub pairs-tested : all (λ f. all (pair_test f) status_list) status_list ≡ true
unfolding all status_list refusals forms_of status pair_test alike same_status as_one
pairs-tested = refl

-- ---- what the tests say

-- what is true of every row
pub record RowSays (f : Forms) : Type 0 where
  pub class : f.status.class < 256
  pub code : f.status.code < 65536
  pub nt : f.nt < 0x100000000
  pub old-not-zero : f.status ≡ status 0 0 → ⊥
  pub nt-not-zero : f.nt ≡ 0 → ⊥
  pub reads-back : read_nt f.nt ≡ f.status

-- what a list has beside a number is a row's, or it has none
pub data FoundIn (n : ℕ) (fs : List Forms) (s : Status) : Type 0 where
  at_row : (f : Forms) → In f fs → n ≡ f.nt → f.status ≡ s → FoundIn n fs s
  nowhere : status 256 n ≡ s → FoundIn n fs s

pub found_in : (n : ℕ) (fs : List Forms) (s : Status) → beside_nt n fs ≡ s → FoundIn n fs s
unfolding beside_nt
found_in n [] s e = nowhere e
found_in n (f ∷ fs) s e =
    test-cases (eqb n f.nt) (λ t. at_row f (first refl) (eqb-true n f.nt t) (rw t at e)) (λ t. further (found_in n fs s (rw t at e)))
  where
    further : FoundIn n fs s → FoundIn n (f ∷ fs) s
    further (at_row g i same is) = at_row g (later i) same is
    further (nowhere is) = nowhere is

-- the two lock codes are one, and each other number is itself
pub as_one_lem : (as_one 0xC0000054 ≡ 0xC0000055) × ((n : ℕ) → (n ≡ 0xC0000054 → ⊥) → as_one n ≡ n)
unfolding as_one
as_one_lem = (refl, λ n h. rw (ne_eqb n 0xC0000054 h))

-- the lock codes read as 1/33
pub lock-codes-read : (read_nt 0xC0000054 ≡ status 1 33) × (read_nt 0xC0000055 ≡ status 1 33)
unfolding read_nt beside_nt status_list refusals forms_of
lock-codes-read = (refl, refl)

-- ---- the old form as a number

-- "SMBSTATUS is class, 0, code"
pub smb-bytes : (s : Status) → s.class < 256 → (smb_number s % 256 ≡ s.class) × (smb_number s / 256 % 256 ≡ 0) × (smb_number s / 65536 ≡ s.code)
unfolding smb_number
smb-bytes s small =
    let half : (s.class + 65536 * s.code) / 256 ≡ 256 * s.code = omega arith in
    let low : 256 * s.code % 256 ≡ 0 = omega arith in
    (omega arith, ap (λ (n : ℕ). n % 256) half ∙ low, omega arith)

-- ---- how a message ends

-- with success and nobody's lock, or with a refusal: a row of the list, and the holder that it names
pub data Ended : Forms → HeldBy → Type 0 where
  all_done : Ended success Nobody
  a-refusal : (why : Refusal) → Ended (forms_of why) (holder_of why)

abbrev pub RanEnded : Ran → Type 0
RanEnded r = Ended r.forms r.holder

given-ended : (g : Given) (bs : List Block) (place : ℕ) (t : Tables) (memory : List ℕ) (rest : ℕ → ℕ → Tables → List ℕ → Ran)
    → ((j p : ℕ) (u : Tables) (m : List ℕ) → RanEnded (rest j p u m)) → RanEnded (after_given g bs place t memory rest)
unfolding after_given after
given-ended (refused why) bs place t memory rest f = a-refusal why
given-ended (done u m said) bs place t memory rest f = f _ _ u m

run-ended : (c : Caller) (s : List ℕ) (just : ℕ) (bs : List Block) (place : ℕ) (t : Tables) (memory : List ℕ) → RanEnded (run c s just bs place t memory)
unfolding run
run-ended c s just [] place t memory = all_done
run-ended c s just (b ∷ bs) place t memory =
    given-ended (perform c t memory (body_meant just b.body) (area_of s b) (data_of s b)) bs place t memory _ (λ j p u m. run-ended c s j bs p u m)

chain-ended : (c : Caller) (s : List ℕ) (o : Option (List Block)) (t : Tables) (memory : List ℕ) → RanEnded (run_chain c s o t memory)
unfolding run_chain only_status holder_of
chain-ended c s None t memory = a-refusal NotSentence
chain-ended c s (Some bs) t memory = run-ended c s NOBODY bs FIRST t memory

pub answered-ended : (connection : ℕ) (s : List ℕ) (t : Tables) (memory : List ℕ) → Ended (answered connection s t memory).forms (answered connection s t memory).holder
unfolding answered only_status holder_of
answered-ended connection s t memory =
    cond-case RanEnded (served (header_command s)) (run_chain (caller_of connection s) s (blocks s) t memory) (only_status (forms_of NotServed) t memory)
    (λ _. chain-ended (caller_of connection s) s (blocks s) t memory) (λ _. a-refusal NotServed)

-- each form fits its place and reads back, and one is 0 exactly if the other is
pub record FormsSay (f : Forms) : Type 0 where
  pub class : f.status.class < 256
  pub code : f.status.code < 65536
  pub nt : f.nt < 0x100000000
  pub reads-back : read_nt f.nt ≡ f.status
  pub zero-old : f.status ≡ status 0 0 → f ≡ success
  pub zero-nt : f.nt ≡ 0 → f ≡ success

pub zero-read : read_nt 0 ≡ status 0 0
unfolding read_nt beside_nt status_list refusals forms_of status
zero-read = refl

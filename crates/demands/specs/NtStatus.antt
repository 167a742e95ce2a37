-- The Status of a message in both forms (document 02, CR 7): what a reply with the bit carries, and a message with the bit beside the same message without it. Assumes nothing.
use Rattle.std.specs.Prelude.{◌≡◌, ℕ, ◌+◌, ◌≤◌, true, List, length, drop}
use Rattle.std.proofs.Common.{sym, ap, ◌∙◌, arith}
use Rattle.std.proofs.Math.ListN.{take}
use Rattle.lists.specs.Put.{put}
use Rattle.wire.specs.LittleEndian.{byte_at, le16_at, le32_at}
use Rattle.records.specs.declared.Tables.{Tables}
use Rattle.chain.specs.Layout.{block_end}
use Rattle.chain.specs.Grammar.{Span, Reading}
use Rattle.chain.specs.Header.{starts_smb, is_reply, dropped}
use Rattle.invariants.specs.BlockParse.{block_inside}
use Rattle.invariants.specs.Fit.{Fit}
use Rattle.readings.specs.FreeBytes.{AllStand}
use Rattle.readings.specs.MovedBytes.{part_same}
use Rattle.message.specs.Refusal.{status, forms_of}
use Rattle.message.specs.declared.refusal.Status.{Status}
use Rattle.message.specs.declared.refusal.Forms.{Forms}
use Rattle.message.specs.HeldBy.{HeldBy}
use Rattle.message.specs.declared.refusal.Refusal.TheVariants.{NotServed, NotSentence, NoSession, NoTree, NoOpen, NoAccess, LockType, NoSuchLock, PassesEnd, LockNotGranted, FileLockConflict, NoRecord, NoSpace, OpenMode, BadAccess, NoSuchFile, BadShare, NoFids}
use Rattle.message.specs.Reply.{two, four, nt_bit, status_number, reply_header}
use Rattle.message.specs.Message.{Ran, answered, reply_of, Taken, replied, take-message}
use Rattle.claims.specs.YesOrNo.{header01, replied_before}
use Rattle.claims.specs.BeforeHolder.{blank, ran_without}
use Rattle.claims.specs.StatusList.{Ended, all_done, a-refusal, FormsSay}
use Rattle.demands.specs.StatusRead.{status_read}
use Rattle.demands.specs.Returned.{two_back}
use Rattle.demands.specs.FreeBytesMessage.{HeaderBut11}
use Rattle.demands.specs.Calls.{status-number-call}
use Rattle.demands.specs.CoreMoved.{stands-in}

-- ---- what the reply carries

-- document 02's list, class and code and the NTSTATUS beside it: "00160002 (2/22), 00010002 (2/1), 005B0002, 00050002, C0000008 (1/6), C0000022 (1/5), C00000BB, C000007E, C000000D (1/87), C0000055 for a lock
-- refused, C0000054 for a read or write refused, C0000205, C000007F. CR 6 adds 000C0001 (1/12), C000000F (1/2), C0000043 (1/32), C000011F (1/4)"; those without class and code are, in
-- document 01's order, 2/91, 2/5, 2/65535, 1/158, 1/33, 1/8 and 3/39
pub data NtBeside : Status → ℕ → Type 0 where
  done-forms : NtBeside (status 0 0) 0x00000000
  not-served-forms : NtBeside (status 2 22) 0x00160002
  not-sentence-forms : NtBeside (status 2 1) 0x00010002
  no-session-forms : NtBeside (status 2 91) 0x005B0002
  no-tree-forms : NtBeside (status 2 5) 0x00050002
  no-open-forms : NtBeside (status 1 6) 0xC0000008
  access-forms : NtBeside (status 1 5) 0xC0000022
  type-or-mode-forms : NtBeside (status 2 65535) 0xC00000BB
  no-such-lock-forms : NtBeside (status 1 158) 0xC000007E
  passes-end-forms : NtBeside (status 1 87) 0xC000000D
  lock-forms : NtBeside (status 1 33) 0xC0000055
  transfer-forms : NtBeside (status 1 33) 0xC0000054
  no-record-forms : NtBeside (status 1 8) 0xC0000205
  no-space-forms : NtBeside (status 3 39) 0xC000007F
  bad-access-forms : NtBeside (status 1 12) 0x000C0001
  no-such-file-forms : NtBeside (status 1 2) 0xC000000F
  bad-share-forms : NtBeside (status 1 32) 0xC0000043
  no-fids-forms : NtBeside (status 1 4) 0xC000011F

pub listed-beside : {f : Forms} {h : HeldBy} → Ended f h → NtBeside f.status f.nt
unfolding forms_of status
listed-beside all_done = done-forms
listed-beside (a-refusal NotServed) = not-served-forms
listed-beside (a-refusal NotSentence) = not-sentence-forms
listed-beside (a-refusal NoSession) = no-session-forms
listed-beside (a-refusal NoTree) = no-tree-forms
listed-beside (a-refusal NoOpen) = no-open-forms
listed-beside (a-refusal NoAccess) = access-forms
listed-beside (a-refusal LockType) = type-or-mode-forms
listed-beside (a-refusal NoSuchLock) = no-such-lock-forms
listed-beside (a-refusal PassesEnd) = passes-end-forms
listed-beside (a-refusal (LockNotGranted h)) = lock-forms
listed-beside (a-refusal (FileLockConflict h)) = transfer-forms
listed-beside (a-refusal NoRecord) = no-record-forms
listed-beside (a-refusal NoSpace) = no-space-forms
listed-beside (a-refusal OpenMode) = type-or-mode-forms
listed-beside (a-refusal BadAccess) = bad-access-forms
listed-beside (a-refusal NoSuchFile) = no-such-file-forms
listed-beside (a-refusal BadShare) = bad-share-forms
listed-beside (a-refusal NoFids) = no-fids-forms

module _ (connection : ℕ) (s : List ℕ) (t : Tables) (memory room : List ℕ) (fit : Fit s t memory room) where
  abbrev pub call : Taken
  call = take-message connection s t memory room

  -- what stands at 5 with the bit
  pub nt-given : nt_bit s ≡ true → le32_at call.room 5 ≡ (answered connection s t memory).forms.nt
  unfolding status_number
  nt-given asked = status-number-call connection s t memory room fit ∙ rw asked

-- ---- the same message in the other form

-- a message of the same length, with the same bytes but for that at 11, the upper byte of Flags2
pub record ButByte11 (s t : List ℕ) : Type 0 where
  pub same_length : length t ≡ length s
  pub same : (k : ℕ) → (k ≡ 11 → ⊥) → byte_at t k ≡ byte_at s k

module _ (s t : List ℕ) (but : ButByte11 s t) where
  pub sender : HeaderBut11 s t
  sender = record { same = λ k _. but.same k }

  -- the blocks of a reading stand behind the header, so they stand in the other as well
  pub all-stand : {spans : List Span} → Reading s spans → AllStand s t spans
  all-stand r x i =
      let w = stands-in r (omega arith) x i in
      let low = w.behind in
      let inside : block_end s x.place ≤ length s = block_inside w.is_block in
      let size = w.so-long in
      let n = but.same_length in
      record { same = λ k l _. but.same k (λ e. omega arith); inside = omega arith }

-- the other way round
pub back : {s t : List ℕ} → ButByte11 s t → ButByte11 t s
back but = record { same_length = sym but.same_length; same = λ k n. sym (but.same k n) }

module _ (connection : ℕ) (s t : List ℕ) (but : ButByte11 s t) (u : Tables) (memory : List ℕ) where
  pub dropped-alike : dropped t ≡ dropped s
  unfolding dropped starts_smb is_reply
  dropped-alike =
      rw (
        but.same_length,
        but.same 0 (λ e. omega arith),
        but.same 1 (λ e. omega arith),
        but.same 2 (λ e. omega arith),
        but.same 3 (λ e. omega arith),
        but.same 9 (λ e. omega arith),
      )

  -- the reply's bytes too, but for Status and the bit
  pub room-alike : 35 ≤ length s → (room : List ℕ) (r : Ran) → blank (replied t room r).room ≡ blank (replied s room r).room
  unfolding blank replied reply_of reply_header two four put
  room-alike long room r =
      let n = but.same_length in
      let end : take 8 (drop 24 t) ≡ take 8 (drop 24 s) = part_same s t 24 24 8 (omega arith) (omega arith) (λ k h. but.same (24 + k) (λ e. omega arith)) in
      rw (
        but.same 4 (λ e. omega arith),
        but.same 9 (λ e. omega arith),
        but.same 10 (λ e. omega arith),
        but.same 12 (λ e. omega arith),
        but.same 13 (λ e. omega arith),
        end,
      )

-- what two calls give that differ in the form of the Status alone
pub record SameButForm (one other : Taken) : Type 0 where
  pub same_number : other.number ≡ one.number
  pub same_length : other.length ≡ one.length
  pub same-holder : other.holder ≡ one.holder
  pub same_tables : other.tables ≡ one.tables
  pub same_memory : other.memory ≡ one.memory
  pub same-status : status_read other.room ≡ status_read one.room
  pub same-room : blank other.room ≡ blank one.room

-- ---- "refused (Status not 0)" in either form

-- ---- Status as before

-- in document 01's header a reader finds class and code
pub before-read : (s room : List ℕ) (r : Ran) → FormsSay r.forms → status_read (replied_before s room (ran_without r)).room ≡ r.forms.status
unfolding status_read replied_before ran_without header01 two put nt_bit le16_at status
before-read s room r says =
    ap (λ (n : ℕ). record { class = r.forms.status.class; code = n }) (two_back r.forms.status.code says.code)

-- Document 02, CR 3: "a data block not marked 0x01 or whose lengths disagree is 2/1". The data block of a core WRITE: its mark 0x01, its length and the data; the
-- lengths are the block's count, the data block's length and ByteCount less 3. Assumes nothing.
use Rattle.std.specs.Prelude.{◌≡◌, ℕ, ◌+◌, true, List, None as Nobody}
use Rattle.std.proofs.Common.{arith}
use Rattle.records.specs.declared.Tables.{Tables}
use Rattle.chain.specs.Layout.{LOCKING, CORE-WRITE, header_command, FIRST, byte_count, andx_command, andx_offset, core_count, data_mark, marked_length}
use Rattle.chain.specs.Grammar.{IsBlock, MarkedData, locking-andx, Span, ReadingFrom, plain_end, andx-end, andx-next}
use Rattle.invariants.specs.BlockTests.{fits, fits-complete, core-write-exact}
use Rattle.invariants.specs.BlockParse.{plain-not-andx}
use Rattle.message.specs.Refusal.{status}
use Rattle.message.specs.Message.{served, Taken}
use Rattle.demands.specs.StatusRead.{status_read}
use Rattle.demands.specs.RefusedCall.{Untouched}
use Rattle.demands.specs.ReplyBytes.{PlainBlock}

-- ---- the plain words

-- "a data block not marked 0x01 or whose lengths disagree", of the core WRITE block at a place
pub data BadDataBlock (s : List ℕ) (at : ℕ) : Type 0 where
  not-marked : (data_mark s at ≡ 0x01 → ⊥) → BadDataBlock s at
  other_length : (marked_length s at ≡ core_count s at → ⊥) → BadDataBlock s at
  other-bytes : (byte_count s at ≡ 3 + core_count s at → ⊥) → BadDataBlock s at

-- a message with such a block: alone, or behind a LOCKING
pub data BadCoreWrite (s : List ℕ) : Type 0 where
  alone : header_command s ≡ CORE-WRITE → BadDataBlock s FIRST → BadCoreWrite s
  behind-locking : header_command s ≡ LOCKING → andx_command s FIRST ≡ CORE-WRITE → BadDataBlock s (andx_offset s FIRST) → BadCoreWrite s

-- "Answered as malformed: 0, Status 2/1": no table and no file byte is changed, the reply is the header and one refused block (WordCount 0, ByteCount 0), and
-- there is no holder
pub record AnsweredMalformed (t : Tables) (memory : List ℕ) (call : Taken) : Type 0 where
  pub number : call.number ≡ 0
  pub status-given : status_read call.room ≡ status 2 1
  pub untouched : Untouched t memory call
  pub one_block : call.length ≡ 35
  pub its-bytes : PlainBlock call.room
  pub nobody : call.holder ≡ Nobody

-- ---- it is no sentence

-- a core WRITE block of the table has the one data block that it may have
pub marked-block : {s : List ℕ} {at : ℕ} → IsBlock s at CORE-WRITE → MarkedData s at
unfolding fits
marked-block {s} {at} h = (core-write-exact s at).0 (fits-complete s at h)

pub bad-no-block : {s : List ℕ} {at : ℕ} → BadDataBlock s at → IsBlock s at CORE-WRITE → ⊥
bad-no-block (not-marked n) h = n (marked-block h).marked
bad-no-block (other_length n) h = n (marked-block h).agreed
bad-no-block (other-bytes n) h = n (marked-block h).filled

-- a reading begins with a block of the table, and with AndX words that do not end it goes on with one
pub reading-block : {s : List ℕ} {command at : ℕ} {spans : List Span} → ReadingFrom s command at spans → IsBlock s at command
reading-block (plain_end h p) = h
reading-block (andx-end h a e) = h
reading-block (andx-next h m g r) = h

pub second_block : {s : List ℕ} {command at : ℕ} {spans : List Span} → ReadingFrom s command at spans → command ≡ LOCKING → andx_command s at ≡ CORE-WRITE
    → IsBlock s (andx_offset s at) CORE-WRITE
second_block (plain_end h p) e c = absurd (plain-not-andx p (rw e locking-andx))
second_block (andx-end h a f) e c = absurd (omega arith)
second_block (andx-next h m g r) e c = rw (← c) (reading-block r)

-- ---- so it is 2/1

pub bad-served : {s : List ℕ} → BadCoreWrite s → served (header_command s) ≡ true
unfolding served
bad-served (alone e bad) = rw e
bad-served (behind-locking e c bad) = rw e

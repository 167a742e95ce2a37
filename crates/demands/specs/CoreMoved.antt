-- "Sent one to a message" (document 01): the message that a core READ or WRITE of a chain makes of its own has at 32 the fields and the data that the chain has at
-- the block's place. So what is said of one alone, a WRITE's count 0 among it, is known of one behind a LOCKING from the chain's bytes. Assumes nothing.
use Rattle.std.specs.Prelude.{◌≡◌, refl, ℕ, ◌≤◌, drop}
use Rattle.std.proofs.Common.{sym, ap, ◌∙◌, arith}
use mathlib.Core.List.Memᴰ.{head as first}
use mathlib.Core.List.Memᴰ.{tail as later}
use mathlib.Core.List.{List, Memᴰ as In}
use Rattle.chain.specs.Layout.{CORE-WRITE, header_command, FIRST, first_fid, core_count, core_offset, marked_data}
use Rattle.chain.specs.Grammar.{IsBlock, Span, span_at, ReadingFrom, plain_end, andx-end, andx-next}
use Rattle.chain.specs.declared.block.ReadFields.{ReadFields}
use Rattle.chain.specs.declared.block.WriteFields.{WriteFields}
use Rattle.chain.specs.declared.block.Body.TheVariants.{CoreRead, CoreWrite}
use Rattle.invariants.specs.BlockParse.{block_size, body_at}
use Rattle.readings.specs.CoreAlone.{EndsChain, ends_read, ends-write}
use Rattle.readings.specs.Moved.{Moved, moved_body}
use Rattle.readings.proofs.Moved.{moved-block, moved-body}
use Rattle.readings.specs.MovedBytes.{part}
use Rattle.readings.proofs.MovedBytes.{moved-marked-area}
use Rattle.demands.specs.WireFields.{core_data}
use Rattle.demands.specs.DataBlock.{marked-block}
use Rattle.demands.specs.CorePairCalls.{marked-part}

-- a message t has at 32 the core READ or WRITE that s has at a place: its command, FID, count and offset, and a WRITE's data
pub record SameBlock (s : List ℕ) (at : ℕ) (t : List ℕ) (command : ℕ) : Type 0 where
  pub is : header_command t ≡ command
  pub same-fid : first_fid t FIRST ≡ first_fid s at
  pub same_count : core_count t FIRST ≡ core_count s at
  pub same-offset : core_offset t FIRST ≡ core_offset s at
  pub same-data : command ≡ CORE-WRITE → core_data t ≡ part s (marked_data s at) (core_count s at)

-- ---- a block that moved

-- blocks that are the same have the same fields
read-fields : {f g : ReadFields} → CoreRead f ≡ CoreRead g → f ≡ g
read-fields e = cc

write-fields : {f g : WriteFields} → CoreWrite f ≡ CoreWrite g → f ≡ g
write-fields e = cc

pub same_block : {s : List ℕ} {at : ℕ} {t : List ℕ} {command : ℕ} → EndsChain command → IsBlock s at command → Moved s at t FIRST command → header_command t ≡ command
    → SameBlock s at t command
unfolding body_at moved_body
same_block ends_read h m is =
    let f = read-fields (moved-body h m) in
    record {
      is = is;
      same-fid = ap (λ (r : ReadFields). r.fid) f;
      same_count = ap (λ (r : ReadFields). r.max) f;
      same-offset = ap (λ (r : ReadFields). r.offset) f;
      same-data = λ e. absurd (omega arith);
    }
same_block ends-write h m is =
    let f = write-fields (moved-body h m) in
    record {
      is = is;
      same-fid = ap (λ (r : WriteFields). r.fid) f;
      same_count = ap (λ (r : WriteFields). r.count) f;
      same-offset = ap (λ (r : WriteFields). r.offset) f;
      same-data = λ e. sym (marked-part (moved-block h m)) ∙ ap (drop 3) (moved-marked-area m h refl (marked-block h).shape.counted) ∙ marked-part h;
    }

-- ---- of readings

-- a block of a reading is a block of the table, behind the header, and as long as its bytes say
pub record Stands (s : List ℕ) (x : Span) : Type 0 where
  pub is_block : IsBlock s x.place x.command
  pub so-long : x.size ≡ block_size s x.place
  pub behind : 32 ≤ x.place

pub stands-in : {s : List ℕ} {command at : ℕ} {spans : List Span} → ReadingFrom s command at spans → 32 ≤ at → (x : Span) → In x spans → Stands s x
unfolding span_at
stands-in (plain_end h p) low x (first e) = rw e (record { is_block = h; so-long = refl; behind = low })
stands-in (andx-end h a f) low x (first e) = rw e (record { is_block = h; so-long = refl; behind = low })
stands-in (plain_end h p) low x (later i) = elim i [ ]
stands-in (andx-end h a f) low x (later i) = elim i [ ]
stands-in (andx-next h m g r) low x (first e) = rw e (record { is_block = h; so-long = refl; behind = low })
stands-in (andx-next h m g r) low x (later i) = stands-in r (omega arith) x i

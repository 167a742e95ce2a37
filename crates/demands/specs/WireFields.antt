-- The fields of the header and of a message's first block, which stands at 32, where the layout has them, and the step from a reading to the reader's block
-- with these fields. Assumes nothing.
use Rattle.std.specs.Prelude.{◌≡◌, refl, ℕ, ◌+◌, ◌-◌, ◌*◌, ◌/◌, ◌≤◌, ◌<◌, cond, List, [], ◌∷◌, map, drop, eqb, Some, None as End}
use Rattle.std.proofs.Common.{sym, ◌∙◌, arith, length-take, length-drop, length-take-le, take-take, get_or-take, get_or-drop, ext_get_or}
use Rattle.std.proofs.Math.Path.{ap}
use Rattle.std.proofs.Math.ListN.{length, take}
use Rattle.wire.specs.LittleEndian.{byte_at, le16_at}
use Rattle.chain.specs.Layout.{header_command, FIRST, word_count, byte_area, byte_count, fid_after_andx, offset_low, read_max, read_offset_high, data_length, data_offset, write_offset_high, first_fid, core_count, core_offset, marked_data}
use Rattle.chain.specs.Grammar.{Span, Reading}
use Rattle.chain.specs.Chain.{blocks}
use Rattle.chain.specs.declared.block.ReadFields.{ReadFields}
use Rattle.chain.specs.declared.block.WriteFields.{WriteFields}
use Rattle.chain.specs.declared.block.Block.{Block}
use Rattle.invariants.specs.BlockParse.{body_at, block_at}
use Rattle.invariants.specs.ReaderSound.{span_of}
use Rattle.invariants.specs.Chained.{Chained, chained-end, chained_more, read-chained}
use Rattle.readings.specs.ReaderComplete.{reader-complete}
use Rattle.message.specs.Command.{name_asked}
use Rattle.message.specs.Message.{area_of, data_of}
use Rattle.demands.specs.Malformed.{length-area}
use Rattle.demands.specs.LoneCall.{first_block, locking_area}

-- document 02, CR 4: "a request's process is PIDHigh × 65,536 + PIDLow", which stand at 12 and 26
abbrev pub sender_process : List ℕ → ℕ
sender_process s = 65536 * le16_at s 12 + le16_at s 26

-- its upper half: where the message is of bytes, PIDHigh (Processes.antt: `upper-half`)
abbrev pub upper_half : List ℕ → ℕ
upper_half s = sender_process s / 65536

-- READ: "FID 2, offset 4, max 2, .., offset high 4 if 12 words"
abbrev pub read_from : List ℕ → ℕ
read_from s = cond (eqb (word_count s FIRST) 12) (4294967296 * read_offset_high s FIRST + offset_low s FIRST) (offset_low s FIRST)

abbrev pub read_fields : List ℕ → ReadFields
read_fields s = record { fid = fid_after_andx s FIRST; offset = read_from s; max = read_max s FIRST }

-- WRITE: "FID 2, offset 4, .., length 2, data offset 2, offset high 4 if 14"
abbrev pub write_from : List ℕ → ℕ
write_from s = cond (eqb (word_count s FIRST) 14) (4294967296 * write_offset_high s FIRST + offset_low s FIRST) (offset_low s FIRST)

abbrev pub write_fields : List ℕ → WriteFields
write_fields s = record { fid = fid_after_andx s FIRST; offset = write_from s; count = data_length s FIRST; from = data_offset s FIRST }

-- the DataLength bytes of the message from DataOffset on
abbrev pub write_data : List ℕ → List ℕ
write_data s = take (data_length s FIRST) (drop (data_offset s FIRST) s)

-- the core READ and WRITE (document 02, CR 3): FID 2, count 2, offset 4
abbrev pub core_read_fields : List ℕ → ReadFields
core_read_fields s = record { fid = first_fid s FIRST; offset = core_offset s FIRST; max = core_count s FIRST }

abbrev pub core_write_fields : List ℕ → WriteFields
core_write_fields s = record { fid = first_fid s FIRST; offset = core_offset s FIRST; count = core_count s FIRST; from = marked_data s FIRST }

-- the count bytes of the message behind the mark and the length of the data block
abbrev pub core_data : List ℕ → List ℕ
core_data s = take (core_count s FIRST) (drop (marked_data s FIRST) s)

-- OPEN_ANDX (document 02, CR 6): "The byte area is a name .., then one zero byte": its bytes but the last. The other fields are `open_fields` (chain/specs/Parse.antt).
abbrev pub open_name : List ℕ → List ℕ
open_name s = take (byte_count s FIRST - 1) (drop (byte_area s FIRST) s)

-- ---- the reader's first block

pub record FirstBlock (s : List ℕ) (later : List Block) : Type 0 where
  pub block : Block
  pub is_read : blocks s ≡ Some (block ∷ later)
  pub stands : block.at ≡ FIRST
  pub holds : block.body ≡ body_at s (header_command s) FIRST

-- of any reading
pub reading-first : {s : List ℕ} {spans : List Span} → Reading s spans → (later : List Block) × FirstBlock s later
unfolding blocks
reading-first {s} r =
    let a = reader-complete r in
    let q = first_block (read-chained s (header_command s) FIRST a.0 a.1) in
    (q.later, record { block = q.block; is_read = a.1 ∙ ap Some q.is-first; stands = q.stands; holds = q.holds })

none-behind : (later : List Block) → map span_of later ≡ [] → later ≡ []
none-behind [] e = refl
none-behind (b ∷ bs) e = let z : ◌≡◌ {A = ℕ} 0 1 = cc in absurd (omega arith)

-- of a reading of one span: nothing is behind it
pub one-first : {s : List ℕ} {span : Span} → Reading s (span ∷ []) → FirstBlock s []
unfolding blocks
one-first {s} {span} r =
    let a = reader-complete r in
    let q = first_block (read-chained s (header_command s) FIRST a.0 a.1) in
    let all : span_of q.block ∷ map span_of q.later ≡ span ∷ [] = rw q.is-first at a.2 in
    let none_more : map span_of q.later ≡ [] = cc in
    let whole : a.0 ≡ q.block ∷ [] = q.is-first ∙ ap (λ (l : List Block). q.block ∷ l) (none-behind q.later none_more) in
    record { block = q.block; is_read = a.1 ∙ ap Some whole; stands = q.stands; holds = q.holds }

-- a block's byte area is all there
chained-area : {s : List ℕ} {command at : ℕ} {bs : List Block} → Chained s command at bs → length (take (byte_count s at) (drop (byte_area s at) s)) ≡ byte_count s at
unfolding area_of block_at
chained-area (chained-end h l) = length-area h End
chained-area (chained_more h l r) = length-area h End

module _ {s : List ℕ} {later : List Block} (q : FirstBlock s later) where
  -- its fields by the header's command
  pub first_body : (command : ℕ) → header_command s ≡ command → q.block.body ≡ body_at s command FIRST
  first_body command e = q.holds ∙ ap (λ (n : ℕ). body_at s n FIRST) e

  -- its byte area, and a WRITE's data
  pub first-area : area_of s q.block ≡ locking_area s
  unfolding area_of
  first-area = ap (λ (n : ℕ). take (byte_count s n) (drop (byte_area s n) s)) q.stands

  pub first-data : data_of s q.block ≡ write_data s
  unfolding data_of
  first-data = ap (λ (n : ℕ). take (data_length s n) (drop (data_offset s n) s)) q.stands

  -- the name that an OPEN_ANDX asks for
  pub first-name : name_asked (area_of s q.block) ≡ open_name s
  unfolding name_asked blocks
  first-name =
      let long : length (locking_area s) ≡ byte_count s FIRST = chained-area (read-chained s (header_command s) FIRST (q.block ∷ later) q.is_read) in
      rw (first-area, long) (take-take (byte_count s FIRST - 1) (byte_count s FIRST) (drop (byte_area s FIRST) s) (omega arith))

  -- and a core WRITE's, all of which is there
  pub first-core-data : length (drop 3 (area_of s q.block)) ≡ core_count s FIRST → drop 3 (area_of s q.block) ≡ core_data s
  first-core-data n =
      let long : length (drop 3 (locking_area s)) ≡ core_count s FIRST = rw first-area at n in
      let cut = length-take (byte_count s FIRST) (drop (byte_area s FIRST) s) in
      let less = length-drop 3 (locking_area s) in
      let whole = length-drop (byte_area s FIRST) s in
      let end = length-drop (marked_data s FIRST) s in
      let inside : core_count s FIRST ≤ length (drop (marked_data s FIRST) s) = omega arith in
      rw first-area
      (ext_get_or 0 (drop 3 (locking_area s)) (core_data s) (long ∙ sym (length-take-le (core_count s FIRST) (drop (marked_data s FIRST) s) inside))
      (λ i h. let few : 3 + i < byte_count s FIRST = omega arith in
      let few' : i < core_count s FIRST = omega arith in
      let place : byte_area s FIRST + (3 + i) ≡ marked_data s FIRST + i = omega arith in
      get_or-drop 3 (locking_area s) i 0
      ∙ get_or-take (byte_count s FIRST) (drop (byte_area s FIRST) s) (3 + i) 0 few
      ∙ get_or-drop (byte_area s FIRST) s (3 + i) 0
      ∙ ap (byte_at s) place
      ∙ sym (get_or-take (core_count s FIRST) (drop (marked_data s FIRST) s) i 0 few' ∙ get_or-drop (marked_data s FIRST) s i 0)))

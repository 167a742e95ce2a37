-- What stands in the reply room after a reply of one block (document 01, "Reply blocks"): a READ's data and the words for them, a WRITE's count; and the blocks of the
-- core commands (document 02, CR 3, as in source documents 000 and 004) and of OPEN_ANDX (CR 6, as in source document 001). Assumes nothing.
use Rattle.std.specs.Prelude.{◌≡◌, ℕ, ◌+◌, ◌/◌, ◌%◌, ◌≤◌, ◌<◌, take, get_or, replicate, None as no_link}
use Rattle.std.proofs.Common.{sym, ◌∙◌, get_or-append-add}
use Rattle.std.proofs.Math.Path.{ap}
use native.Mathlib.Omega.{arith}
use mathlib.Core.List.{List, [], ◌∷◌, ◌++◌, append_assoc}
use Rattle.std.proofs.Math.ListN.{length, drop}
use Rattle.std.proofs.Math.Seq.{take-append_seam, drop-append-add}
use Rattle.lists.specs.Put.{put}
use Rattle.wire.specs.LittleEndian.{byte_at, le16_at, le32_at}
use Rattle.chain.specs.Layout.{FIRST}
use Rattle.message.specs.Refusal.{success}
use Rattle.message.specs.declared.refusal.Forms.{Forms}
use Rattle.message.specs.Command.{Said, read, wrote, plain, core_read, core_wrote, opened}
use Rattle.message.specs.Reply.{two, four, link_words, reply_header, reply_block, refused_block}
use Rattle.invariants.specs.ReplySize.{length-header}

-- ---- the core commands' blocks, which stand at 32

-- READ: 5 words: count, eight zero bytes; then a data block: 0x01, length, data
pub record CoreReadBlock (bytes room : List ℕ) : Type 0 where
  pub words : byte_at room 32 ≡ 5
  pub count : le16_at room 33 ≡ length bytes
  pub zeros : take 8 (drop 35 room) ≡ replicate 8 0
  pub byte-count : le16_at room 43 ≡ 3 + length bytes
  pub mark : byte_at room 45 ≡ 0x01
  pub data-length : le16_at room 46 ≡ length bytes
  pub the_data : take (length bytes) (drop 48 room) ≡ bytes

-- WRITE: 1 word, the count; no bytes
pub record CoreWriteBlock (count : ℕ) (room : List ℕ) : Type 0 where
  pub words : byte_at room 32 ≡ 1
  pub count-said : le16_at room 33 ≡ count
  pub no_bytes : le16_at room 35 ≡ 0

-- LOCK_BYTE_RANGE and UNLOCK_BYTE_RANGE: no words, no bytes; so is the block of what is refused
pub record PlainBlock (room : List ℕ) : Type 0 where
  pub no_words : byte_at room 32 ≡ 0
  pub no_bytes : le16_at room 33 ≡ 0

-- ---- OPEN_ANDX's, which stands at 32: 15 words: AndX, of which nothing follows; FID; attributes and time; size; access; resource type and pipe status; OpenResults; reserved.
-- No bytes
pub record OpenBlock (fid size access results : ℕ) (room : List ℕ) : Type 0 where
  pub words : byte_at room 32 ≡ 15
  pub none-follows : take 4 (drop 33 room) ≡ 0xFF ∷ 0 ∷ 0 ∷ 0 ∷ []
  pub fid-said : le16_at room 37 ≡ fid
  pub times_zero : take 6 (drop 39 room) ≡ replicate 6 0
  pub size-said : le32_at room 45 ≡ size
  pub access-said : le16_at room 49 ≡ access
  pub type-zero : take 4 (drop 51 room) ≡ replicate 4 0
  pub results-said : le16_at room 55 ≡ results
  pub rest-zero : take 6 (drop 57 room) ≡ replicate 6 0
  pub no_bytes : le16_at room 63 ≡ 0

-- "Blocks stand end to end from 32": a reply of that Status and block, laid over the front of the room, and a byte of the block
module _ (s : List ℕ) (long : 32 ≤ length s) (room : List ℕ) (n : Forms) (block : List ℕ) where
  abbrev behind_all : List ℕ
  behind_all = drop (0 + length (reply_header s n ++ block)) room

  reply-parts : put room 0 (reply_header s n ++ block) ≡ reply_header s n ++ (block ++ behind_all)
  unfolding put
  reply-parts = append_assoc (reply_header s n) block behind_all

  reply-byte : (k : ℕ) → byte_at (put room 0 (reply_header s n ++ block)) (32 + k) ≡ get_or (block ++ behind_all) k 0
  reply-byte k =
      ap (λ (l : List ℕ). byte_at l (32 + k)) reply-parts
      ∙ ap (λ (m : ℕ). byte_at (reply_header s n ++ (block ++ behind_all)) (m + k)) (sym (length-header s n long))
      ∙ get_or-append-add (reply_header s n) (block ++ behind_all) k 0

-- "A refused command or message gives WordCount 0 and ByteCount 0"
pub refused-block : (s : List ℕ) → 32 ≤ length s → (room : List ℕ) (n : Forms) → PlainBlock (put room 0 (reply_header s n ++ refused_block))
unfolding le16_at refused_block
refused-block s long room n =
    let at = reply-byte s long room n refused_block in
    let k : byte_at (put room 0 (reply_header s n ++ refused_block)) 33 ≡ 0 = at 1 in
    let k' : byte_at (put room 0 (reply_header s n ++ refused_block)) 34 ≡ 0 = at 2 in
    record { no_words = at 0; no_bytes = omega arith }

-- ---- done

module _ (s : List ℕ) (long : 32 ≤ length s) (room : List ℕ) (said : Said) where
  -- the block, the reply laid over the front of the room, and what stands in the room behind it
  abbrev pub block : List ℕ
  block = reply_block said FIRST no_link

  abbrev pub answer : List ℕ
  answer = put room 0 (reply_header s success ++ block)

  abbrev pub rest : List ℕ
  rest = drop (0 + length (reply_header s success ++ block)) room

  answer-parts : answer ≡ reply_header s success ++ (block ++ rest)
  answer-parts = reply-parts s long room success block

  -- a byte of the block, and what stands behind some of its bytes
  answer-byte : (k : ℕ) → byte_at answer (32 + k) ≡ get_or (block ++ rest) k 0
  answer-byte k = reply-byte s long room success block k

  answer-behind : (k : ℕ) → drop (32 + k) answer ≡ drop k (block ++ rest)
  answer-behind k =
      ap (drop (32 + k)) answer-parts
      ∙ ap (λ (n : ℕ). drop (n + k) (reply_header s success ++ (block ++ rest))) (sym (length-header s success long))
      ∙ drop-append-add (reply_header s success) (block ++ rest) k

module _ (s : List ℕ) (long : 32 ≤ length s) (room : List ℕ) where
  -- READ: "the bytes are the data", behind the first 27 of the block
  pub read-data : (bytes : List ℕ) → take (length bytes) (drop 59 (answer s long room (read bytes))) ≡ bytes
  unfolding reply_block link_words two
  read-data bytes =
      let d : drop 59 (answer s long room (read bytes)) ≡ bytes ++ rest s long room (read bytes) = answer-behind s long room (read bytes) 27 in
      ap (take (length bytes)) d ∙ take-append_seam bytes (rest s long room (read bytes))

  -- "length, data offset"
  pub read_length : (bytes : List ℕ) → length bytes < 65536 → le16_at (answer s long room (read bytes)) 43 ≡ length bytes
  unfolding le16_at reply_block link_words two
  read_length bytes few =
      let a : byte_at (answer s long room (read bytes)) 43 ≡ length bytes % 256 = answer-byte s long room (read bytes) 11 in
      let b : byte_at (answer s long room (read bytes)) 44 ≡ length bytes / 256 % 256 = answer-byte s long room (read bytes) 12 in
      omega arith

  pub read-offset : (bytes : List ℕ) → le16_at (answer s long room (read bytes)) 45 ≡ 59
  unfolding le16_at reply_block link_words two
  read-offset bytes =
      let a : byte_at (answer s long room (read bytes)) 45 ≡ 59 = answer-byte s long room (read bytes) 13 in
      let b : byte_at (answer s long room (read bytes)) 46 ≡ 0 = answer-byte s long room (read bytes) 14 in
      omega arith

  -- WRITE: "6 words: AndX, count"
  pub write-count : (count : ℕ) → count < 65536 → le16_at (answer s long room (wrote count)) 37 ≡ count
  unfolding le16_at reply_block link_words two
  write-count count few =
      let a : byte_at (answer s long room (wrote count)) 37 ≡ count % 256 = answer-byte s long room (wrote count) 5 in
      let b : byte_at (answer s long room (wrote count)) 38 ≡ count / 256 % 256 = answer-byte s long room (wrote count) 6 in
      omega arith

  -- the core READ
  pub core-read-block : (bytes : List ℕ) → length bytes < 65533 → CoreReadBlock bytes (answer s long room (core_read bytes))
  unfolding le16_at reply_block two
  core-read-block bytes few =
      let at = answer-byte s long room (core_read bytes) in
      let n : byte_at (answer s long room (core_read bytes)) 33 ≡ length bytes % 256 = at 1 in
      let n' : byte_at (answer s long room (core_read bytes)) 34 ≡ length bytes / 256 % 256 = at 2 in
      let k : byte_at (answer s long room (core_read bytes)) 43 ≡ (3 + length bytes) % 256 = at 11 in
      let k' : byte_at (answer s long room (core_read bytes)) 44 ≡ (3 + length bytes) / 256 % 256 = at 12 in
      let l : byte_at (answer s long room (core_read bytes)) 46 ≡ length bytes % 256 = at 14 in
      let l' : byte_at (answer s long room (core_read bytes)) 47 ≡ length bytes / 256 % 256 = at 15 in
      let d : drop 48 (answer s long room (core_read bytes)) ≡ bytes ++ rest s long room (core_read bytes) = answer-behind s long room (core_read bytes) 16 in
      record {
        words = at 0;
        count = omega arith;
        zeros = ap (take 8) (answer-behind s long room (core_read bytes) 3);
        byte-count = omega arith;
        mark = at 13;
        data-length = omega arith;
        the_data = ap (take (length bytes)) d ∙ take-append_seam bytes (rest s long room (core_read bytes));
      }

  -- the core WRITE
  pub core-write-block : (count : ℕ) → count < 65536 → CoreWriteBlock count (answer s long room (core_wrote count))
  unfolding le16_at reply_block two
  core-write-block count few =
      let at = answer-byte s long room (core_wrote count) in
      let n : byte_at (answer s long room (core_wrote count)) 33 ≡ count % 256 = at 1 in
      let n' : byte_at (answer s long room (core_wrote count)) 34 ≡ count / 256 % 256 = at 2 in
      let k : byte_at (answer s long room (core_wrote count)) 35 ≡ 0 = at 3 in
      let k' : byte_at (answer s long room (core_wrote count)) 36 ≡ 0 = at 4 in
      record { words = at 0; count-said = omega arith; no_bytes = omega arith }

  -- the core LOCK and UNLOCK
  pub plain-block : PlainBlock (answer s long room plain)
  unfolding le16_at reply_block
  plain-block =
      let at = answer-byte s long room plain in
      let k : byte_at (answer s long room plain) 33 ≡ 0 = at 1 in
      let k' : byte_at (answer s long room plain) 34 ≡ 0 = at 2 in
      record { no_words = at 0; no_bytes = omega arith }

  -- OPEN_ANDX
  pub open_block : (fid size access results : ℕ) → fid < 65536 → size < 65536 → access < 65536 → results < 65536
      → OpenBlock fid size access results (answer s long room (opened fid size access results))
  unfolding le16_at le32_at reply_block link_words two four
  open_block fid size access results few small low one =
      let said = opened fid size access results in
      let at = answer-byte s long room said in
      let n : byte_at (answer s long room said) 37 ≡ fid % 256 = at 5 in
      let n' : byte_at (answer s long room said) 38 ≡ fid / 256 % 256 = at 6 in
      let k : byte_at (answer s long room said) 45 ≡ size % 256 = at 13 in
      let k' : byte_at (answer s long room said) 46 ≡ size / 256 % 256 = at 14 in
      let l : byte_at (answer s long room said) 47 ≡ size / 65536 % 256 = at 15 in
      let l' : byte_at (answer s long room said) 48 ≡ size / 65536 / 256 % 256 = at 16 in
      let a : byte_at (answer s long room said) 49 ≡ access % 256 = at 17 in
      let a' : byte_at (answer s long room said) 50 ≡ access / 256 % 256 = at 18 in
      let r : byte_at (answer s long room said) 55 ≡ results % 256 = at 23 in
      let r' : byte_at (answer s long room said) 56 ≡ results / 256 % 256 = at 24 in
      let z : byte_at (answer s long room said) 63 ≡ 0 = at 31 in
      let z' : byte_at (answer s long room said) 64 ≡ 0 = at 32 in
      record {
        words = at 0;
        none-follows = ap (take 4) (answer-behind s long room said 1);
        fid-said = omega arith;
        times_zero = ap (take 6) (answer-behind s long room said 7);
        size-said = omega arith;
        access-said = omega arith;
        type-zero = ap (take 4) (answer-behind s long room said 19);
        results-said = omega arith;
        rest-zero = ap (take 6) (answer-behind s long room said 25);
        no_bytes = omega arith;
      }

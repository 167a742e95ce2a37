-- The header of every reply, byte by byte (document 01, "Header"; document 02, CR 7). Assumes nothing.
use Rattle.std.specs.Prelude.{◌≡◌, ℕ, ◌+◌, ◌-◌, ◌*◌, ◌/◌, ◌%◌, ◌≤◌, ◌<◌, false, take, drop, replicate}
use Rattle.std.proofs.Math.Path.{refl, ap}
use Rattle.std.proofs.Common.{◌∙◌, get_or-append-add}
use native.Mathlib.Omega.{arith}
use mathlib.Core.List.{List, ◌∷◌, ◌++◌}
use Rattle.std.proofs.Math.ListN.{length, get_or-append, length-append, length-drop}
use Rattle.std.proofs.Math.Seq.{get_or-take, get_or-drop, length-take-le}
use Rattle.lists.specs.Put.{put}
use Rattle.wire.specs.LittleEndian.{byte_at}
use Rattle.message.specs.declared.refusal.Forms.{Forms}
use Rattle.message.specs.Reply.{two, four, nt_bit, status_number, reply_header}
use Rattle.claims.specs.StatusList.{smb-bytes}

-- "A reply copies Command, PIDHigh, TID, PIDLow, UID and MID; Flags is 0x80 plus the request's 0x08; .. the rest is 0 but for Status", of which the old form has a zero byte at
-- 6; Flags2 is the request's & 0x4001 (docs/DECISIONS.md, 127)
pub record HeaderOf (request : List ℕ) (reply : List ℕ) : Type 0 where
  pub starts : (byte_at reply 0 ≡ 0xFF) × (byte_at reply 1 ≡ 0x53) × (byte_at reply 2 ≡ 0x4D) × (byte_at reply 3 ≡ 0x42)
  pub command : byte_at reply 4 ≡ byte_at request 4
  pub reserved : nt_bit request ≡ false → byte_at reply 6 ≡ 0
  pub flags : byte_at reply 9 ≡ 128 + byte_at request 9 / 8 % 2 * 8
  pub flags2 : (byte_at reply 10 ≡ byte_at request 10 % 2) × (byte_at reply 11 ≡ byte_at request 11 / 64 % 2 * 64)
  pub pid-high : (byte_at reply 12 ≡ byte_at request 12) × (byte_at reply 13 ≡ byte_at request 13)
  pub zeros : take 10 (drop 14 reply) ≡ replicate 10 0
  pub copied : (k : ℕ) → 24 ≤ k → k < 32 → byte_at reply k ≡ byte_at request k

module _ (s : List ℕ) (why : Forms) (blocks room : List ℕ) (long : 35 ≤ length s) (small : why.status.class < 256) where
  abbrev pub given : List ℕ
  given = put room 0 (reply_header s why ++ blocks)

  -- the bytes in front of those that are copied, and those behind them
  abbrev pub front : List ℕ
  front =
      (0xFF ∷ 0x53 ∷ 0x4D ∷ 0x42 ∷ byte_at s 4 ∷ four (status_number s why))
      ++ ((128 + byte_at s 9 / 8 % 2 * 8) ∷ byte_at s 10 % 2 ∷ byte_at s 11 / 64 % 2 * 64 ∷ byte_at s 12 ∷ byte_at s 13 ∷ replicate 10 0)

  abbrev pub rest : List ℕ
  rest = drop (0 + length (reply_header s why ++ blocks)) room

  parts : given ≡ front ++ ((take 8 (drop 24 s) ++ blocks) ++ rest)
  unfolding put reply_header two four
  parts = refl

  last-eight : (k : ℕ) → 24 ≤ k → k < 32 → byte_at given k ≡ byte_at s k
  unfolding two four
  last-eight k low high =
      let i : k ≡ 24 + (k - 24) = omega arith in
      let d : length (drop 24 s) ≡ length s - 24 = length-drop 24 s in
      let n : length (take 8 (drop 24 s)) ≡ 8 = length-take-le 8 (drop 24 s) (omega arith) in
      let m : length (take 8 (drop 24 s) ++ blocks) ≡ length (take 8 (drop 24 s)) + length blocks = length-append (take 8 (drop 24 s)) blocks in
      ap (λ (l : List ℕ). byte_at l k) parts
      ∙ rw i
      (get_or-append-add front ((take 8 (drop 24 s) ++ blocks) ++ rest) (k - 24) 0
      ∙ get_or-append (take 8 (drop 24 s) ++ blocks) rest 0 (k - 24) (omega arith)
      ∙ get_or-append (take 8 (drop 24 s)) blocks 0 (k - 24) (omega arith)
      ∙ get_or-take 8 (drop 24 s) (k - 24) 0 (omega arith)
      ∙ get_or-drop 24 s (k - 24) 0)

  -- "SMBSTATUS is class, 0, code"
  zero-at-6 : nt_bit s ≡ false → byte_at given 6 ≡ 0
  unfolding put reply_header two four status_number
  zero-at-6 clear = rw clear (smb-bytes why.status small).1

  pub header_of : HeaderOf s given
  unfolding put reply_header two four
  header_of =
      record {
        starts = (refl, refl, refl, refl);
        command = refl;
        reserved = zero-at-6;
        flags = refl;
        flags2 = (refl, refl);
        pid-high = (refl, refl);
        zeros = refl;
        copied = last-eight;
      }

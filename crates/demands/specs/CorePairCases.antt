-- The premises of CorePairCalls.antt are possible: of each of the four pairs two messages with equal fields, LOCK_BYTE_RANGE's counterpart in both forms, and a LOCKING
-- with a READ behind it. Each is an instance that the checker computes. Assumes nothing.
use Rattle.std.specs.Prelude.{◌≡◌, refl, ℕ, zero, suc, ◌<◌, true, false, List, [], ◌∷◌, ◌++◌, get_or, replicate, ltb}
use Rattle.std.proofs.Common.{arith, ltb-true}
use Rattle.lists.specs.Truth.{both_hold}
use Rattle.lists.specs.Walk.{all}
use Rattle.wire.specs.LittleEndian.{le32_at}
use Rattle.locks.specs.Wire.{range_size}
use Rattle.chain.specs.Layout.{LOCKING, READ, WRITE, CORE-READ, CORE-WRITE, LOCK_BYTE_RANGE, UNLOCK_BYTE_RANGE, header_command, FIRST, andx_command, andx_offset}
use Rattle.chain.specs.Grammar.{Span, Reading}
use Rattle.chain.specs.Header.{starts_smb, is_reply, dropped}
use Rattle.chain.specs.Parse.{shaped, bare, is_large, locking_fits, read_fits, data_inside, write_fits, core_write_fits, may_follow, link_fits, link_at, answer, parse_locking, parse_read, parse_write, parse_bare, parse_core_write, parse}
use Rattle.chain.specs.Chain.{before, after_block, after_parse, blocks_within, blocks_from, blocks}
use Rattle.invariants.specs.ReaderSound.{span_of, reader-sound}
use Rattle.claims.specs.StreamKept.{Bytes}
use Rattle.message.specs.Caller.{caller_of}
use Rattle.demands.specs.LockEffects.{short-range, long-range}
use Rattle.demands.specs.CorePairCalls.{EqualReadWrite, read-fields, write-fields, EqualFields, read-or-write, lock-fields, unlock-fields, SameLocking}

-- ---- the messages

-- of that command: PIDHigh 1, TID 2, PIDLow 7, UID 3
unfoldable pub sent : ℕ → List ℕ → List ℕ
sent command block =
    (0xFF ∷ 0x53 ∷ 0x4D ∷ 0x42 ∷ command ∷ 0 ∷ 0 ∷ 0 ∷ 0 ∷ 0 ∷ 0 ∷ 0 ∷ 1 ∷ 0 ∷ []) ++ (replicate 10 0 ++ ((2 ∷ 0 ∷ 7 ∷ 0 ∷ 3 ∷ 0 ∷ 0 ∷ 0 ∷ []) ++ block))

-- a core READ of FID 4, 3 bytes from 2 on, and READ_ANDX with the upper half of its offset; AndXCommand is 0xFF
unfoldable pub core_read : List ℕ
core_read = 5 ∷ 4 ∷ 0 ∷ 3 ∷ 0 ∷ 2 ∷ 0 ∷ 0 ∷ 0 ∷ 0 ∷ 0 ∷ 0 ∷ 0 ∷ []

unfoldable pub andx_read : List ℕ
andx_read = 12 ∷ 0xFF ∷ 0 ∷ 0 ∷ 0 ∷ 4 ∷ 0 ∷ 2 ∷ 0 ∷ 0 ∷ 0 ∷ 3 ∷ replicate 15 0

-- a core WRITE of FID 4, BB CC to 2, and WRITE_ANDX, whose data stand at 59
unfoldable pub core_write : List ℕ
core_write = 5 ∷ 4 ∷ 0 ∷ 2 ∷ 0 ∷ 2 ∷ 0 ∷ 0 ∷ 0 ∷ 0 ∷ 0 ∷ 5 ∷ 0 ∷ 1 ∷ 2 ∷ 0 ∷ 0xBB ∷ 0xCC ∷ []

unfoldable pub andx_write : List ℕ
andx_write = (12 ∷ 0xFF ∷ 0 ∷ 0 ∷ 0 ∷ 4 ∷ 0 ∷ 2 ∷ replicate 13 0) ++ (2 ∷ 0 ∷ 59 ∷ 0 ∷ 2 ∷ 0 ∷ 0xBB ∷ 0xCC ∷ [])

-- LOCK_BYTE_RANGE and UNLOCK_BYTE_RANGE of FID 4, 10 bytes from 100 on
unfoldable pub core_bytes : List ℕ
core_bytes = 5 ∷ 4 ∷ 0 ∷ 10 ∷ 0 ∷ 0 ∷ 0 ∷ 100 ∷ 0 ∷ 0 ∷ 0 ∷ 0 ∷ 0 ∷ []

-- LOCKING of FID 4 of that type, so many unlocks and locks, with a command behind it at 61 or none (0xFF), and that one range in so many bytes
unfoldable pub andx_locking : ℕ → ℕ → ℕ → ℕ → ℕ → List ℕ → List ℕ
andx_locking behind kind unlocks locks count range =
    (8 ∷ behind ∷ 0 ∷ 61 ∷ 0 ∷ 4 ∷ 0 ∷ kind ∷ 0 ∷ 0 ∷ 0 ∷ 0 ∷ 0 ∷ unlocks ∷ 0 ∷ locks ∷ 0 ∷ count ∷ 0 ∷ []) ++ range

unfoldable pub short100 : List ℕ
short100 = 7 ∷ 0 ∷ 100 ∷ 0 ∷ 0 ∷ 0 ∷ 10 ∷ 0 ∷ 0 ∷ 0 ∷ []

unfoldable pub long100 : List ℕ
long100 = 7 ∷ 0 ∷ 0x53 ∷ 0x54 ∷ 0 ∷ 0 ∷ 0 ∷ 0 ∷ 100 ∷ 0 ∷ 0 ∷ 0 ∷ 0 ∷ 0 ∷ 0 ∷ 0 ∷ 10 ∷ 0 ∷ 0 ∷ 0 ∷ []

-- ---- the premises

-- two messages of one sender that are not dropped, and the first is of bytes
pub record BothSent (s t : List ℕ) : Type 0 where
  pub kept-one : dropped s ≡ false
  pub kept-other : dropped t ≡ false
  pub sender : caller_of 5 s ≡ caller_of 5 t
  pub of-bytes : Bytes s

-- each one block, of these commands, with equal fields
pub record PairSent (s t : List ℕ) (core other : ℕ) : Type 0 where
  pub both : BothSent s t
  pub is_one : header_command s ≡ core
  pub is-other : header_command t ≡ other
  pub reading-one : (x : Span) × Reading s (x ∷ [])
  pub reading-other : (y : Span) × Reading t (y ∷ [])
  pub equal : EqualFields s t core other

-- bytes, one by one
pub bytes-all : (s : List ℕ) → all (λ x. ltb x 256) s ≡ true → (i : ℕ) → get_or s i 0 < 256
unfolding all
bytes-all [] e i = omega arith
bytes-all (x ∷ xs) e zero = ltb-true x 256 (both_hold (ltb x 256) (all (λ x. ltb x 256) xs) e).0
bytes-all (x ∷ xs) e (suc i) = bytes-all xs (both_hold (ltb x 256) (all (λ x. ltb x 256) xs) e).1 i

pub read-sent : PairSent (sent CORE-READ core_read) (sent READ andx_read) CORE-READ READ
unfolding sent core_read andx_read parse_read parse_bare read_fits dropped starts_smb is_reply caller_of le32_at all blocks blocks_from blocks_within after_parse after_block parse answer link_fits link_at shaped bare span_of
read-sent =
    record {
      both = record { kept-one = refl; kept-other = refl; sender = refl; of-bytes = record { small = bytes-all (sent CORE-READ core_read) refl } };
      is_one = refl;
      is-other = refl;
      reading-one = (record { command = CORE-READ; place = 32; size = 13 }, reader-sound (sent CORE-READ core_read) _ refl);
      reading-other = (record { command = READ; place = 32; size = 27 }, reader-sound (sent READ andx_read) _ refl);
      equal = read-or-write (read-fields refl refl (λ _. refl) refl);
    }

pub write-sent : PairSent (sent CORE-WRITE core_write) (sent WRITE andx_write) CORE-WRITE WRITE
unfolding sent core_write andx_write parse_write parse_core_write write_fits data_inside core_write_fits dropped starts_smb is_reply caller_of le32_at all blocks blocks_from blocks_within after_parse after_block parse answer link_fits link_at shaped span_of
write-sent =
    record {
      both = record { kept-one = refl; kept-other = refl; sender = refl; of-bytes = record { small = bytes-all (sent CORE-WRITE core_write) refl } };
      is_one = refl;
      is-other = refl;
      reading-one = (record { command = CORE-WRITE; place = 32; size = 18 }, reader-sound (sent CORE-WRITE core_write) _ refl);
      reading-other = (record { command = WRITE; place = 32; size = 29 }, reader-sound (sent WRITE andx_write) _ refl);
      equal = read-or-write (write-fields refl refl (λ e. omega arith) refl (λ e. omega arith) refl);
    }

pub lock-sent : PairSent (sent LOCK_BYTE_RANGE core_bytes) (sent LOCKING (andx_locking 0xFF 0 0 1 10 short100)) LOCK_BYTE_RANGE LOCKING
unfolding sent core_bytes andx_locking short100 parse_locking parse_bare locking_fits is_large range_size dropped starts_smb is_reply caller_of le32_at all blocks blocks_from blocks_within after_parse after_block parse answer link_fits link_at shaped bare span_of
lock-sent =
    record {
      both = record { kept-one = refl; kept-other = refl; sender = refl; of-bytes = record { small = bytes-all (sent LOCK_BYTE_RANGE core_bytes) refl } };
      is_one = refl;
      is-other = refl;
      reading-one = (record { command = LOCK_BYTE_RANGE; place = 32; size = 13 }, reader-sound (sent LOCK_BYTE_RANGE core_bytes) _ refl);
      reading-other = (record { command = LOCKING; place = 32; size = 29 }, reader-sound (sent LOCKING (andx_locking 0xFF 0 0 1 10 short100)) _ refl);
      equal = lock-fields refl refl refl refl refl (short-range refl refl refl refl);
    }

-- in the longer form, with a pad that is not 0
pub long-lock-sent : PairSent (sent LOCK_BYTE_RANGE core_bytes) (sent LOCKING (andx_locking 0xFF 0x10 0 1 20 long100)) LOCK_BYTE_RANGE LOCKING
unfolding sent core_bytes andx_locking long100 parse_locking parse_bare locking_fits is_large range_size dropped starts_smb is_reply caller_of le32_at all blocks blocks_from blocks_within after_parse after_block parse answer link_fits link_at shaped bare span_of
long-lock-sent =
    record {
      both = record { kept-one = refl; kept-other = refl; sender = refl; of-bytes = record { small = bytes-all (sent LOCK_BYTE_RANGE core_bytes) refl } };
      is_one = refl;
      is-other = refl;
      reading-one = (record { command = LOCK_BYTE_RANGE; place = 32; size = 13 }, reader-sound (sent LOCK_BYTE_RANGE core_bytes) _ refl);
      reading-other = (record { command = LOCKING; place = 32; size = 39 }, reader-sound (sent LOCKING (andx_locking 0xFF 0x10 0 1 20 long100)) _ refl);
      equal = lock-fields refl refl refl refl refl (long-range refl refl refl refl);
    }

-- of the shared type
pub unlock-sent : PairSent (sent UNLOCK_BYTE_RANGE core_bytes) (sent LOCKING (andx_locking 0xFF 1 1 0 10 short100)) UNLOCK_BYTE_RANGE LOCKING
unfolding sent core_bytes andx_locking short100 parse_locking parse_bare locking_fits is_large range_size dropped starts_smb is_reply caller_of le32_at all blocks blocks_from blocks_within after_parse after_block parse answer link_fits link_at shaped bare span_of
unlock-sent =
    record {
      both = record { kept-one = refl; kept-other = refl; sender = refl; of-bytes = record { small = bytes-all (sent UNLOCK_BYTE_RANGE core_bytes) refl } };
      is_one = refl;
      is-other = refl;
      reading-one = (record { command = UNLOCK_BYTE_RANGE; place = 32; size = 13 }, reader-sound (sent UNLOCK_BYTE_RANGE core_bytes) _ refl);
      reading-other = (record { command = LOCKING; place = 32; size = 29 }, reader-sound (sent LOCKING (andx_locking 0xFF 1 1 0 10 short100)) _ refl);
      equal = unlock-fields refl refl refl refl (short-range refl refl refl refl);
    }

-- a LOCKING and a READ behind it
pub record ChainSent (s t : List ℕ) (core other : ℕ) : Type 0 where
  pub both : BothSent s t
  pub same-locking : SameLocking s t
  pub is_one : andx_command s FIRST ≡ core
  pub is-other : andx_command t FIRST ≡ other
  pub reading-one : (w : Span) × (x : Span) × Reading s (w ∷ x ∷ [])
  pub reading-other : (y : Span) × (z : Span) × Reading t (y ∷ z ∷ [])
  pub equal : EqualReadWrite s (andx_offset s FIRST) t (andx_offset t FIRST) core other

pub chain-sent : ChainSent (sent LOCKING (andx_locking CORE-READ 0 0 1 10 short100 ++ core_read)) (sent LOCKING (andx_locking READ 0 0 1 10 short100 ++ andx_read)) CORE-READ READ
unfolding sent core_read andx_read andx_locking short100 before parse_read parse_bare read_fits parse_locking locking_fits is_large range_size dropped starts_smb is_reply caller_of le32_at all blocks blocks_from blocks_within after_parse after_block parse answer link_fits link_at may_follow shaped bare span_of
chain-sent =
    record {
      both = record { kept-one = refl; kept-other = refl; sender = refl; of-bytes = record { small = bytes-all (sent LOCKING (andx_locking CORE-READ 0 0 1 10 short100 ++ core_read)) refl } };
      same-locking = record { first_one = refl; first-other = refl; same-fid = refl; same-type = refl; same-unlocks = refl; same-locks = refl; same-ranges = refl };
      is_one = refl;
      is-other = refl;
      reading-one = (record { command = LOCKING; place = 32; size = 29 }, record { command = CORE-READ; place = 61; size = 13 }, reader-sound (sent LOCKING (andx_locking CORE-READ 0 0 1 10 short100 ++ core_read)) _ refl);
      reading-other = (record { command = LOCKING; place = 32; size = 29 }, record { command = READ; place = 61; size = 27 }, reader-sound (sent LOCKING (andx_locking READ 0 0 1 10 short100 ++ andx_read)) _ refl);
      equal = read-fields refl refl (λ _. refl) refl;
    }

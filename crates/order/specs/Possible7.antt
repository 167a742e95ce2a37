-- A lock refused to a message that asks for NT status is possible (document 02, CR 7): the LOCKING of Possible.antt that meets a lock, with the bit. Assumes nothing.
use Rattle.std.specs.Prelude.{◌≡◌, refl, ℕ, ◌/◌, ◌%◌, false, List, [], set}
use Rattle.std.proofs.Common.{length-set, get_or-set_other}
use Rattle.wire.specs.LittleEndian.{byte_at}
use Rattle.chain.specs.Layout.{LOCKING, header_command}
use Rattle.chain.specs.Header.{starts_smb, is_reply, dropped}
use Rattle.chain.specs.Grammar.{Reading}
use Rattle.claims.specs.Cases.{message}
use Rattle.demands.specs.NtStatus.{ButByte11}
use Rattle.demands.proofs.NtStatus.{reading-too}
use Rattle.order.specs.Call.{Call}
use Rattle.order.specs.Possible.{plant, asked, chain_spans, chain-reading}

-- the message with Flags2 0x4000
unfoldable pub with_bit : List ℕ
with_bit = set (message 61 []) 11 0x40

unfoldable pub lock_with_bit : Call
lock_with_bit = asked with_bit (plant 2 1)

pub bit-set : byte_at lock_with_bit.message 11 / 64 % 2 ≡ 1
unfolding lock_with_bit asked with_bit message
bit-set = refl

pub bit-locking : header_command lock_with_bit.message ≡ LOCKING
unfolding lock_with_bit asked with_bit message
bit-locking = refl

-- it is that message but for the byte
pub but-byte : ButByte11 (message 61 []) with_bit
unfolding with_bit
but-byte = record { same_length = length-set (message 61 []) 11 0x40; same = λ k n. get_or-set_other (message 61 []) 11 k 0x40 0 n }

pub kept : dropped with_bit ≡ false
unfolding dropped starts_smb is_reply with_bit message
kept = refl

pub bit-reading : Reading lock_with_bit.message chain_spans
unfolding lock_with_bit asked
bit-reading = reading-too (message 61 []) with_bit but-byte chain-reading

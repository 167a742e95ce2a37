-- The header's numbers (document 01, "Header"): little-endian, "PIDHigh 12, .. TID 24, PIDLow 26, UID 28, MID 30". Document 02, CR 4: "a
-- request's process is PIDHigh × 65,536 + PIDLow". Assumes nothing.
use Rattle.std.specs.Prelude.{ℕ, ◌+◌, ◌*◌, List}
use Rattle.wire.specs.LittleEndian.{le16_at}
use Rattle.message.specs.declared.caller.Caller.{Caller}

unfoldable pub caller_of : ℕ → List ℕ → Caller
caller_of connection s = record { connection = connection; uid = le16_at s 28; tid = le16_at s 24; process = 65536 * le16_at s 12 + le16_at s 26 }

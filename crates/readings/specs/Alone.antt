-- A block that makes a message of its own is that message's only block, with the same fields.
-- Assumes nothing.
use Rattle.std.specs.Prelude.{◌≡◌, ℕ, List, None as End}
use Rattle.chain.specs.Layout.{NO_COMMAND, andx_command}
use Rattle.chain.specs.Grammar.{NamedAndx}
use Rattle.chain.specs.declared.block.Block.{Block}
use Rattle.invariants.specs.BlockTests.{Served, plain, andx}
use Rattle.invariants.specs.BlockParse.{body_at, Linked, link-plain, link-end, block_size}
use Rattle.readings.specs.Moved.{moved_body}

-- "with AndXCommand 0xFF where it has one": nothing follows
pub alone-link : (t : List ℕ) (at : ℕ) {command : ℕ} → Served command → (NamedAndx command → andx_command t at ≡ NO_COMMAND) → Linked t command at End
alone-link t at (plain p) e = link-plain p
alone-link t at (andx a) e = link-end a (e a)

-- the block at its new place: the same command, length and fields, a WRITE block's data moved with it, and nothing behind it
unfoldable pub moved_alone : List ℕ → ℕ → ℕ → ℕ → Block
moved_alone s command at to =
    record { command = command; at = to; length = block_size s at; body = moved_body at to (body_at s command at); next = End }

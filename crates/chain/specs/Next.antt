-- What follows a block, and what the reader answers for one. Assumes nothing.
use Rattle.std.specs.Prelude.{◌≡◌, ℕ, Option, None, Some}
use mathlib.Core.Path.{ap}
use Rattle.chain.specs.declared.block.Follower.{Follower}
use Rattle.chain.specs.declared.block.Block.{Block}

-- nothing, or the block that follows
abbrev pub Next : Type 0
Next = Option Follower

-- a block with that command, at that place
abbrev pub Follow : ℕ → ℕ → Next
Follow command at = Some (record { command = command; at = at })

-- "A block's reading either yields the block or ends the chain's reading at once with 2/1."
abbrev pub Parsed : Type 0
Parsed = Option Block

-- the same where a block is judged and not taken apart: what follows a block that stands there
abbrev pub Judged : Type 0
Judged = Option Next

-- two that follow and are the same have one command and one place
command_in : Next → ℕ
command_in None = 0
command_in (Some follower) = follower.command

place_in : Next → ℕ
place_in None = 0
place_in (Some follower) = follower.at

pub same-command : {c a c' a' : ℕ} → Follow c a ≡ Follow c' a' → c ≡ c'
unfolding command_in
same-command e = ap command_in e

pub same-place : {c a c' a' : ℕ} → Follow c a ≡ Follow c' a' → a ≡ a'
unfolding place_in
same-place e = ap place_in e

-- Of specs/Alone.antt: what rests on its other theorems. Assumes nothing.
use Rattle.std.specs.Prelude.{◌≡◌, refl, ℕ, List, [], ◌∷◌, Some, None as End}
use Rattle.std.proofs.Common.{◌∙◌}
use Rattle.chain.specs.Layout.{header_command, FIRST, NO_COMMAND, andx_command}
use Rattle.chain.specs.Grammar.{IsBlock, NamedAndx}
use Rattle.chain.specs.Chain.{blocks, blocks_from}
use Rattle.invariants.specs.BlockParse.{body_at, block_at, block-served, parse-complete, block_size}
use Rattle.chain.specs.ChainLaws.{chain-end}
use Rattle.readings.specs.Moved.{Moved, moved_body}
use Rattle.readings.proofs.Moved.{moved-block, moved-body, moved-size}
use Rattle.readings.specs.Alone.{alone-link, moved_alone}

-- at any place
pub alone-from : {s : List ℕ} {at : ℕ} {t : List ℕ} {to command : ℕ} → IsBlock s at command → Moved s at t to command
    → (NamedAndx command → andx_command t to ≡ NO_COMMAND) → blocks_from t command to ≡ Some (moved_alone s command at to ∷ [])
unfolding block_at moved_alone
alone-from {s} {at} {t} {to} {command} h m e =
    let f : body_at t command to ≡ moved_body at to (body_at s command at) = moved-body h m in
    let g : block_size t to ≡ block_size s at = moved-size m h in
    chain-end t command to (block_at t command to End) (parse-complete t to (moved-block h m) (alone-link t to (block-served h) e)) refl
    ∙ rw (f, g)

-- "each block in turn makes a message of the chain's header with the block's command, then the block at 32": the reader yields
-- that block alone
pub alone-blocks : {s : List ℕ} {at : ℕ} (t : List ℕ) {command : ℕ} → IsBlock s at command → Moved s at t FIRST command
    → header_command t ≡ command → (NamedAndx command → andx_command t FIRST ≡ NO_COMMAND) → blocks t ≡ Some (moved_alone s command at FIRST ∷ [])
unfolding blocks
alone-blocks t h m c e = rw c (alone-from h m e)

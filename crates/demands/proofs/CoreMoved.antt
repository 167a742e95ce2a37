-- Of specs/CoreMoved.antt: what rests on its other theorems. Assumes nothing.
use Rattle.std.specs.Prelude.{◌≡◌, ℕ, ◌≤◌, length, None as End}
use Rattle.std.proofs.Common.{sym, ◌∙◌, arith}
use mathlib.Core.List.{List, Memᴰ as In}
use Rattle.chain.specs.Layout.{READ}
use Rattle.chain.specs.Grammar.{Span, Reading}
use Rattle.chain.specs.declared.block.Body.TheVariants.{Logoff}
use Rattle.chain.specs.declared.block.Block.{Block}
use Rattle.invariants.specs.BlockParse.{block_inside}
use Rattle.invariants.specs.ReaderSound.{span_of}
use Rattle.readings.specs.CoreAlone.{EndsChain, ends_read, ends-write}
use Rattle.demands.specs.Alone.{alone-command, alone-moved}
use Rattle.demands.specs.Carrying.{carrying-other}
use Rattle.demands.specs.SpansOneByOne.{alone_span, alone-span, own_span}
use Rattle.demands.specs.CoreMoved.{SameBlock, same_block, stands-in}

-- "each block in turn makes a message .., then the block at 32": of a core READ or WRITE, alone or behind a LOCKING
pub core-sent : (s : List ℕ) {spans : List Span} → Reading s spans → length s ≤ 8192 → (x : Span) → In x spans → EndsChain x.command
    → (just : ℕ) → SameBlock s x.place (own_span s just x) x.command
unfolding span_of own_span
core-sent s r small x i ends just =
    let b : Block = record { command = x.command; at = x.place; length = x.size; body = Logoff; next = End } in
    let w = stands-in r (omega arith) x i in
    let inside = block_inside w.is_block in
    let low = w.behind in
    let sent : SameBlock s x.place (alone_span s x) x.command =
    rw (← alone-span s b) (same_block ends w.is_block (alone-moved b w.is_block w.so-long low small) (alone-command s b (omega arith))) in
    rw (carrying-other just (alone_span s x) (λ e. not-read ends (sym sent.is ∙ e))) sent
  where
    not-read : {n : ℕ} → EndsChain n → n ≡ READ → ⊥
    not-read ends_read e = omega arith
    not-read ends-write e = omega arith

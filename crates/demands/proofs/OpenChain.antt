-- Of specs/OpenChain.antt: what rests on its other theorems. Assumes nothing.
use Rattle.std.specs.Prelude.{◌≡◌, ℕ, ◌+◌, ◌≤◌, ◌<◌}
use Rattle.std.proofs.Common.{sym, ◌∙◌, arith}
use Rattle.std.proofs.Math.Decide.{ℕ_discrete}
use mathlib.Core.List.{List, Memᴰ as In}
use Rattle.std.proofs.Math.ListN.{length}
use Rattle.chain.specs.Layout.{READ, header_command, FIRST, word_count, fid_after_andx}
use Rattle.chain.specs.Grammar.{Span, Reading}
use Rattle.invariants.specs.BlockParse.{block_inside, block_size, andx-words}
use Rattle.invariants.specs.ReaderSound.{span_of}
use Rattle.readings.specs.Moved.{Moved}
use Rattle.readings.proofs.Moved.{moved-fid}
use Rattle.message.specs.JustOpened.{NOBODY}
use Rattle.demands.specs.Alone.{alone-command, alone-moved, length-alone}
use Rattle.demands.specs.Carrying.{carried-fid, asks-opened, carrying-named, carrying-other}
use Rattle.demands.specs.SpansOneByOne.{alone_span, alone-span, own_span}
use Rattle.demands.specs.OpenChain.{as_block, named, stands}

module _ (s : List ℕ) {spans : List Span} (r : Reading s spans) (small : length s ≤ 8192) (x : Span) (i : In x spans) (just : ℕ) where
  pub moved : Moved s x.place (alone_span s x) FIRST x.command
  unfolding span_of
  moved = rw (← alone-span s (as_block s r small x i just)) (alone-moved (as_block s r small x i just) (stands s r small x i just).is_block (stands s r small x i just).so-long (stands s r small x i just).behind small)

  pub its-command : header_command (alone_span s x) ≡ x.command
  unfolding span_of
  its-command =
      let inside = block_inside (stands s r small x i just).is_block in
      let low = (stands s r small x i just).behind in
      rw (← alone-span s (as_block s r small x i just)) (alone-command s (as_block s r small x i just) (omega arith))

  pub its-length : length (alone_span s x) ≡ 32 + x.size
  unfolding span_of
  its-length =
      let inside = block_inside (stands s r small x i just).is_block in
      let low = (stands s r small x i just).behind in
      let z = (stands s r small x i just).so-long in
      rw (← alone-span s (as_block s r small x i just)) (length-alone s (as_block s r small x i just) (omega arith) (omega arith))

  pub its-fid : x.command ≡ READ → fid_after_andx (alone_span s x) FIRST ≡ fid_after_andx s x.place
  its-fid e = moved-fid moved ((named s r small x i just) e) (λ f. omega arith) (andx-words (stands s r small x i just).is_block ((named s r small x i just) e))

  -- "for 0xFFFF": the FID returned stands where it had 0xFFFF, and every other byte is as it was
  pub carries-returned : x.command ≡ READ → fid_after_andx s x.place ≡ NOBODY → just < 65536 → fid_after_andx (own_span s just x) FIRST ≡ just
  unfolding own_span
  carries-returned e f low =
      let w : 2 ≤ word_count s x.place = andx-words (stands s r small x i just).is_block ((named s r small x i just) e) in
      let n : length (alone_span s x) ≡ 32 + x.size = its-length in
      let z : x.size ≡ block_size s x.place = (stands s r small x i just).so-long in
      carried-fid just (alone_span s x) (asks-opened (alone_span s x) (its-command ∙ e) (its-fid e ∙ f)) low (omega arith)

  -- "and only then": another command's message, and that of a READ with another FID, is as document 01 says
  pub carries-nothing : (x.command ≡ READ → fid_after_andx s x.place ≡ NOBODY → ⊥) → own_span s just x ≡ alone_span s x
  unfolding own_span
  carries-nothing n =
      elim (ℕ_discrete x.command READ) [
        | yes e ↦ carrying-named just (alone_span s x) (λ f. n e (sym (its-fid e) ∙ f))
        | no d ↦ carrying-other just (alone_span s x) (λ f. d (sym its-command ∙ f))
      ]

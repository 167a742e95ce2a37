-- The chain lister's text and the grammar (document 01, "A listing, whole"): "prints for each block its place, command in hex, offset and length, then `end`; else
-- only `not a chain`, for an unserved command too, or `dropped` by row 1", over the blocks of a reading. Assumes nothing.
use Rattle.std.proofs.Math.Path.{◌≡◌}
use Rattle.std.specs.Prelude.{refl, ℕ, suc, true, false}
use Rattle.std.proofs.Common.{sym, arith}
use mathlib.Core.List.{List, [], ◌∷◌, ◌++◌}
use Rattle.std.proofs.Math.ListN.{get_or}
use Rattle.chain.specs.Grammar.{Span}
use Rattle.chain.specs.Header.{dropped}
use Rattle.chain.specs.Chain.{blocks}
use Rattle.chain.specs.declared.block.Block.{Block}
use Rattle.text.specs.Digits.{decimal, hex_byte}
use Rattle.text.specs.DigitLaws.{decimal-small}
use Rattle.listing.specs.Text.{line, end_line, dropped_line, listed, listing}
use Rattle.invariants.specs.ReaderSound.{span_of}

-- the line of a block of a reading that stands k-th: "its place, command in hex, offset and length", a space between them and a newline behind
unfoldable pub span_line : ℕ → Span → List ℕ
span_line k b = decimal k ++ (32 ∷ (hex_byte b.command ++ (32 ∷ (decimal b.place ++ (32 ∷ (decimal b.size ++ (10 ∷ [])))))))

-- one line for each block from the k-th on, in order, "then `end`"
unfoldable pub span_lines : ℕ → List Span → List ℕ
span_lines k [] = end_line
span_lines k (b ∷ bs) = span_line k b ++ span_lines (suc k) bs

-- they are the lines of the reader's blocks
pub line-span : (k : ℕ) (b : Block) → line k b ≡ span_line k (span_of b)
unfolding line span_line span_of
line-span k b = refl

-- the first byte tells the three texts apart: of lines it is that of `1` or of `end`
pub lines-first : (n : ℕ) → (n ≡ 49 → ⊥) → (n ≡ 101 → ⊥) → (spans : List Span) → get_or (span_lines 1 spans) 0 0 ≡ n → ⊥
unfolding span_lines span_line end_line
lines-first n one end [] e = end (sym e)
lines-first n one end (b ∷ bs) e = one (sym (rw (decimal-small 1 (omega arith)) at e))

module _ (s : List ℕ) where
  -- which text it is
  pub dropped-text : dropped s ≡ true → listing s ≡ dropped_line
  unfolding listing
  dropped-text e = rw e

  pub kept-text : dropped s ≡ false → listing s ≡ listed (blocks s)
  unfolding listing
  kept-text e = rw e

-- Of specs/ListingExact.antt: what rests on its other theorems. Assumes nothing.
use Rattle.std.proofs.Math.Path.{◌≡◌, ap}
use Rattle.std.specs.Prelude.{refl, ◌↔◌, ℕ, suc, true, false, Option, None, Some}
use Rattle.std.proofs.Common.{sym, ◌∙◌, arith}
use Rattle.std.proofs.Math.Logic.{inl, inr}
use mathlib.Core.List.{List, [], ◌∷◌, map}
use Rattle.std.proofs.Math.ListN.{get_or}
use Rattle.lists.specs.Truth.{decided}
use Rattle.chain.specs.Grammar.{Span, Reading}
use Rattle.chain.specs.Header.{dropped}
use Rattle.chain.specs.Chain.{blocks}
use Rattle.chain.specs.declared.block.Block.{Block}
use Rattle.listing.specs.Text.{lines_from, not_chain, dropped_line, listed, listing}
use Rattle.invariants.specs.ReaderSound.{span_of}
use Rattle.readings.specs.ReaderComplete.{reader-complete}
use Rattle.readings.specs.ListingExact.{dropped-text, kept-text, line-span, lines-first, span_lines}

pub lines-spans : (k : ℕ) (bs : List Block) → lines_from k bs ≡ span_lines k (map span_of bs)
unfolding lines_from span_lines
lines-spans k [] = refl
lines-spans k (b ∷ bs) = rw (line-span k b, lines-spans (suc k) bs)

pub listed-first : (o : Option (List Block)) → get_or (listed o) 0 0 ≡ 100 → ⊥
unfolding listed not_chain
listed-first None e = omega arith
listed-first (Some bs) e = lines-first 100 (λ z. omega arith) (λ z. omega arith) (map span_of bs) (ap (λ (l : List ℕ). get_or l 0 0) (sym (lines-spans 1 bs)) ∙ e)

module _ (s : List ℕ) where
  -- "prints for each block its place, command in hex, offset and length, then `end`": the lines are those of any reading, one for each block
  pub reading-listed : {spans : List Span} → Reading s spans → dropped s ≡ false → listing s ≡ span_lines 1 spans
  unfolding listed
  reading-listed r e =
      let a = reader-complete r in
      (kept-text s) e ∙ ap listed a.1 ∙ lines-spans 1 a.0 ∙ ap (span_lines 1) a.2

  -- "or `dropped` by row 1": exactly then
  pub dropped-exact : (listing s ≡ dropped_line) ↔ (dropped s ≡ true)
  unfolding dropped_line
  dropped-exact = (
    λ e. elim (decided (dropped s)) [
      | inl d ↦ d
      | inr d ↦ absurd (listed-first (blocks s) (ap (λ (l : List ℕ). get_or l 0 0) (sym ((kept-text s) d) ∙ e)))
    ],
    (dropped-text s),
  )

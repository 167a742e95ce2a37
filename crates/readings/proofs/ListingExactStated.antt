-- Of specs/ListingExact.antt: what rests on its other theorems. Assumes nothing.
use Rattle.std.proofs.Math.Path.{◌≡◌, ap}
use Rattle.std.specs.Prelude.{◌↔◌, ℕ, false}
use Rattle.std.proofs.Common.{sym, ◌∙◌, arith}
use Rattle.std.proofs.Math.Logic.{inl, inr}
use mathlib.Core.List.{List}
use Rattle.std.proofs.Math.ListN.{get_or}
use Rattle.lists.specs.Truth.{decided}
use Rattle.chain.specs.Grammar.{Sentence}
use Rattle.chain.specs.Header.{dropped}
use Rattle.listing.specs.Text.{not_chain, dropped_line, listed, listing}
use Rattle.readings.specs.ReaderComplete.{no-sentence}
use Rattle.readings.proofs.ListingExact.{reading-listed}
use Rattle.readings.specs.ListingExact.{dropped-text, kept-text, lines-first}

module _ (s : List ℕ) where
  -- "else only `not a chain`": exactly if the message is not dropped and is no sentence
  pub not-chain-exact : (listing s ≡ not_chain) ↔ ((dropped s ≡ false) × (Sentence s → ⊥))
  unfolding listed not_chain dropped_line
  not-chain-exact = (
    λ e. elim (decided (dropped s)) [
      | inl d ↦ let z : ◌≡◌ {A = ℕ} 100 110 = ap (λ (l : List ℕ). get_or l 0 0) (sym ((dropped-text s) d) ∙ e) in absurd (omega arith)
      | inr d ↦ (d, λ q. lines-first 110 (λ z. omega arith) (λ z. omega arith) q.0 (ap (λ (l : List ℕ). get_or l 0 0) (sym ((reading-listed s) q.1 d) ∙ e)))
    ],
    λ h. (kept-text s) h.0 ∙ ap listed ((no-sentence s).1 h.1),
  )

-- `stream::reader::header_byte` meets its contract: a byte of the words where it is in, else one of the piece.
-- Assumes nothing.
use mathlib.Core.Path.{◌≡◌, sym, ap, ◌∙◌}
use Prim.Native.Nat.{ℕ, ◌≤◌, ◌<◌}
use mathlib.Core.List.{[], ◌∷◌}
use lib.ListN.{get_or}
use native.Mathlib.Omega.{arith}
use Rattle.stream.specs.StateLaws.{header-says, header-in, header-behind}
use Rattle.stream.proofs.reader.header_byte.Goals as goal

below-three : (n k : ℕ) → n < k → k ≤ 3 → (n ≡ 0 → ⊥) → (n ≡ 1 → ⊥) → n ≡ 2
below-three n k a b d e = omega arith

pub returns-then-s-place : goal.returns-then-s-place
returns-then-s-place c = c.byte_at.ensures ∙ sym (header-behind c.args.s (header-says c.args.s c.requires).few c.args.piece.now c.args.place c.if-s-place.true)

pub overflow_cast-result : goal.overflow_cast-result
overflow_cast-result c = record { fits = (header-says c.args.s c.requires).first.small }

pub returns-then-place-eq0 : goal.returns-then-place-eq0
returns-then-place-eq0 c =
    let says = header-says c.args.s c.requires in
    let few = says.few in
    let here : c.args.place ≡ 0 = c.if-place-eq0.true in
    sym (header-in c.args.s few c.args.piece.now c.args.place c.if-s-place.false ∙ ap (λ (k : ℕ). get_or (c.args.s.first ∷ c.args.s.second ∷ c.args.s.third ∷ []) k 0) here)

pub overflow_cast-result-then-place-eq1 : goal.overflow_cast-result-then-place-eq1
overflow_cast-result-then-place-eq1 c = record { fits = (header-says c.args.s c.requires).second.small }

pub returns-then-place-eq1 : goal.returns-then-place-eq1
returns-then-place-eq1 c =
    let says = header-says c.args.s c.requires in
    let few = says.few in
    let here : c.args.place ≡ 1 = c.if-place-eq1.true in
    sym (header-in c.args.s few c.args.piece.now c.args.place c.if-s-place.false ∙ ap (λ (k : ℕ). get_or (c.args.s.first ∷ c.args.s.second ∷ c.args.s.third ∷ []) k 0) here)

pub overflow_cast-result-2 : goal.overflow_cast-result-2
overflow_cast-result-2 c = record { fits = (header-says c.args.s c.requires).third.small }

pub returns : goal.returns
returns c =
    let says = header-says c.args.s c.requires in
    let few = says.few in
    let here : c.args.place ≡ 2 = (let a = c.if-s-place.false in let b = c.if-place-eq0.false in let d = c.if-place-eq1.false in below-three c.args.place c.args.s.begun a few b d) in
    sym (header-in c.args.s few c.args.piece.now c.args.place c.if-s-place.false ∙ ap (λ (k : ℕ). get_or (c.args.s.first ∷ c.args.s.second ∷ c.args.s.third ∷ []) k 0) here)

-- `sample::names::catalogue_words` meets its contract: each turn writes the word of one byte more.
-- Assumes nothing.
use mathlib.Core.Path.{◌≡◌, ap, ◌∙◌}
use Prim.Native.Nat.{ℕ, ◌+◌}
use native.Mathlib.Omega.{arith}
use mathlib.Core.List.{List}
use lib.ListN.{length, set, replicate, length-replicate}
use Rattle.wire.specs.LittleEndian.{byte_at}
use Rattle.tables.specs.Words.{up_to}
use Rattle.sample.specs.Names.{catalogue_words}
use Rattle.sample.proofs.Widened.{filled, filled_none, filled_more, filled-all}
use Rattle.sample.proofs.names.catalogue_words.Goals as goal

-- the array as the loop finds it
abbrev fresh : List ℕ
fresh = replicate 225 0

length-fresh : length fresh ≡ 225
length-fresh = length-replicate {A = ℕ} 225 0

pub loop-i-init : goal.loop-i-init
loop-i-init c =
    let args = c.args in
    filled_none (λ k. byte_at args.s.now (args.at + k)) fresh

pub loop-i-preserved : goal.loop-i-preserved
loop-i-preserved c =
    let args = c.args in
    let loop = c.loop-i in
    let byte : ℕ → ℕ = λ k. byte_at args.s.now (args.at + k) in
    let long = length-fresh in
    ap (λ (l : List ℕ). set l loop.i c.from.result) loop.invariant
    ∙ ap (set (filled byte fresh loop.i) loop.i) (c.from.ensures ∙ c.byte_at.ensures)
    ∙ filled_more byte fresh loop.i (omega arith)

pub returns : goal.returns
unfolding catalogue_words
returns c =
    let args = c.args in
    let loop = c.loop-i in
    let byte : ℕ → ℕ = λ k. byte_at args.s.now (args.at + k) in
    let all : loop.i ≡ 225 = omega arith in
    let long = length-fresh in
    loop.invariant ∙ filled-all byte fresh loop.i (omega arith) ∙ ap (up_to byte) all

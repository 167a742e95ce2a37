-- `stream::header::judge` meets its contract: each answer is the definition's, given the tests before it.
-- Assumes nothing.
use mathlib.Core.Path.{◌≡◌, sym, ◌∙◌}
use mathlib.Core.Bool.{true, false}
use borrow.Author.Tests.{eq-eqb, ne_eqb, lt-ltb, le-ltb}
use lib.Dec.{eqb, ltb}
use Rattle.stream.specs.Stream.{known, judge_length, judge}
use Rattle.stream.proofs.header.judge.Goals as goal

pub returns-then-not-is_known : goal.returns-then-not-is_known
unfolding judge
returns-then-not-is_known c =
    let args = c.args in
    let k : known args.kind ≡ false = sym c.is_known.ensures ∙ c.if-not-is_known.true in
    rw k

pub returns-then-flags-gt1 : goal.returns-then-flags-gt1
unfolding judge
returns-then-flags-gt1 c =
    let args = c.args in
    let k : known args.kind ≡ true = sym c.is_known.ensures ∙ c.if-not-is_known.false in
    rw (k, lt-ltb 1 args.flags c.if-flags-gt1.true)

pub returns-then-length-ne0 : goal.returns-then-length-ne0
unfolding judge judge_length
returns-then-length-ne0 c =
    let args = c.args in
    let k : known args.kind ≡ true = sym c.is_known.ensures ∙ c.if-not-is_known.false in
    let f : ltb 1 args.flags ≡ false = le-ltb 1 args.flags c.if-flags-gt1.false in
    let b : eqb args.kind 133 ≡ true = eq-eqb args.kind 133 c.if-kind-eq-KEEP_ALIVE.true in
    let n = c.length_of-length.ensures in
    rw (k, f, b, ← n, ne_eqb c.length_of-length.result 0 c.if-length-ne0.true)

pub returns-then-kind-eq-KEEP_ALIVE : goal.returns-then-kind-eq-KEEP_ALIVE
unfolding judge judge_length
returns-then-kind-eq-KEEP_ALIVE c =
    let args = c.args in
    let k : known args.kind ≡ true = sym c.is_known.ensures ∙ c.if-not-is_known.false in
    let f : ltb 1 args.flags ≡ false = le-ltb 1 args.flags c.if-flags-gt1.false in
    let b : eqb args.kind 133 ≡ true = eq-eqb args.kind 133 c.if-kind-eq-KEEP_ALIVE.true in
    let n = c.length_of-length.ensures in
    rw (k, f, b, ← n, eq-eqb c.length_of-length.result 0 c.if-length-ne0.false)

pub returns-then-length-gt-LONGEST_READ : goal.returns-then-length-gt-LONGEST_READ
unfolding judge judge_length
returns-then-length-gt-LONGEST_READ c =
    let args = c.args in
    let k : known args.kind ≡ true = sym c.is_known.ensures ∙ c.if-not-is_known.false in
    let f : ltb 1 args.flags ≡ false = le-ltb 1 args.flags c.if-flags-gt1.false in
    let b : eqb args.kind 133 ≡ false = ne_eqb args.kind 133 c.if-kind-eq-KEEP_ALIVE.false in
    let n = c.length_of-length.ensures in
    rw (k, f, b, ← n, lt-ltb 8192 c.length_of-length.result c.if-length-gt-LONGEST_READ.true)

pub returns : goal.returns
unfolding judge judge_length
returns c =
    let args = c.args in
    let k : known args.kind ≡ true = sym c.is_known.ensures ∙ c.if-not-is_known.false in
    let f : ltb 1 args.flags ≡ false = le-ltb 1 args.flags c.if-flags-gt1.false in
    let b : eqb args.kind 133 ≡ false = ne_eqb args.kind 133 c.if-kind-eq-KEEP_ALIVE.false in
    let n = c.length_of-length.ensures in
    rw (k, f, b, ← n, le-ltb 8192 c.length_of-length.result c.if-length-gt-LONGEST_READ.false)

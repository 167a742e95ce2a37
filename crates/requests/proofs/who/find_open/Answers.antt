-- `requests::who::find_open` meets its contract: the opens ahead give the same answer as the whole list.
-- Assumes nothing.
use Rattle.std.specs.Prelude.{◌≡◌, ℕ, ◌<◌, ◌≤◌, min, List, length, take, Option, Ok}
use mathlib.Core.Path.{sym, ap, ◌∙◌}
use native.Mathlib.Omega.{arith}
use lib.Seq.{get_or-take}
use Rattle.lists.specs.Walk.{found}
use Rattle.lists.specs.FoundLaws.{passed_start, passed_here, passed-more, passed_none}
use Rattle.lists.specs.Stored.{take-most}
use Rattle.records.specs.Empty.{no_open}
use Rattle.records.specs.declared.Open.{Open}
use Rattle.tables.specs.Words.{word, open_of, open_array}
use Rattle.tables.specs.Written.{opens_in}
use Rattle.tables.specs.ArrayLaws.{length-array}
use Rattle.message.specs.Command.{is_open}
use Rattle.requests.specs.Reach.{reached_at}
use Rattle.requests.proofs.who.find_open.Goals as goal

length-opens : (w : List ℕ) → length (open_array w) ≡ 64
unfolding open_array
length-opens w = length-array open_of 9 64 w

-- the walk's opens are those in use
whole : (w : List ℕ) (count : ℕ) → count ≡ min (word w 0) 64 → take count (open_array w) ≡ opens_in w
whole w count e = rw e (take-most (open_array w) (word w 0) 64 (length-opens w))

pub loop-i-init : goal.loop-i-init
loop-i-init c = passed_start

pub open_at-o-requires : goal.open_at-o-requires
open_at-o-requires c =
    let few : c.in_use-count.result ≤ 64 = omega arith in
    (c.requires, omega arith)

pub returns-then-open_is : goal.returns-then-open_is
unfolding reached_at
returns-then-open_is c =
    let loop = c.loop-i in
    let args = c.args in
    let words = args.words.now in
    let count = c.in_use-count.result in
    let long : length (open_array words) ≡ 64 = length-opens words in
    let few : count ≤ 64 = omega arith in
    let used : loop.i < word words 0 = omega arith in
    ap (λ (o : Open). Ok (o, loop.i)) (c.open_at-o.ensures ∙ sym (get_or-take (word words 0) (open_array words) loop.i no_open used))
    ∙ ap (λ (x : Option ℕ). reached_at x (opens_in words))
    (passed_here loop.invariant no_open (omega arith) (omega arith) (sym (ap (is_open args.c args.fid) c.open_at-o.ensures) ∙ sym c.open_is.ensures ∙ c.if-open_is.true)
    ∙ ap (found (is_open args.c args.fid)) (whole words count c.in_use-count.ensures))

pub loop-i-preserved : goal.loop-i-preserved
loop-i-preserved c =
    let loop = c.loop-i in
    let args = c.args in
    let words = args.words.now in
    let count = c.in_use-count.result in
    let long : length (open_array words) ≡ 64 = length-opens words in
    let few : count ≤ 64 = omega arith in
    passed-more loop.invariant no_open (omega arith) (omega arith) (sym (ap (is_open args.c args.fid) c.open_at-o.ensures) ∙ sym c.open_is.ensures ∙ c.if-open_is.false)

pub returns : goal.returns
unfolding reached_at
returns c =
    let args = c.args in
    let words = args.words.now in
    ap (λ (x : Option ℕ). reached_at x (opens_in words))
    (passed_none c.loop-i.invariant c.loop-i-test.false ∙ ap (found (is_open args.c args.fid)) (whole words c.in_use-count.result c.in_use-count.ensures))

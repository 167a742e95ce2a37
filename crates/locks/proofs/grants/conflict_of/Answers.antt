-- `locks::grants::conflict_of` meets its contract: the first answer in a list of two parts is that of the words, or else of the request's own.
-- Assumes nothing.
use mathlib.Core.Path.{◌≡◌, sym, ap, ◌∙◌}
use Prim.Native.Nat.{◌-◌, ◌<◌}
use native.Mathlib.Omega.{arith}
use Rattle.std.specs.Prelude.{None}
use Rattle.lists.specs.FoundLaws.{found_below}
use Rattle.locks.specs.Answer.{file_in}
use Rattle.locks.specs.Wire.{length-ranges}
use Rattle.locks.specs.Request.{ranges_of, ask_of}
use Rattle.locks.specs.declared.types.Purpose.TheVariants.{Grant}
use Rattle.locks.proofs.Whole.{meets-of}
use Rattle.locks.proofs.Lent.{held-most}
use Rattle.locks.proofs.Granted.{own-shared, own-exclusive, conflict-listed, conflict-own, conflict-none}
use Rattle.locks.proofs.grants.conflict_of.Goals as goal

pub returns-in-Some : goal.returns-in-Some
returns-in-Some c =
    conflict-listed _ _ _ _ _ c.in-Some.place
    (rw (← c.range_of.ensures, ← c.ask_of-ask.ensures) (sym c.in-Some.is ∙ c.first_answer.ensures))

pub returns-then-q : goal.returns-then-q
returns-then-q c =
    let args = c.args in
    let own = ranges_of args.q args.area.now args.q.unlocks (args.k - args.q.unlocks) in
    conflict-none _ _ _ _ _
    (rw (← c.range_of.ensures, ← c.ask_of-ask.ensures) (sym c.in_default.is ∙ c.first_answer.ensures))
    (own-shared _ _ _ _ c.if-q.true own)

pub returns-in_err-own : goal.returns-in_err-own
returns-in_err-own c =
    let q = c.args.q in
    let asked = c.ask_of-ask.ensures ∙ ap (ask_of q.fid (Grant q.shared)) c.range_of.ensures in
    let gone : c.from_residual.result ≡ None = grind arith in
    rw gone
    (conflict-none _ _ _ _ _
    (rw (← c.range_of.ensures, ← c.ask_of-ask.ensures) (sym c.in_default.is ∙ c.first_answer.ensures))
    (sym c.in_err-own.was ∙ c.first_overlap.ensures ∙ meets-of q c.args.area.now _ _ _ _ ∙ own-exclusive (file_in c.args.files.now) q.fid q.shared _ c.if-q.false c.ask_of-ask.result asked _))

pub overflow_add-result : goal.overflow_add-result
overflow_add-result c =
    let args = c.args in
    let most = held-most args.words.now in
    let below : c.in_ok-own.own < args.k - args.q.unlocks =
    rw (length-ranges args.q.large args.area.now args.q.unlocks (args.k - args.q.unlocks))
    at (found_below _ _ c.in_ok-own.own (sym c.first_overlap.ensures ∙ c.in_ok-own.was))
    in
    omega arith

pub returns : goal.returns
returns c =
    let q = c.args.q in
    let asked = c.ask_of-ask.ensures ∙ ap (ask_of q.fid (Grant q.shared)) c.range_of.ensures in
    conflict-own _ _ _ _ _ c.in_ok-own.own c.args.held (sym c.requires.words_len.1)
    (rw (← c.range_of.ensures, ← c.ask_of-ask.ensures) (sym c.in_default.is ∙ c.first_answer.ensures))
    (sym c.in_ok-own.was ∙ c.first_overlap.ensures ∙ meets-of q c.args.area.now _ _ _ _ ∙ own-exclusive (file_in c.args.files.now) q.fid q.shared _ c.if-q.false c.ask_of-ask.result asked _)

-- `locks::locking::grant_all` meets its contract: each refusal and the grant are one case of the definition each.
-- Assumes nothing.
use mathlib.Core.Path.{◌≡◌, sym, ◌∙◌}
use mathlib.Core.Bool.{false}
use native.Mathlib.Omega.{arith}
use Rattle.lists.specs.Walk.{any}
use Rattle.locks.specs.Request.{ranges_of, range_passes}
use Rattle.locks.proofs.Whole.{length-of, passes_of}
use Rattle.locks.proofs.Lent.{held-most, held-front, fit-held}
use Rattle.locks.proofs.Holding.{blocked-below}
use Rattle.locks.proofs.Settling.{locks-pass, locks-conflict, locks-full, locks-granted, length_whole, settles-refused, settles-done}
use Rattle.locks.proofs.locking.grant_all.Goals as goal

pub returns-then-some_passes : goal.returns-then-some_passes
returns-then-some_passes c =
    let args = c.args in
    record { settles = settles-refused args.words.now _ _ (locks-pass _ _ _ _ _ (sym c.if-some_passes.true ∙ c.some_passes.ensures ∙ passes_of args.q args.area.now)); words_after = λ f. f }

pub holder_at-requires : goal.holder_at-requires
holder_at-requires c =
    let args = c.args in
    let held = c.held_in-held.ensures in
    let many = length-of args.q args.area.now args.q.unlocks args.q.locks in
    let below = blocked-below _ _ _ _ _ _ (sym c.in-Some.is ∙ c.first_conflict.ensures) in
    record { words_len = (c.requires, held); place_bound = omega arith }

pub returns-in-Some : goal.returns-in-Some
returns-in-Some c =
    let args = c.args in
    let within : false ≡ any range_passes (ranges_of args.q args.area.now args.q.unlocks args.q.locks) =
    sym c.if-some_passes.false ∙ c.some_passes.ensures ∙ passes_of args.q args.area.now
    in
    record { settles = settles-refused args.words.now _ _ (locks-conflict _ _ _ _ _ within (sym c.in-Some.is ∙ c.first_conflict.ensures) c.holder_at.ensures); words_after = λ f. f }

pub overflow_sub-held : goal.overflow_sub-held
overflow_sub-held c = let most = held-most c.args.words.now in let held = c.held_in-held.ensures in omega arith

pub returns-then-held-wanted : goal.returns-then-held-wanted
returns-then-held-wanted c =
    let args = c.args in
    let within : false ≡ any range_passes (ranges_of args.q args.area.now args.q.unlocks args.q.locks) =
    sym c.if-some_passes.false ∙ c.some_passes.ensures ∙ passes_of args.q args.area.now
    in
    let most = held-most args.words.now in
    let held = c.held_in-held.ensures in
    let free = sym c.in_default.is ∙ c.first_conflict.ensures in
    let many = length-of args.q args.area.now args.q.unlocks args.q.locks in
    record { settles = settles-refused args.words.now _ _ (locks-full _ _ _ _ _ within free _ _ held many (omega arith)); words_after = λ f. f }

pub append_locks-requires : goal.append_locks-requires
append_locks-requires c = let most = held-most c.args.words.now in let held = c.held_in-held.ensures in (c.requires, omega arith)

pub returns : goal.returns
returns c =
    let args = c.args in
    let within : false ≡ any range_passes (ranges_of args.q args.area.now args.q.unlocks args.q.locks) =
    sym c.if-some_passes.false ∙ c.some_passes.ensures ∙ passes_of args.q args.area.now
    in
    let most = held-most args.words.now in
    let held = c.held_in-held.ensures in
    let free = sym c.in_default.is ∙ c.first_conflict.ensures in
    let many = length-of args.q args.area.now args.q.unlocks args.q.locks in record {
      settles = settles-done args.words.now _ _ _
          (locks-granted _ _ _ _ _ within free _ _ held many (omega arith))
          (rw (held-front args.words.now c.held_in-held.result held, held) at c.append_locks.ensures.words_after)
          (c.append_locks.ensures.words_after_2 ∙ sym (length_whole _ _ _ _ _ within free _ _ held many));
      words_after = λ f. c.append_locks.ensures.words_after_3 (fit-held args.words.now c.held_in-held.result held f);
    }

-- `locks::locking::lock_request` meets its contract: without unlocks the locks decide, with them the words are as tried or brought back.
-- Assumes nothing.
use mathlib.Core.Path.{◌≡◌, ap, ◌∙◌}
use Prim.Native.Nat.{◌+◌, ◌*◌}
use native.Mathlib.Omega.{arith}
use mathlib.Core.Bool.{not}
use lib.ListN.{length}
use Rattle.tables.specs.Words.{word, lock_array}
use Rattle.tables.specs.Written.{locks_in}
use Rattle.locks.specs.Wire.{place-small, range_size}
use Rattle.locks.specs.Answer.{file_in}
use Rattle.locks.specs.Request.{ranges_of}
use Rattle.locks.proofs.Settling.{settles-malformed, locking-sized, no-unlocks, settles-tried, settles-back}
use Rattle.locks.proofs.locking.lock_request.Goals as goal

pub overflow_mul-ranges : goal.overflow_mul-ranges
overflow_mul-ranges c =
    let args = c.args in
    omega (
      arith,
      rw (← c.range_size.ensures) at (place-small args.q.large (args.q.unlocks + args.q.locks) (omega arith)),
    )

pub returns-then-area-ranges : goal.returns-then-area-ranges
returns-then-area-ranges c =
    let args = c.args in
    record { settles = settles-malformed (file_in args.files.now) args.words.now args.q args.area.now (rw c.range_size.ensures at c.if-area-ranges.true); words_after = λ f. f }

pub returns-then-q-eq0 : goal.returns-then-q-eq0
returns-then-q-eq0 c =
    let args = c.args in
    let q = args.q in
    let w = args.words.now in
    let sized : length args.area.now ≡ (q.unlocks + q.locks) * range_size q.large = rw (← c.range_size.ensures) c.if-area-ranges.false in record {
      settles = rw (
        locking-sized (file_in args.files.now) (lock_array w) (word w 0) q args.area.now sized,
        no-unlocks (file_in args.files.now) q args.area.now (ranges_of q args.area.now q.unlocks q.locks) (locks_in w) c.if-q-eq0.true,
      )
          c.grant_all.ensures.settles;
      words_after = c.grant_all.ensures.words_after;
    }

pub returns-else-is_err : goal.returns-else-is_err
returns-else-is_err c =
    let args = c.args in
    let q = args.q in
    let w = args.words.now in
    let sized : length args.area.now ≡ (q.unlocks + q.locks) * range_size q.large = rw (← c.range_size.ensures) c.if-area-ranges.false in record { settles = rw (locking-sized (file_in args.files.now) (lock_array w) (word w 0) q args.area.now sized) (settles-tried w (c.is_err.ensures.negation ∙ ap not c.if-is_err.false) c.unlock_and_grant-ended.ensures.tried); words_after = c.unlock_and_grant-ended.ensures.words_after }

pub returns-then-is_err : goal.returns-then-is_err
returns-then-is_err c =
    let args = c.args in
    let q = args.q in
    let w = args.words.now in
    let sized : length args.area.now ≡ (q.unlocks + q.locks) * range_size q.large = rw (← c.range_size.ensures) c.if-area-ranges.false in record {
      settles = rw (locking-sized (file_in args.files.now) (lock_array w) (word w 0) q args.area.now sized, c.copy_words-then-is_err.ensures, c.copy_words.ensures)
          (settles-back w _ (c.is_err.ensures.negation ∙ ap not c.if-is_err.true) c.unlock_and_grant-ended.ensures.tried);
      words_after = λ f. rw (c.copy_words-then-is_err.ensures, c.copy_words.ensures) f;
    }

-- `locks::unlock::release_all` meets its contract: the unlocks ahead make of the list so far what all of them make of the first list, and the words hold it.
-- Assumes nothing.
use mathlib.Core.Path.{◌≡◌, refl, sym, ◌∙◌}
use mathlib.Core.Bool.{false≢true}
use Prim.Native.Nat.{◌-◌}
use mathlib.Core.List.{map}
use lib.ListN.{length}
use Rattle.tables.specs.Words.{word, lock_array}
use Rattle.locks.specs.Request.{ranges_of, release_all}
use Rattle.locks.proofs.Ahead.{ahead-start, ahead-here, ahead_more, ahead_none}
use Rattle.tables.specs.ChangeLaws.{length-lock_array}
use Rattle.locks.proofs.Unlocked.{left-start, left_below, left_step, left-list, release-more, release-stop}
use native.Mathlib.Omega.{arith}
use Rattle.locks.proofs.unlock.release_all.Goals as goal

pub loop-k-init : goal.loop-k-init
unfolding ranges_of
loop-k-init c =
    let args = c.args in
    let all : args.q.unlocks - 0 ≡ args.q.unlocks = omega arith in
    let long : length (lock_array args.words.now) ≡ 128 = length-lock_array args.words.now in
    (c.requires.0, left-start (lock_array args.words.now) (word args.words.now 0) (omega arith), ahead-start (omega arith) (rw all), λ f. f)

pub first_answer-requires : goal.first_answer-requires
first_answer-requires c = c.loop-k.invariant.0

pub shape_of-words-in_default : goal.shape_of-words-in_default
shape_of-words-in_default c = c.loop-k.invariant.0 ∙ sym c.requires.0

pub returns-in_default : goal.returns-in_default
returns-in_default c = record {
  unlocks = record {
    list = λ e. absurd (false≢true e);
    array = λ e. absurd (false≢true e);
    count = λ e. absurd (false≢true e);
    missing =
        λ _. (
          refl,
          ahead-here c.loop-k.invariant.2 (omega arith)
              (λ rs. release-stop _ _ _ _ c.range_of-r.ensures c.ask_of.ensures c.first_answer.ensures (map _ rs) c.in_default.is),
        );
  };
  words_after = c.loop-k.invariant.3;
}

pub remove_at-requires : goal.remove_at-requires
remove_at-requires c =
    let loop = c.loop-k in
    let short = loop.invariant.1.short in
    let below = left_below loop.invariant.1 _ c.in-Some.place (sym c.first_answer.ensures ∙ c.in-Some.is) in
    (loop.invariant.0, (below, omega arith))

pub loop-k-preserved : goal.loop-k-preserved
loop-k-preserved c =
    let loop = c.loop-k in
    let left = loop.invariant.1 in
    let place = c.in-Some.place in
    let gone = c.remove_at.ensures in
    let below = left_below left _ place (sym c.first_answer.ensures ∙ c.in-Some.is) in (
      c.remove_at.auto.words ∙ loop.invariant.0,
      rw gone.words_after_2 (left_step left below gone.words_after),
      ahead_more loop.invariant.2 (omega arith)
          (
          λ rs.
          rw (gone.words_after_2, left-list left below gone.words_after)
          (release-more _ _ _ _ c.range_of-r.ensures c.ask_of.ensures c.first_answer.ensures (map _ rs) c.in-Some.is)
          ),
      λ f. gone.words_after_3 (loop.invariant.3 f),
    )

pub shape_of-words : goal.shape_of-words
shape_of-words c = c.loop-k.invariant.0 ∙ sym c.requires.0

pub returns : goal.returns
unfolding release_all
returns c = record {
  unlocks = record {
    list = λ _. ahead_none c.loop-k.invariant.2 (omega arith);
    array = λ _. c.loop-k.invariant.1.holds;
    count = λ _. c.loop-k.invariant.1.short;
    missing = λ e. absurd (false≢true (sym e));
  };
  words_after = c.loop-k.invariant.3;
}

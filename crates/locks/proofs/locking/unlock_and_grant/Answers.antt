-- `locks::locking::unlock_and_grant` meets its contract: what the unlocks leave is the list that the locks are tested against.
-- Assumes nothing.
use mathlib.Core.Path.{refl, ◌∙◌}
use native.Mathlib.Omega.{arith}
use lib.ListN.{length-set}
use Rattle.std.proofs.lemmas.Result.{err_from_is_err_and}
use Rattle.tables.specs.ChangeLaws.{count_set}
use Rattle.locks.proofs.Lent.{held-most, fit-held, fit-counted}
use Rattle.locks.proofs.Settling.{recounted, tried-missing, tried-locks}
use Rattle.locks.proofs.locking.unlock_and_grant.Goals as goal

pub release_all-requires : goal.release_all-requires
release_all-requires c =
    let args = c.args in
    let most = held-most args.words.now in
    let held = c.held_in-held.ensures in
    let long = c.requires in
    let count = count_set args.words.now c.held_in-held.result (omega arith) in
    (length-set c.args.words.now 0 c.held_in-held.result ∙ c.requires, omega arith)

pub returns-in_err-release_all : goal.returns-in_err-release_all
returns-in_err-release_all c =
    let w = c.args.words.now in
    let held = c.held_in-held.result in
    let most = held-most w in
    let same = c.held_in-held.ensures in
    let long = c.requires in record {
      tried = let p = err_from_is_err_and c.from_residual.result c.from_residual.ensures.1 in rw (p.1, p.2) (tried-missing _ _ _ _ _ (recounted w held long same) c.in_err-release_all.ensures.unlocks _ refl);
      words_after = λ f. c.release_all.ensures.words_after (fit-counted w held (omega arith) (omega arith) (fit-held w held same f));
    }

pub grant_all-requires : goal.grant_all-requires
grant_all-requires c = c.release_all.auto.words ∙ length-set c.args.words.now 0 c.held_in-held.result ∙ c.requires

pub shape_of-words : goal.shape_of-words
shape_of-words c = c.grant_all.auto.words ∙ c.release_all.auto.words ∙ length-set c.args.words.now 0 c.held_in-held.result

pub returns : goal.returns
returns c =
    let w = c.args.words.now in
    let held = c.held_in-held.result in
    let most = held-most w in
    let same = c.held_in-held.ensures in
    let long = c.requires in record {
      tried = tried-locks _ _ _ _ _ (recounted w held long same) c.in_ok-release_all.ensures.unlocks refl c.grant_all.ensures.settles;
      words_after = λ f. c.grant_all.ensures.words_after (c.release_all.ensures.words_after (fit-counted w held (omega arith) (omega arith) (fit-held w held same f)));
    }

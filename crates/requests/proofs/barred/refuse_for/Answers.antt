-- `requests::barred::refuse_for` meets its contract: the record at the place is that of the listed lock.
-- Assumes nothing.
use mathlib.Core.Path.{sym, ap, ◌∙◌}
use borrow.Author.Rules.{rules}
use Rattle.records.specs.declared.Lock.{Lock}
use Rattle.tables.specs.Words.{part, tables_of}
use Rattle.locks.specs.Request.{holder_at}
use Rattle.locks.specs.Listed.{listed_below, listed_at}
use Rattle.message.specs.declared.refusal.Refusal.TheVariants.{FileLockConflict}
use Rattle.requests.proofs.barred.refuse_for.Goals as goal

pub lock_at-lock-requires : goal.lock_at-lock-requires
unfolding tables_of
lock_at-lock-requires c = (search rules, listed_below (part c.args.words.now 707 641) c.args.place c.requires.place_in_bounds)

pub returns : goal.returns
unfolding holder_at tables_of
returns c =
    let args = c.args in
    ap (λ (l : Lock). FileLockConflict (record { lock = l; place = args.place }))
    (c.lock_at-lock.ensures ∙ sym (listed_at (part args.words.now 707 641) args.place c.requires.place_in_bounds))

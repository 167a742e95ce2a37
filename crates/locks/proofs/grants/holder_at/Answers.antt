-- `locks::grants::holder_at` meets its contract: the list of two parts has at the place a listed lock, or one of the request's own.
-- Assumes nothing.
use mathlib.Core.Path.{sym, ap, ◌∙◌}
use Prim.Native.Nat.{◌-◌}
use native.Mathlib.Omega.{arith}
use Rattle.records.specs.declared.Lock.{Lock}
use Rattle.tables.specs.Written.{locks_in}
use Rattle.locks.specs.Request.{lock_of, holder_at}
use Rattle.locks.proofs.Lent.{held-most}
use Rattle.locks.proofs.Holding.{holder-listed, holder-own}
use Rattle.locks.proofs.grants.holder_at.Goals as goal

pub lock_at-requires : goal.lock_at-requires
lock_at-requires c = let most = held-most c.args.words.now in let held = c.requires.words_len.1 in (c.requires.words_len.0, omega arith)

pub returns-then-place-held : goal.returns-then-place-held
unfolding holder_at
returns-then-place-held c =
    let args = c.args in
    let held = c.requires.words_len.1 in
    ap (λ (l : Lock). record { lock = l; place = args.place }) (c.lock_at.ensures ∙ sym (holder-listed args.words.now _ args.place (omega arith)))

pub returns : goal.returns
unfolding holder_at
returns c =
    let args = c.args in
    let q = args.q in
    let held = c.requires.words_len.1 in
    let low = c.requires.place_bound in
    let mine = c.lock_of.ensures ∙ ap (lock_of q.fid q.shared) c.range_of.ensures in
    ap (λ (l : Lock). record { lock = l; place = args.place })
    (mine ∙ sym (holder-own (locks_in args.words.now) (lock_of q.fid q.shared) q args.area.now q.unlocks q.locks (args.place - args.held) args.place (omega arith) (omega arith)))

-- `chain::command::is_andx` meets its contract: the requests named are those of the definition, and no other is.
-- Assumes nothing.
use mathlib.Core.Path.{◌≡◌, refl}
use mathlib.Core.Bool.{true, false}
use mathlib.Core.Logic.{◌⊎◌, inl, inr}
use Rattle.std.specs.Prelude.{Some}
use Rattle.chain.specs.Request.{is_andx}
use Rattle.chain.specs.declared.command.ServedRequest.{ServedRequest}
use Rattle.chain.specs.declared.command.ServedRequest.TheVariants.{Locking, Read, Write, Close, Logoff, TreeDisconnect, ProcessExit, CoreRead, CoreWrite, LockByteRange, UnlockByteRange, Open}
use Rattle.chain.proofs.command.is_andx.Goals as goal

others : (r : ServedRequest) → (r ≡ Locking → ⊥) → (r ≡ Read → ⊥) → (r ≡ Write → ⊥) → (r ≡ Logoff → ⊥) → (r ≡ Open → ⊥) → false ≡ is_andx (Some r)
unfolding is_andx
others Locking l _ _ _ _ = absurd (l refl)
others Read _ r _ _ _ = absurd (r refl)
others Write _ _ w _ _ = absurd (w refl)
others Close _ _ _ _ _ = refl
others Logoff _ _ _ o _ = absurd (o refl)
others TreeDisconnect _ _ _ _ _ = refl
others ProcessExit _ _ _ _ _ = refl
others CoreRead _ _ _ _ _ = refl
others CoreWrite _ _ _ _ _ = refl
others LockByteRange _ _ _ _ _ = refl
others UnlockByteRange _ _ _ _ _ = refl
others Open _ _ _ _ p = absurd (p refl)

named : (r : ServedRequest) → (r ≡ Locking) ⊎ ((r ≡ Read) ⊎ ((r ≡ Write) ⊎ ((r ≡ Logoff) ⊎ (r ≡ Open)))) → true ≡ is_andx (Some r)
unfolding is_andx
named r (inl e) = rw e
named r (inr (inl e)) = rw e
named r (inr (inr (inl e))) = rw e
named r (inr (inr (inr (inl e)))) = rw e
named r (inr (inr (inr (inr e)))) = rw e

pub returns-in-Locking : goal.returns-in-Locking
returns-in-Locking c = named c.args.request c.in-Locking.is

pub returns-in_default : goal.returns-in_default
returns-in_default c =
    let n = c.in_default in
    others c.args.request n.not-Locking n.not-Read n.not-Write n.not-Logoff n.not-Open

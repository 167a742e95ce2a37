-- Of specs/Request7.antt: what rests on its other theorems. Assumes nothing.
use Rattle.std.proofs.Common.{inl, inr}
use Rattle.demands.proofs.NtStatus.{form-alone, number-zero}
use Rattle.demands.specs.ConflictCodes.{conflict_code}
use Rattle.order.specs.Demand1.{demand-1}
use Rattle.order.specs.Demand2.{demand-2}
use Rattle.order.specs.Demand3.{demand-3}
use Rattle.order.specs.Request2.{replies-stand-so}
use Rattle.order.specs.Possible7.{lock_with_bit, bit-set, bit-reading, bit-locking}
use Rattle.order.proofs.Possible7.{bit-answerable, bit-refused}
use Rattle.order.specs.Request7.{ByTheCommand, EitherForm, Request7, carries_so, first_by, one-list-so, refused-by}

pub by-the-command-so : ByTheCommand
unfolding conflict_code
by-the-command-so =
    record {
      refused-command = λ c spans a r bit says q. (
        λ e. elim e [ inl is ↦ refused-by c spans a r bit says q is | inr is ↦ refused-by c spans a r bit says q is ],
        λ e. elim e [ inl is ↦ refused-by c spans a r bit says q is | inr is ↦ refused-by c spans a r bit says q is ],
        λ e. elim e [ inl is ↦ refused-by c spans a r bit says q is | inr is ↦ refused-by c spans a r bit says q is ],
      );
      lock = λ c spans a r bit refused e. elim e [ inl is ↦ first_by c spans a r bit refused is | inr is ↦ first_by c spans a r bit refused is ];
      transfer = λ c spans a r bit refused e. elim e [
        | inl is ↦ first_by c spans a r bit refused is
        | inr f ↦ elim f [
          | inl is ↦ first_by c spans a r bit refused is
          | inr g ↦ elim g [ inl is ↦ first_by c spans a r bit refused is | inr is ↦ first_by c spans a r bit refused is ]
        ]
      ];
      happens = (bit-answerable, bit-reading, bit-set, bit-locking, bit-refused, first_by lock_with_bit _ bit-answerable bit-reading bit-set bit-refused bit-locking);
    }

pub either-form-so : EitherForm
either-form-so =
    record {
      same-refusal = λ c other but a. form-alone c.connection c.message other but c.tables c.memory c.room a.fit;
      as_before = replies-stand-so;
      zero = λ c a. number-zero c.connection c.message c.tables c.memory c.room a.fit;
    }

pub request-7 : Request7
request-7 = record { carries = carries_so; by-the-command = by-the-command-so; one_list = one-list-so; either-form = either-form-so; demand1 = demand-1; demand2 = demand-2; demand3 = demand-3 }

-- What a host call gave, handed on to the host. Assumes nothing.
use Rattle.std.specs.Prelude.{ℕ, Ok, Err}
use Rattle.std.proofs.Common.{Result}
use Rattle.host.specs.declared.answer.HostRefusal.{HostRefusal}

-- where the host wants the number given out or the answer: it is written where the call was done
abbrev pub given_after : ℕ → Result ℕ HostRefusal → ℕ
given_after old (Ok given) = given
given_after old (Err why) = old

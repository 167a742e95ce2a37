-- `locks::wire_form::inside32` meets its contract: the four bytes are those of the definition.
-- Assumes nothing.
use mathlib.Core.Path.{◌≡◌}
use Prim.Native.Nat.{◌+◌}
use native.Mathlib.Omega.{arith}
use Rattle.wire.specs.LittleEndian.{le16_at, le32_at}
use Rattle.locks.proofs.wire_form.inside32.Goals as goal

pub returns : goal.returns
unfolding le32_at le16_at
returns c =
    let last : c.args.at + 2 + 1 ≡ c.args.at + 3 = omega arith in
    (rw last (omega (arith, c.from.ensures, c.from_le_bytes.ensures)), omega (arith, c.from.ensures, c.from_le_bytes.type_inv))

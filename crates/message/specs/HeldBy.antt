-- Who holds the lock in the way, for the host (document 02, CR 2). Assumes nothing.
use Rattle.std.specs.Prelude.{Option}
use Rattle.locks.specs.declared.types.Holder.{Holder}

-- nobody, unless a command was refused for conflict
abbrev pub HeldBy : Type 0
HeldBy = Option Holder

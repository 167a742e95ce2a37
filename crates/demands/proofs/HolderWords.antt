-- Of specs/HolderWords.antt: what rests on its other theorems. Assumes nothing.
use Rattle.std.specs.Prelude.{ℕ, List}
use Rattle.records.specs.declared.Tables.{Tables}
use Rattle.locks.specs.declared.types.Holder.{Holder}
use Rattle.chain.specs.declared.block.Body.{Body}
use Rattle.chain.specs.declared.block.Body.TheVariants.{Locking as LockingBody, Read as ReadBody, Write as WriteBody, Close, Logoff, TreeDisconnect, ProcessExit, CoreRead as CoreReadBody, CoreWrite as CoreWriteBody, LockByteRange, UnlockByteRange, Open as OpenBody}
use Rattle.message.specs.declared.caller.Caller.{Caller}
use Rattle.demands.specs.HolderWords.{CommandHeld, HeldWhere, first-stands}
use Rattle.demands.specs.HolderWords.{many-ranges}
use Rattle.demands.specs.HolderWords.{one-range}
use Rattle.demands.specs.HolderWords.{size-held}
use Rattle.demands.specs.HolderWords.{write-held}

pub held-where : (c : Caller) (t : Tables) (area : List ℕ) (body : Body) (h : Holder) → CommandHeld c t area body h → HeldWhere c t area h
unfolding CommandHeld
held-where c t area (LockingBody f) h r = many-ranges r
held-where c t area (ReadBody f) h r = one-range (first-stands r.first)
held-where c t area (WriteBody f) h r = one-range (first-stands r.first)
held-where c t area (Close fid) h r = absurd r
held-where c t area Logoff h r = absurd r
held-where c t area TreeDisconnect h r = absurd r
held-where c t area ProcessExit h r = absurd r
held-where c t area (CoreReadBody f) h r = one-range (first-stands r.first)
held-where c t area (CoreWriteBody f) h (write-held n r) = one-range (first-stands r.first)
held-where c t area (CoreWriteBody f) h (size-held z r) = one-range (first-stands r.first)
held-where c t area (LockByteRange f) h r = one-range (first-stands r.first)
held-where c t area (UnlockByteRange f) h r = absurd r
held-where c t area (OpenBody f) h r = absurd r

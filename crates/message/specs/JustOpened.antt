-- FID 0xFFFF (document 02, CR 6): "READ_ANDX may follow .., where FID 0xFFFF means the file just opened". Nothing but READ_ANDX follows OPEN_ANDX, so what it
-- means is known from the command before: the FID that an OPEN_ANDX returned, and itself, which is nobody's FID, behind any other and at
-- the start. Assumes nothing.
use Rattle.std.specs.Prelude.{ℕ, cond, eqb}
use Rattle.chain.specs.declared.block.Body.{Body}
use Rattle.chain.specs.declared.block.Body.TheVariants.{Locking, Read, Write, Close, Logoff, TreeDisconnect, ProcessExit, CoreRead, CoreWrite, LockByteRange, UnlockByteRange, Open}
use Rattle.message.specs.Command.{Said, locked, logged_off, read, wrote, plain, core_read, core_wrote, opened}

abbrev pub NOBODY : ℕ
NOBODY = 0xFFFF

-- what 0xFFFF means in the block after one that says this
unfoldable pub opened_by : Said → ℕ
opened_by locked = NOBODY
opened_by logged_off = NOBODY
opened_by (read bytes) = NOBODY
opened_by (wrote count) = NOBODY
opened_by plain = NOBODY
opened_by (core_read bytes) = NOBODY
opened_by (core_wrote count) = NOBODY
opened_by (opened fid size access results) = fid

unfoldable pub fid_meant : ℕ → ℕ → ℕ
fid_meant just fid = cond (eqb fid NOBODY) just fid

-- "for 0xFFFF, and only then": a READ_ANDX with the FID that is meant; no other request has it
unfoldable pub body_meant : ℕ → Body → Body
body_meant just (Read f) = Read (record { fid = fid_meant just f.fid; offset = f.offset; max = f.max })
body_meant just (Locking f) = Locking f
body_meant just (Write f) = Write f
body_meant just (Close fid) = Close fid
body_meant just Logoff = Logoff
body_meant just TreeDisconnect = TreeDisconnect
body_meant just ProcessExit = ProcessExit
body_meant just (CoreRead f) = CoreRead f
body_meant just (CoreWrite f) = CoreWrite f
body_meant just (LockByteRange f) = LockByteRange f
body_meant just (UnlockByteRange f) = UnlockByteRange f
body_meant just (Open f) = Open f

-- `chain::judge::row_fits` meets its contract: each request's arm is the definition's.
-- Assumes nothing.
use Rattle.chain.specs.Rows.{row_fits}
use Rattle.chain.proofs.judge.row_fits.Goals as goal

pub returns-in-Locking : goal.returns-in-Locking
unfolding row_fits
returns-in-Locking c = rw c.in-Locking.is c.locking_fits.ensures

pub returns-in-Read : goal.returns-in-Read
unfolding row_fits
returns-in-Read c = rw c.in-Read.is c.read_fits.ensures

pub returns-in-Write : goal.returns-in-Write
unfolding row_fits
returns-in-Write c = rw c.in-Write.is c.write_fits.ensures

pub returns-in-Close : goal.returns-in-Close
unfolding row_fits
returns-in-Close c = rw c.in-Close.is c.is_bare.ensures

pub returns-in-Logoff : goal.returns-in-Logoff
unfolding row_fits
returns-in-Logoff c = rw c.in-Logoff.is c.is_bare-in-Logoff.ensures

pub returns-in-TreeDisconnect : goal.returns-in-TreeDisconnect
unfolding row_fits
returns-in-TreeDisconnect c = rw c.in-TreeDisconnect.is c.is_bare-in-TreeDisconnect.ensures

pub returns-in-ProcessExit : goal.returns-in-ProcessExit
unfolding row_fits
returns-in-ProcessExit c = rw c.in-ProcessExit.is c.is_bare-in-ProcessExit.ensures

pub returns-in-CoreRead : goal.returns-in-CoreRead
unfolding row_fits
returns-in-CoreRead c = rw c.in-CoreRead.is c.is_bare-in-CoreRead.ensures

pub returns-in-CoreWrite : goal.returns-in-CoreWrite
unfolding row_fits
returns-in-CoreWrite c = rw c.in-CoreWrite.is c.core_write_fits.ensures

pub returns-in-LockByteRange : goal.returns-in-LockByteRange
unfolding row_fits
returns-in-LockByteRange c = rw c.in-LockByteRange.is c.is_bare-in-LockByteRange.ensures

pub returns-in-UnlockByteRange : goal.returns-in-UnlockByteRange
unfolding row_fits
returns-in-UnlockByteRange c = rw c.in-UnlockByteRange.is c.is_bare-in-UnlockByteRange.ensures

pub returns-in-Open : goal.returns-in-Open
unfolding row_fits
returns-in-Open c = rw c.in-Open.is c.open_fits.ensures

-- The request that a command's number names, if it is served, by tests in the order of the grammar's table, and what of a request its name tells.
-- Assumes nothing.
use Rattle.std.specs.Prelude.{ℕ, Bool, true, false, cond, eqb, Option, None, Some}
use Rattle.chain.specs.Layout.{CLOSE, PROCESS_EXIT, LOCKING, READ, WRITE, TREE_DISCONNECT, LOGOFF, CORE-READ, CORE-WRITE, LOCK_BYTE_RANGE, UNLOCK_BYTE_RANGE, OPEN}
use Rattle.chain.specs.declared.command.ServedRequest.{ServedRequest}
use Rattle.chain.specs.declared.command.ServedRequest.TheVariants.{Locking, Read, Write, Close, Logoff, TreeDisconnect, ProcessExit, CoreRead, CoreWrite, LockByteRange, UnlockByteRange, Open}

unfoldable pub request_named : ℕ → Option ServedRequest
request_named command =
    cond (eqb command LOCKING) (Some Locking)
    (cond (eqb command READ) (Some Read)
    (cond (eqb command WRITE) (Some Write)
    (cond (eqb command CLOSE) (Some Close)
    (cond (eqb command LOGOFF) (Some Logoff)
    (cond (eqb command TREE_DISCONNECT) (Some TreeDisconnect)
    (cond (eqb command PROCESS_EXIT) (Some ProcessExit)
    (cond (eqb command CORE-READ) (Some CoreRead)
    (cond (eqb command CORE-WRITE) (Some CoreWrite)
    (cond (eqb command LOCK_BYTE_RANGE) (Some LockByteRange)
    (cond (eqb command UNLOCK_BYTE_RANGE) (Some UnlockByteRange)
    (cond (eqb command OPEN) (Some Open) None)))))))))))

-- the requests whose words begin with AndX
unfoldable pub is_andx : Option ServedRequest → Bool
is_andx (Some Locking) = true
is_andx (Some Read) = true
is_andx (Some Write) = true
is_andx (Some Close) = false
is_andx (Some Logoff) = true
is_andx (Some TreeDisconnect) = false
is_andx (Some ProcessExit) = false
is_andx (Some CoreRead) = false
is_andx (Some CoreWrite) = false
is_andx (Some LockByteRange) = false
is_andx (Some UnlockByteRange) = false
is_andx (Some Open) = true
is_andx None = false

unfoldable pub is_served : Option ServedRequest → Bool
is_served (Some _) = true
is_served None = false

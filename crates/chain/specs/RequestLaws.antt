-- Laws of the request that a command's number names: what holds of each request with its number, and where no request is named, holds of every number.
-- Assumes nothing.
use Rattle.std.specs.Prelude.{◌≡◌, refl, ℕ, ◌⊎◌, true, false, cond, eqb, Option, None, Some}
use Rattle.std.proofs.Common.{inl, inr, eqb-true}
use Rattle.lists.specs.Truth.{decided}
use Rattle.chain.specs.Layout.{CLOSE, PROCESS_EXIT, LOCKING, READ, WRITE, TREE_DISCONNECT, LOGOFF, CORE-READ, CORE-WRITE, LOCK_BYTE_RANGE, UNLOCK_BYTE_RANGE, OPEN}
use Rattle.chain.specs.Request.{request_named}
use Rattle.chain.specs.declared.command.ServedRequest.{ServedRequest}
use Rattle.chain.specs.declared.command.ServedRequest.TheVariants.{Locking, Read, Write, Close, Logoff, TreeDisconnect, ProcessExit, CoreRead, CoreWrite, LockByteRange, UnlockByteRange, Open}

-- a number that names no request served
pub record Unserved (command : ℕ) : Type 0 where
  pub no-locking : eqb command LOCKING ≡ false
  pub no_read : eqb command READ ≡ false
  pub no_write : eqb command WRITE ≡ false
  pub no-close : eqb command CLOSE ≡ false
  pub no-logoff : eqb command LOGOFF ≡ false
  pub no-tree-disconnect : eqb command TREE_DISCONNECT ≡ false
  pub no-process-exit : eqb command PROCESS_EXIT ≡ false
  pub no-core-read : eqb command CORE-READ ≡ false
  pub no-core-write : eqb command CORE-WRITE ≡ false
  pub no-lock-byte-range : eqb command LOCK_BYTE_RANGE ≡ false
  pub no-unlock-byte-range : eqb command UNLOCK_BYTE_RANGE ≡ false
  pub no-open : eqb command OPEN ≡ false

module _ (P : Option ServedRequest → ℕ → Type 0) (command : ℕ) where
  -- one test of the definition
  tested : (k : ℕ) (here other : Option ServedRequest) → P here k → (eqb command k ≡ false → P other command) → (eqb command k ≡ true) ⊎ (eqb command k ≡ false)
      → P (cond (eqb command k) here other) command
  tested k here other holds else (inl e) = rw (e, eqb-true command k e) holds
  tested k here other holds else (inr e) = rw e (else e)

  pub by-request : P (Some Locking) LOCKING → P (Some Read) READ → P (Some Write) WRITE → P (Some Close) CLOSE → P (Some Logoff) LOGOFF → P (Some TreeDisconnect) TREE_DISCONNECT → P (Some ProcessExit) PROCESS_EXIT
      → P (Some CoreRead) CORE-READ → P (Some CoreWrite) CORE-WRITE → P (Some LockByteRange) LOCK_BYTE_RANGE → P (Some UnlockByteRange) UNLOCK_BYTE_RANGE → P (Some Open) OPEN → (Unserved command → P None command) → P (request_named command) command
  unfolding request_named
  by-request locking read write close logoff tree-disconnect process-exit core-read core-write lock unlock opening none =
      tested LOCKING (Some Locking) _ locking
      (λ l. tested READ (Some Read) _ read
      (λ r. tested WRITE (Some Write) _ write
      (λ w. tested CLOSE (Some Close) _ close
      (λ c. tested LOGOFF (Some Logoff) _ logoff
      (λ o. tested TREE_DISCONNECT (Some TreeDisconnect) _ tree-disconnect
      (λ t. tested PROCESS_EXIT (Some ProcessExit) _ process-exit
      (λ p. tested CORE-READ (Some CoreRead) _ core-read
      (λ cr. tested CORE-WRITE (Some CoreWrite) _ core-write
      (λ cw. tested LOCK_BYTE_RANGE (Some LockByteRange) _ lock
      (λ lb. tested UNLOCK_BYTE_RANGE (Some UnlockByteRange) _ unlock
      (λ ub. tested OPEN (Some Open) _ opening
      (λ op. none
      (record {
        no-locking = l;
        no_read = r;
        no_write = w;
        no-close = c;
        no-logoff = o;
        no-tree-disconnect = t;
        no-process-exit = p;
        no-core-read = cr;
        no-core-write = cw;
        no-lock-byte-range = lb;
        no-unlock-byte-range = ub;
        no-open = op;
      }))
      (decided (eqb command OPEN)))
      (decided (eqb command UNLOCK_BYTE_RANGE)))
      (decided (eqb command LOCK_BYTE_RANGE)))
      (decided (eqb command CORE-WRITE)))
      (decided (eqb command CORE-READ)))
      (decided (eqb command PROCESS_EXIT)))
      (decided (eqb command TREE_DISCONNECT)))
      (decided (eqb command LOGOFF)))
      (decided (eqb command CLOSE)))
      (decided (eqb command WRITE)))
      (decided (eqb command READ)))
      (decided (eqb command LOCKING))

-- what a request's name tells of its number
unfoldable pub Names : Option ServedRequest → ℕ → Type 0
Names (Some Locking) command = command ≡ LOCKING
Names (Some Read) command = command ≡ READ
Names (Some Write) command = command ≡ WRITE
Names (Some Close) command = command ≡ CLOSE
Names (Some Logoff) command = command ≡ LOGOFF
Names (Some TreeDisconnect) command = command ≡ TREE_DISCONNECT
Names (Some ProcessExit) command = command ≡ PROCESS_EXIT
Names (Some CoreRead) command = command ≡ CORE-READ
Names (Some CoreWrite) command = command ≡ CORE-WRITE
Names (Some LockByteRange) command = command ≡ LOCK_BYTE_RANGE
Names (Some UnlockByteRange) command = command ≡ UNLOCK_BYTE_RANGE
Names (Some Open) command = command ≡ OPEN
Names None command = Unserved command

pub names : (command : ℕ) {request : Option ServedRequest} → request ≡ request_named command → Names request command
unfolding Names
names command e = rw e (by-request Names command refl refl refl refl refl refl refl refl refl refl refl refl (λ u. u))

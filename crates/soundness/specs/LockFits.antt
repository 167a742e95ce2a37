-- A lock's rule as it is tested, off the table of files.
-- Assumes nothing.
use Rattle.std.specs.Prelude.{ℕ, Bool, not, ◌&&◌, eqb}
use Rattle.locks.specs.Range.{passes_end}
use Rattle.records.specs.declared.Lock.{Lock}

-- the lock's FID has a file, and the lock does not pass 2^64
unfoldable pub lock_fits : (ℕ → ℕ) → Lock → Bool
lock_fits file l = not (passes_end l.offset l.length) && not (eqb (file l.fid) 255)

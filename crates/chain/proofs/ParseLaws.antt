-- Of specs/ParseLaws.antt: what rests on its other theorems. Assumes nothing.
use Rattle.std.specs.Prelude.{◌≡◌, ℕ, ◌≤◌, Bool, true, ◌&&◌, List, Some as Whole, None as Malformed}
use Rattle.std.proofs.Common.{sym, ◌∙◌}
use Rattle.std.proofs.Math.ListN.{length}
use Rattle.std.proofs.Math.Dec.{eqb}
use Rattle.lists.specs.Truth.{both_hold, chosen}
use Rattle.chain.specs.Layout.{CLOSE, PROCESS_EXIT, LOCKING, READ, WRITE, TREE_DISCONNECT, LOGOFF, CORE-READ, CORE-WRITE, LOCK_BYTE_RANGE, UNLOCK_BYTE_RANGE, OPEN, block_end, first_fid}
use Rattle.chain.specs.Parse.{bare, locking_fits, read_fits, write_fits, link_fits, link_at, answer, open_fits, parse_locking, parse_read, parse_write, parse_open, parse_logoff, parse_bare, core_read_at, parse_core_write, range_fields, parse}
use Rattle.chain.specs.declared.block.Body.{Body}
use Rattle.chain.specs.declared.block.Body.TheVariants.{Close, Logoff, TreeDisconnect, ProcessExit, LockByteRange, UnlockByteRange}
use Rattle.chain.specs.declared.block.Block.{Block}
use Rattle.chain.specs.ParseLaws.{Placed, answer-whole, bare-inside, link-ahead, locking-inside, open-inside, placed-bare, placed-core-write, read-inside, unserved, write-inside}

module _ (s : List ℕ) (command at : ℕ) (fits : Bool) (body : Body) (b : Block) (inside : fits ≡ true → block_end s at ≤ length s) where
  -- a block with AndX words, both of them fitting
  pub placed-link : answer s command at (fits && link_fits s command at) body (link_at s at) ≡ Whole b → Placed s at b
  placed-link e =
      let told = answer-whole s command at (fits && link_fits s command at) body (link_at s at) b e in
      let both = both_hold fits (link_fits s command at) told.0 in
      record { inside = inside both.0; ahead = λ c a f. link-ahead s command at c a both.1 (sym told.1 ∙ f) }

module _ (s : List ℕ) (at : ℕ) (b : Block) where
  pub placed-locking : parse_locking s at ≡ Whole b → Placed s at b
  unfolding parse_locking
  placed-locking e = placed-link s LOCKING at (locking_fits s at) _ b (locking-inside s at) e

  pub placed-read : parse_read s at ≡ Whole b → Placed s at b
  unfolding parse_read
  placed-read e = placed-link s READ at (read_fits s at) _ b (read-inside s at) e

  pub placed-write : parse_write s at ≡ Whole b → Placed s at b
  unfolding parse_write
  placed-write e = placed-link s WRITE at (write_fits s at) _ b (write-inside s at) e

  pub placed-open : parse_open s at ≡ Whole b → Placed s at b
  unfolding parse_open
  placed-open e = placed-link s OPEN at (open_fits s at) _ b (open-inside s at) e

  pub placed-logoff : parse_logoff s at ≡ Whole b → Placed s at b
  unfolding parse_logoff
  placed-logoff e = placed-link s LOGOFF at (bare s at 2) Logoff b (bare-inside s at 2) e

  -- whatever its command
  pub placed : (command : ℕ) → parse s command at ≡ Whole b → Placed s at b
  unfolding parse
  placed command e =
      chosen (eqb command LOCKING) (parse_locking s at) _ (Whole b) placed-locking
      (chosen (eqb command READ) (parse_read s at) _ (Whole b) placed-read
      (chosen (eqb command WRITE) (parse_write s at) _ (Whole b) placed-write
      (chosen (eqb command CLOSE) (parse_bare s CLOSE at 3 (Close (first_fid s at))) _ (Whole b) ((placed-bare s at b) CLOSE 3 _)
      (chosen (eqb command LOGOFF) (parse_logoff s at) _ (Whole b) placed-logoff
      (chosen (eqb command TREE_DISCONNECT) (parse_bare s TREE_DISCONNECT at 0 TreeDisconnect) _ (Whole b) ((placed-bare s at b) TREE_DISCONNECT 0 _)
      (chosen (eqb command PROCESS_EXIT) (parse_bare s PROCESS_EXIT at 0 ProcessExit) _ (Whole b) ((placed-bare s at b) PROCESS_EXIT 0 _)
      (chosen (eqb command CORE-READ) (parse_bare s CORE-READ at 5 (core_read_at s at)) _ (Whole b) ((placed-bare s at b) CORE-READ 5 _)
      (chosen (eqb command CORE-WRITE) (parse_core_write s at) _ (Whole b) (placed-core-write s at b)
      (chosen (eqb command LOCK_BYTE_RANGE) (parse_bare s LOCK_BYTE_RANGE at 5 (LockByteRange (range_fields s at))) _ (Whole b) ((placed-bare s at b) LOCK_BYTE_RANGE 5 _)
      (chosen (eqb command UNLOCK_BYTE_RANGE) (parse_bare s UNLOCK_BYTE_RANGE at 5 (UnlockByteRange (range_fields s at))) _ (Whole b) ((placed-bare s at b) UNLOCK_BYTE_RANGE 5 _)
      (chosen (eqb command OPEN) (parse_open s at) Malformed (Whole b) placed-open (unserved s at b))))))))))))
      e

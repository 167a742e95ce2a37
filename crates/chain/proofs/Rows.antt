-- Of specs/Rows.antt: what rests on its other theorems. Assumes nothing.
use Rattle.std.specs.Prelude.{◌≡◌, ℕ, ◌+◌, ◌≤◌, true, false, cond, List, length, Option, None as End, Some as Fits, None as NotFit}
use Rattle.std.proofs.Common.{sym, ap, ◌∙◌}
use Rattle.lists.specs.Truth.{both_hold}
use Rattle.chain.specs.Parse.{link_fits, parse}
use Rattle.chain.specs.Request.{request_named, is_andx}
use Rattle.chain.specs.RequestLaws.{by-request}
use Rattle.chain.specs.Judged.{is_whole, judged}
use Rattle.chain.specs.declared.block.Body.TheVariants.{ProcessExit}
use Rattle.chain.specs.declared.command.ServedRequest.{ServedRequest}
use Rattle.chain.specs.Rows.{Row, andx-inside, fits, judged-answer, link_judged, neither, next_at, row-close, row-core-read, row-core-write, row-lock-byte-range, row-locking, row-logoff, row-none, row-process-exit, row-tree-disconnect, row-unlock-byte-range, row_fits, row_open, row_read, row_write, whole-fits}

module _ (s : List ℕ) (at : ℕ) where
  pub parse-row : (command : ℕ) → (Row s at) command
  parse-row command =
      by-request (λ (request : Option ServedRequest) (command : ℕ). (Row s at) command) command (row-locking s at) (row_read s at) (row_write s at) (row-close s at) (row-logoff s at) (row-tree-disconnect s at)
      (ProcessExit, (row-process-exit s at)) (row-core-read s at) (row-core-write s at) (row-lock-byte-range s at) (row-unlock-byte-range s at) (row_open s at) (λ u. (ProcessExit, (row-none s at) command u))

module _ (s : List ℕ) (command at : ℕ) where
  -- judging needs no fields
  pub judged-row : judged (parse s command at) ≡ cond (fits s command at) (Fits (next_at s command at)) NotFit
  judged-row =
      let row = parse-row s at command in
      ap judged row.1.is ∙ judged-answer s command at (fits s command at) row.0 (next_at s command at)

  module _ (row : row_fits s (request_named command) at ≡ false) where
    pub judged-misfit : judged (parse s command at) ≡ NotFit
    unfolding fits
    judged-misfit = rw (judged-row, row, (neither s command at) (is_andx (request_named command)) (link_fits s command at))

  module _ (row : row_fits s (request_named command) at ≡ true) where
    pub judged-plain : is_andx (request_named command) ≡ false → judged (parse s command at) ≡ Fits End
    unfolding fits next_at
    judged-plain plain = rw (judged-row, plain, row)

    pub judged-link : is_andx (request_named command) ≡ true → judged (parse s command at) ≡ link_judged s command at
    unfolding fits next_at link_judged
    judged-link andx = rw (judged-row, andx, row)

-- its AndX words stand inside the message, where it has any
pub whole-andx : (s : List ℕ) (command at : ℕ) → is_whole (parse s command at) ≡ true → is_andx (request_named command) ≡ true → at + 5 ≤ length s
unfolding fits
whole-andx s command at e a =
    let row = parse-row s at command in
    let t : fits s command at ≡ true = whole-fits s command at (fits s command at) row.0 (next_at s command at) (sym (ap is_whole row.1.is) ∙ e) in
    andx-inside s (request_named command) at a (both_hold (row_fits s (request_named command) at) (link_fits s command at) (rw a at t)).0

-- Of specs/Effects.antt: what rests on its other theorems. Assumes nothing.
use Rattle.std.specs.Prelude.{◌≡◌, ℕ}
use mathlib.Core.List.{List, [], ◌∷◌}
use Rattle.wire.specs.LittleEndian.{le16_at}
use Rattle.records.specs.declared.Tables.{Tables}
use Rattle.claims.specs.RemovalPlain.{Closed, Exited}
use Rattle.chain.specs.Layout.{CLOSE, PROCESS_EXIT, header_command, FIRST, first_fid}
use Rattle.chain.specs.Grammar.{Span, Reading}
use Rattle.invariants.specs.BlockParse.{body_at}
use Rattle.invariants.specs.Sound.{Good}
use Rattle.invariants.specs.Fit.{Fit}
use Rattle.message.specs.Caller.{caller_of}
use Rattle.message.specs.Refusal.{status}
use Rattle.message.specs.Message.{take-message}
use Rattle.demands.specs.StatusRead.{status_read}
use Rattle.demands.proofs.CallEffects.{close-call, exit-call}
use Rattle.demands.specs.WireFields.{sender_process, first_body}
use Rattle.demands.specs.Effects.{call, only}

module _ (connection : ℕ) (s : List ℕ) {span : Span} (r : Reading s (span ∷ [])) (t : Tables) (memory room : List ℕ) (g : Good t) (fit : Fit s t memory room)
    (z : status_read (take-message connection s t memory room).room ≡ status 0 0) where
  -- "CLOSE removes the open and its locks"
  pub close-reading : header_command s ≡ CLOSE → Closed (first_fid s FIRST) t (call connection s r t memory room g fit z).tables × ((call connection s r t memory room g fit z).memory ≡ memory)
  unfolding body_at
  close-reading e = close-call connection s (only connection s r t memory room g fit z).block (only connection s r t memory room g fit z).is_read t memory room g fit z (first_fid s FIRST) (first_body (only connection s r t memory room g fit z) CLOSE e)

  -- "PROCESS_EXIT the opens of that UID and process": all 32 bits of it
  pub exit-reading : header_command s ≡ PROCESS_EXIT → Exited (le16_at s 28) (sender_process s) t (call connection s r t memory room g fit z).tables × ((call connection s r t memory room g fit z).memory ≡ memory)
  unfolding body_at caller_of
  exit-reading e = exit-call connection s (only connection s r t memory room g fit z).block (only connection s r t memory room g fit z).is_read t memory room g fit z (first_body (only connection s r t memory room g fit z) PROCESS_EXIT e)

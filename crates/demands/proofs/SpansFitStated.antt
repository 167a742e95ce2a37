-- Of specs/SpansFit.antt: what rests on its other theorems. Assumes nothing.
use Rattle.std.specs.Prelude.{◌≡◌, ℕ, ◌≤◌, length}
use Rattle.std.proofs.Common.{sym, ap, subst, ◌∙◌, arith}
use mathlib.Core.List.{List}
use Rattle.wire.specs.LittleEndian.{le32_at}
use Rattle.records.specs.declared.Tables.{Tables}
use Rattle.chain.specs.Layout.{header_command, FIRST}
use Rattle.chain.specs.Grammar.{Span, Reading}
use Rattle.invariants.specs.BlockParse.{body_at}
use Rattle.invariants.specs.Sound.{Good}
use Rattle.invariants.specs.Fit.{Fit}
use Rattle.readings.specs.ReaderComplete.{reader-complete}
use Rattle.message.specs.Caller.{caller_of}
use Rattle.message.specs.Refusal.{status}
use Rattle.message.specs.Message.{Ran, take-message}
use Rattle.message.specs.JustOpened.{NOBODY}
use Rattle.demands.specs.OneByOne.{send_all, compared, one_by_one}
use Rattle.demands.specs.Taken.{not-long, all_fit}
use Rattle.demands.specs.StatusRead.{status_read}
use Rattle.demands.proofs.Calls.{status-call}
use Rattle.demands.specs.LoneCall.{locking_area}
use Rattle.demands.specs.CommandReasons.{Reason}
use Rattle.demands.proofs.FirstReadings.{reading-exact}
use Rattle.demands.specs.SpansOneByOne.{own_span}
use Rattle.demands.specs.SpansRefused.{calls, last_returned, AllCarried, RefusedAt}
use Rattle.demands.proofs.SpansFit.{carried-all, next-fit, spans_fit}
use Rattle.demands.specs.SpansFit.{AllSentFit}

-- of any reading of a message fit to be answered whose reply's Status is 0/0 every block's message is carried out, on what the last one left
pub spans-carried : (connection : ℕ) (s : List ℕ) {spans : List Span} → Reading s spans → (t : Tables) (memory room small : List ℕ) → Good t → Fit s t memory room
    → length small ≡ 12292 → status_read (take-message connection s t memory room).room ≡ status 0 0 → AllCarried connection s small NOBODY spans t memory
unfolding compared
spans-carried connection s r t memory room small g fit n z =
    let a = reader-complete r in
    let enough : 12292 ≤ length small = omega arith in
    let same : status_read (take-message connection s t memory room).room ≡ (send_all connection s NOBODY a.0 t memory).forms.status =
    status-call connection s t memory room fit ∙ ap (λ (x : Ran). x.forms.status) (one_by_one connection s a.0 a.1 (not-long s fit.not-dropped) t memory) in
    rw a.2 at (carried-all connection s small enough (all_fit connection s a.0 a.1 fit.not-dropped t memory g fit.memory-whole) (sym same ∙ z))

-- "Order: as written, for the whole of each command with all its ranges, command by command": the Status of a chain that is refused has the reason of its command, on
-- what those before it left
pub refused-reason : (connection : ℕ) (s : List ℕ) {spans : List Span} → Reading s spans → (t : Tables) (memory room small : List ℕ) → Good t → Fit s t memory room
    → length small ≡ 12292
    → (q : RefusedAt connection s small NOBODY spans t memory (status_read (take-message connection s t memory room).room) (le32_at (take-message connection s t memory room).room 5) (take-message connection s t memory room).holder
    (take-message connection s t memory room).tables (take-message connection s t memory room).memory)
    → Reason (caller_of connection (own_span s (last_returned connection s small NOBODY q.front t memory) q.command)) (take-message connection s t memory room).tables (locking_area (own_span s (last_returned connection s small NOBODY q.front t memory) q.command))
    (body_at (own_span s (last_returned connection s small NOBODY q.front t memory) q.command) (header_command (own_span s (last_returned connection s small NOBODY q.front t memory) q.command)) FIRST) (status_read (take-message connection s t memory room).room)
refused-reason connection s {spans} r t memory room small g fit n q =
    let all = subst (λ (l : List Span). AllSentFit connection s small NOBODY l t memory) q.split (spans_fit connection s r t memory room small g fit n) in
    let f = next-fit connection s small q.front q.command q.later all q.front-carried in
    let why = (reading-exact connection (own_span s (last_returned connection s small NOBODY q.front t memory) q.command) f.reads (calls connection s small NOBODY q.front t memory).tables (calls connection s small NOBODY q.front t memory).memory small f.fit
    (status_read (take-message connection s t memory room).room)).0 q.status-so in
    subst (λ (x : Tables). Reason (caller_of connection (own_span s (last_returned connection s small NOBODY q.front t memory) q.command)) x (locking_area (own_span s (last_returned connection s small NOBODY q.front t memory) q.command))
    (body_at (own_span s (last_returned connection s small NOBODY q.front t memory) q.command) (header_command (own_span s (last_returned connection s small NOBODY q.front t memory) q.command)) FIRST) (status_read (take-message connection s t memory room).room)) (sym q.tables-left) why

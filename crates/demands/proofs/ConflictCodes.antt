-- Of specs/ConflictCodes.antt: what rests on its other theorems. Assumes nothing.
use Rattle.std.specs.Prelude.{◌≡◌, refl, ℕ, ◌≤◌, true, List, [], ◌∷◌, ◌++◌, length, None as End}
use Rattle.std.proofs.Common.{sym, ap, subst, ◌∙◌, arith}
use Rattle.wire.specs.LittleEndian.{byte_at, le32_at}
use Rattle.records.specs.declared.Tables.{Tables}
use Rattle.chain.specs.Layout.{header_command, FIRST}
use Rattle.chain.specs.Grammar.{Span, Reading}
use Rattle.chain.specs.declared.block.Block.{Block}
use Rattle.chain.specs.declared.block.Body.TheVariants.{Logoff}
use Rattle.invariants.specs.BlockParse.{body_at}
use Rattle.invariants.specs.ReaderSound.{span_of}
use Rattle.message.specs.Caller.{caller_of}
use Rattle.message.specs.Refusal.{status}
use Rattle.message.specs.Command.{perform}
use Rattle.message.specs.JustOpened.{NOBODY, body_meant}
use Rattle.message.specs.Reply.{nt_bit}
use Rattle.message.specs.Message.{area_of, data_of, Ran, take-message}
use Rattle.invariants.specs.Fit.{Fit}
use Rattle.invariants.specs.Sound.{Good}
use Rattle.demands.specs.Calls.{sentence-answered}
use Rattle.demands.specs.NtStatus.{nt-given}
use Rattle.demands.specs.LoneCall.{FirstConflict}
use Rattle.demands.proofs.LoneCall.{first-conflict, one-reply}
use Rattle.demands.specs.StatusRead.{status_read}
use Rattle.demands.specs.Taken.{not_short}
use Rattle.demands.specs.OneByOne.{own-header}
use Rattle.demands.specs.SpansOneByOne.{own_span}
use Rattle.demands.proofs.SpansOneByOne.{own-span}
use Rattle.demands.specs.SpansRefused.{calls, last_returned, AllCarried, at_first}
use Rattle.demands.specs.SpansFit.{AllSentFit}
use Rattle.demands.proofs.SpansFit.{spans_fit, next-fit}
use Rattle.demands.specs.RefusedCall.{step-refused}
use Rattle.demands.specs.WireFields.{reading-first, one-first, first_body}
use Rattle.demands.specs.DataBlock.{reading-block}
use Rattle.invariants.specs.JustOpenedLaws.{meant-nobody}
use Rattle.demands.specs.LoneLock.{held-refused}
use Rattle.demands.specs.ConflictCodes.{Coded, block-coded, conflict_code, first-command, nt_in}

-- the first command of a message that asks for NT status, refused for conflict (1/33 in a reply of one refused block, whatever commands follow)
pub first-coded : (connection : ℕ) (s : List ℕ) {spans : List Span} → Reading s spans → (t : Tables) (memory room : List ℕ) → Fit s t memory room → nt_bit s ≡ true
    → FirstConflict (take-message connection s t memory room) → le32_at (take-message connection s t memory room).room 5 ≡ conflict_code (header_command s)
unfolding nt_in
first-coded connection s r t memory room fit asked h =
    let q = reading-first r in
    let c = caller_of connection s in
    let b = q.1.block in
    let w = (first-conflict connection s b q.0 q.1.is_read t memory room fit).0 h in
    let v = held-refused (perform c t memory b.body (area_of s b) (data_of s b)) w.0 w.1 in
    let ended = sentence-answered connection s t memory (b ∷ q.0) q.1.is_read ∙ step-refused c s NOBODY b q.0 FIRST t memory v.0 (rw (meant-nobody b.body) v.1) in
    let body : body_meant NOBODY (body_at s (header_command s) FIRST) ≡ b.body = meant-nobody (body_at s (header_command s) FIRST) ∙ sym (first_body q.1 (header_command s) refl) in
    let coded : Coded (conflict_code (header_command s)) (perform c t memory b.body (area_of s b) (data_of s b)) =
    rw body at (block-coded c t memory (reading-block r) (area_of s b) (data_of s b) NOBODY) in
    nt-given connection s t memory room fit asked ∙ ap (λ (x : Ran). x.forms.nt) ended ∙ sym (ap nt_in v.1) ∙ coded w

-- whichever command of a chain is refused for conflict: its own message, sent on what those before it left, has the NTSTATUS of that command
pub chain-coded : (connection : ℕ) (s : List ℕ) {spans : List Span} → Reading s spans → (t : Tables) (memory room small : List ℕ) → Good t → Fit s t memory room → length small ≡ 12292
    → nt_bit s ≡ true → (front : List Span) (x : Span) (later : List Span) → spans ≡ front ++ (x ∷ later) → AllCarried connection s small NOBODY front t memory
    → (let own = take-message connection (own_span s (last_returned connection s small NOBODY front t memory) x) (calls connection s small NOBODY front t memory).tables (calls connection s small NOBODY front t memory).memory small in
    status_read own.room ≡ status 1 33 → le32_at own.room 5 ≡ conflict_code x.command)
unfolding nt_bit at_first span_of
chain-coded connection s r t memory room small g fit n asked front x later split carried h =
    let all = subst (λ (l : List Span). AllSentFit connection s small NOBODY l t memory) split (spans_fit connection s r t memory room small g fit n) in
    let f = next-fit connection s small front x later all carried in
    let just = last_returned connection s small NOBODY front t memory in
    let long : 35 ≤ length s = not_short s fit.not-dropped in
    let b : Block = record { command = x.command; at = x.place; length = x.size; body = Logoff; next = End } in
    let byte : byte_at (own_span s just x) 11 ≡ byte_at s 11 = ap (λ (l : List ℕ). byte_at l 11) (sym (own-span s just b)) ∙ own-header s just b (omega arith) 11 (omega arith) (λ e. omega arith) in
    let short = one-first f.reads in
    first-coded connection (own_span s just x) f.reads _ _ small f.fit (rw byte asked)
    (h, one-reply connection (own_span s just x) short.block short.is_read _ _ small f.fit h)
    ∙ ap conflict_code (sym (first-command f.reads [] refl))

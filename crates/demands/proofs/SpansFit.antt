-- Of specs/SpansFit.antt: what rests on its other theorems. Assumes nothing.
use Rattle.std.specs.Prelude.{◌≡◌, ◌↔◌, ℕ, ◌≤◌, length, Some}
use Rattle.std.proofs.Common.{sym, ap, subst, ◌∙◌, inl, inr, arith}
use Rattle.std.proofs.Math.Bool.{true}
use mathlib.Core.List.{List, [], ◌∷◌, ◌++◌, map}
use Rattle.lists.specs.Truth.{decided}
use Rattle.records.specs.declared.Tables.{Tables}
use Rattle.chain.specs.Layout.{header_command, FIRST}
use Rattle.chain.specs.Grammar.{Span, Reading}
use Rattle.chain.specs.Chain.{blocks}
use Rattle.chain.specs.declared.block.Block.{Block}
use Rattle.invariants.specs.ReaderSound.{span_of, reader-sound}
use Rattle.invariants.specs.Chained.{read-chained}
use Rattle.invariants.specs.Sound.{Good, answered-good}
use Rattle.invariants.specs.Fit.{Fit}
use Rattle.readings.specs.ReaderComplete.{reader-complete}
use Rattle.message.specs.Refusal.{status}
use Rattle.message.specs.declared.refusal.Forms.{Forms}
use Rattle.message.specs.Message.{answered, reply_of, take-message}
use Rattle.message.specs.JustOpened.{NOBODY}
use Rattle.demands.specs.Returned.{returned_fid}
use Rattle.demands.specs.OneByOne.{own, send_all}
use Rattle.demands.specs.Taken.{not-long, AllFit, none_left, next_fits, all_fit}
use Rattle.demands.specs.CallsOneByOne.{carried_out}
use Rattle.demands.specs.StatusRead.{zero-succeeded, status_read, succeeded}
use Rattle.demands.proofs.Calls.{status-call}
use Rattle.demands.specs.SpansOneByOne.{call_spans}
use Rattle.demands.proofs.SpansOneByOne.{own-span}
use Rattle.demands.specs.SpansRefused.{sent, calls, returned, last_returned, AllCarried, none-sent, carried-then, at_first, AllLone, lone-none, lone-then, carried-calls, not-zero, later-just, send-on, send-off}
use Rattle.demands.proofs.SpansRefused.{all-lone, carried-succeeds, carried-is, tables-is, memory-is, returned-is}
use Rattle.demands.specs.SpansFit.{AllSentFit, SentFit}
use Rattle.demands.specs.SpansFit.{fit_then}
use Rattle.demands.specs.SpansFit.{no_more}

module _ (connection : ℕ) (s small : List ℕ) where
  -- one of the reader's blocks, and those behind it
  pub one-fit : (just : ℕ) (b d : Block) (t : Tables) (memory : List ℕ) → Good t → Fit (own s just b) t memory small → blocks (own s just b) ≡ Some (d ∷ []) → span_of d ≡ at_first (span_of b)
      → SentFit s small just (span_of b) t memory
  one-fit just b d t memory g fits one there =
      record {
        good = g;
        fit = subst (λ (l : List ℕ). Fit l t memory small) (own-span s just b) fits;
        reads = subst (λ (l : List ℕ). Reading l (at_first (span_of b) ∷ [])) (own-span s just b)
            (subst (λ (x : Span). Reading (own s just b) (x ∷ [])) there (reader-sound (own s just b) (d ∷ []) one));
      }

  pub left-fit : (just : ℕ) (b : Block) (bs : List Span) (t : Tables) (memory : List ℕ) → Fit (own s just b) t memory small
      → (AllSentFit connection s small) (returned_fid (reply_of (own s just b) (answered connection (own s just b) t memory))) bs (answered connection (own s just b) t memory).tables
      (answered connection (own s just b) t memory).memory
      → (AllSentFit connection s small) (returned connection s small just (span_of b) t memory) bs (sent connection s small just (span_of b) t memory).tables (sent connection s small just (span_of b) t memory).memory
  left-fit just b bs t memory fits more =
      rw (returned-is connection s small just b t memory fits, tables-is connection s small just b t memory fits, memory-is connection s small just b t memory fits) more

  pub blocks-fit : {just : ℕ} {bs : List Block} {t : Tables} {memory : List ℕ} → 12292 ≤ length small → AllFit connection s just bs t memory → AllLone s bs → Good t
      → (AllSentFit connection s small) just (map span_of bs) t memory
  blocks-fit enough none_left lone-none g = no_more
  blocks-fit {t = t} {memory = memory} enough (next_fits {just} {b} {bs} low fit more) (lone-then one rest) g =
      let d = one just low in
      fit_then (one-fit just b d.0 t memory g (fit small enough) d.1 d.2)
      (left-fit just b (map span_of bs) t memory (fit small enough) (blocks-fit enough more rest (answered-good connection (own s just b) t memory g)))

  -- behind those that were carried out the next is such a one
  pub next-fit : {just : ℕ} {t : Tables} {memory : List ℕ} (front : List Span) (b : Span) (later : List Span) → (AllSentFit connection s small) just (front ++ (b ∷ later)) t memory
      → AllCarried connection s small just front t memory
      → SentFit s small (last_returned connection s small just front t memory) b (calls connection s small just front t memory).tables (calls connection s small just front t memory).memory
  unfolding call_spans last_returned
  next-fit [] b later (fit_then f more) none-sent = f
  next-fit {just} {t} {memory} (d ∷ front) b later (fit_then f more) (carried-then e rest) = behind-one just d front b t memory e (next-fit {just = returned connection s small just d t memory} front b later more rest)
    where
      behind-one : (just : ℕ) (d : Span) (front : List Span) (b : Span) (t : Tables) (memory : List ℕ) → carried_out (sent connection s small just d t memory) ≡ true
          → SentFit s small (last_returned connection s small (returned connection s small just d t memory) front (sent connection s small just d t memory).tables (sent connection s small just d t memory).memory) b
          (calls connection s small (returned connection s small just d t memory) front (sent connection s small just d t memory).tables (sent connection s small just d t memory).memory).tables
          (calls connection s small (returned connection s small just d t memory) front (sent connection s small just d t memory).tables (sent connection s small just d t memory).memory).memory
          → SentFit s small (last_returned connection s small just (d ∷ front) t memory) b (calls connection s small just (d ∷ front) t memory).tables (calls connection s small just (d ∷ front) t memory).memory
      behind-one just d front b t memory e f = let k = carried-calls connection s small just d front t memory e in rw (k.0, k.1) f

-- "Each is taken by demand 2's definition, same connection, reply room 12,292": of any reading of a message fit to be answered
pub spans_fit : (connection : ℕ) (s : List ℕ) {spans : List Span} → Reading s spans → (t : Tables) (memory room small : List ℕ) → Good t → Fit s t memory room
    → length small ≡ 12292 → AllSentFit connection s small NOBODY spans t memory
unfolding blocks
spans_fit connection s r t memory room small g fit n =
    let a = reader-complete r in
    let enough : 12292 ≤ length small = omega arith in
    rw a.2 at
    (blocks-fit connection s small enough (all_fit connection s a.0 a.1 fit.not-dropped t memory g fit.memory-whole)
    (all-lone (read-chained s (header_command s) FIRST a.0 a.1) (omega arith) (not-long s fit.not-dropped)) g)

-- a message fit to be answered is carried out exactly if its reply's Status is 0/0
pub carried-exact : (connection : ℕ) (message : List ℕ) (t : Tables) (memory room : List ℕ) → Fit message t memory room
    → (carried_out (take-message connection message t memory room) ≡ true) ↔ (status_read (take-message connection message t memory room).room ≡ status 0 0)
unfolding succeeded status
carried-exact connection message t memory room fit =
    let same = carried-succeeds connection message t memory room fit in
    let read = status-call connection message t memory room fit in (
      λ e. read ∙ zero-succeeded (answered connection message t memory).forms.status (sym same ∙ e),
      λ z. same ∙ ap succeeded (sym read ∙ z),
    )

module _ (connection : ℕ) (s small : List ℕ) where
  pub carried-by : (just : ℕ) (b : Block) (bs : List Block) (t : Tables) (memory : List ℕ) → Fit (own s just b) t memory small → (send_all connection s just (b ∷ bs) t memory).forms.status ≡ status 0 0
      → ((send_all connection s (later-just connection s small just b bs t memory) bs (answered connection (own s just b) t memory).tables (answered connection (own s just b) t memory).memory).forms.status ≡ status 0 0
      → AllCarried connection s small (later-just connection s small just b bs t memory) (map span_of bs) (answered connection (own s just b) t memory).tables
      (answered connection (own s just b) t memory).memory)
      → AllCarried connection s small just (span_of b ∷ map span_of bs) t memory
  carried-by just b bs t memory fits z later =
      elim (decided (succeeded (answered connection (own s just b) t memory).forms.status)) [
        | inl e ↦
            let k = send-on connection s small just b bs t memory e in
            let rest : AllCarried connection s small (returned connection s small just (span_of b) t memory) (map span_of bs) (sent connection s small just (span_of b) t memory).tables
            (sent connection s small just (span_of b) t memory).memory =
            rw (returned-is connection s small just b t memory fits, tables-is connection s small just b t memory fits, memory-is connection s small just b t memory fits) (later (sym (ap (λ (f : Forms). f.status) k.0) ∙ z)) in
            carried-then (carried-is connection s small just b t memory fits ∙ e) rest
        | inr e ↦ absurd (not-zero connection s small just b t memory fits e (sym (ap (λ (f : Forms). f.status) (send-off connection s small just b bs t memory e).0) ∙ z))
      ]

  pub carried-all : {just : ℕ} {bs : List Block} {t : Tables} {memory : List ℕ} → 12292 ≤ length small → AllFit connection s just bs t memory
      → (send_all connection s just bs t memory).forms.status ≡ status 0 0 → AllCarried connection s small just (map span_of bs) t memory
  carried-all enough none_left z = none-sent
  carried-all {t = t} {memory = memory} enough (next_fits {just} {b} {bs} low fit more) z = carried-by just b bs t memory (fit small enough) z (λ y. carried-all enough more y)

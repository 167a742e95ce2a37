-- Of specs/SpansRefused.antt: what rests on its other theorems. Assumes nothing.
use Rattle.std.specs.Prelude.{◌≡◌, ℕ, ◌≤◌, false, length, Some}
use Rattle.std.proofs.Math.Path.{refl, sym, ap}
use Rattle.std.proofs.Common.{◌∙◌, inl, inr, arith}
use mathlib.Core.List.{List, [], ◌∷◌, map}
use Rattle.lists.specs.Truth.{decided}
use Rattle.wire.specs.LittleEndian.{le32_at}
use Rattle.records.specs.declared.Tables.{Tables}
use Rattle.chain.specs.Layout.{header_command, FIRST}
use Rattle.chain.specs.Grammar.{Span, Reading}
use Rattle.chain.specs.Chain.{blocks}
use Rattle.chain.specs.declared.block.Block.{Block}
use Rattle.invariants.specs.ReaderSound.{span_of}
use Rattle.invariants.specs.Chained.{read-chained}
use Rattle.invariants.specs.Sound.{Good}
use Rattle.invariants.specs.Fit.{Fit, fit-answered}
use Rattle.readings.specs.ReaderComplete.{reader-complete}
use Rattle.message.specs.Refusal.{status}
use Rattle.message.specs.declared.refusal.Forms.{Forms}
use Rattle.message.specs.Reply.{status_number}
use Rattle.message.specs.Message.{Ran, Taken, replied, take-message}
use Rattle.message.specs.JustOpened.{NOBODY}
use Rattle.demands.specs.OneByOne.{own, send_all, compared, one_by_one}
use Rattle.demands.specs.Taken.{not_short, not-long, AllFit, none_left, next_fits, all_fit}
use Rattle.demands.specs.StatusRead.{status_read, succeeded}
use Rattle.demands.proofs.Calls.{status-call}
use Rattle.demands.specs.Calls.{status-number-call}
use Rattle.demands.specs.SpansOneByOne.{call_spans}
use Rattle.demands.proofs.SpansRefused.{all-lone, carried-is, holder-is, memory-is, number_is, refused-later, refused-same, returned-is, status-is, tables-is}
use Rattle.demands.proofs.SpansRefusedStated.{number_at}
use Rattle.demands.specs.SpansRefused.{AllLone, RefusedAt, gave, last_returned, later-just, ran, refused-last, send-none, send-off, send-on, whole}
use Rattle.demands.specs.SpansRefused.{lone-none}
use Rattle.demands.specs.SpansRefused.{lone-then}
use Rattle.demands.specs.SpansRefused.{none-sent}

module _ (connection : ℕ) (s small : List ℕ) where
  module _ (just : ℕ) (b : Block) (t : Tables) (memory : List ℕ) (fits : Fit (own s just b) t memory small) where
    -- and is the one refused
    pub refused-here : 32 ≤ length s → (d : Block) → blocks (own s just b) ≡ Some (d ∷ []) → succeeded (ran connection s small just b t memory fits).forms.status ≡ false → (bs : List Span)
        → RefusedAt connection s small just (span_of b ∷ bs) t memory (ran connection s small just b t memory fits).forms.status (status_number s (ran connection s small just b t memory fits).forms) (ran connection s small just b t memory fits).holder (ran connection s small just b t memory fits).tables (ran connection s small just b t memory fits).memory
    unfolding call_spans last_returned
    refused-here long d one e bs =
        let u = (refused-same connection s small just b t memory fits) d one e in
        record {
          front = [];
          command = span_of b;
          later = bs;
          split = refl;
          front-carried = none-sent;
          tables-left = sym (tables-is connection s small just b t memory fits) ∙ u.same_tables;
          memory-left = sym (memory-is connection s small just b t memory fits) ∙ u.same_memory;
          number-so = (number_is connection s small just b t memory fits);
          status-so = (status-is connection s small just b t memory fits);
          bytes-so = (number_at connection s small just b t memory fits) long;
          holder-so = (holder-is connection s small just b t memory fits);
          untouched = u;
          not-begun = (refused-last connection s small) just (span_of b) bs t memory ((carried-is connection s small just b t memory fits) ∙ e);
        }

  module _ (just : ℕ) (b : Block) (bs : List Block) (t : Tables) (memory : List ℕ) where
    -- so one of them is the one refused
    pub stopped_by : 32 ≤ length s → Fit (own s just b) t memory small → (d : Block) → blocks (own s just b) ≡ Some (d ∷ []) → ((whole connection s small just b bs t memory).forms.status ≡ status 0 0 → ⊥)
        → (((send_all connection s (later-just connection s small just b bs t memory) bs (gave connection s small just b bs t memory).tables (gave connection s small just b bs t memory).memory).forms.status ≡ status 0 0 → ⊥)
        → RefusedAt connection s small (later-just connection s small just b bs t memory) (map span_of bs) (gave connection s small just b bs t memory).tables (gave connection s small just b bs t memory).memory (send_all connection s (later-just connection s small just b bs t memory) bs (gave connection s small just b bs t memory).tables (gave connection s small just b bs t memory).memory).forms.status
        (status_number s (send_all connection s (later-just connection s small just b bs t memory) bs (gave connection s small just b bs t memory).tables (gave connection s small just b bs t memory).memory).forms)
        (send_all connection s (later-just connection s small just b bs t memory) bs (gave connection s small just b bs t memory).tables (gave connection s small just b bs t memory).memory).holder (send_all connection s (later-just connection s small just b bs t memory) bs (gave connection s small just b bs t memory).tables (gave connection s small just b bs t memory).memory).tables (send_all connection s (later-just connection s small just b bs t memory) bs (gave connection s small just b bs t memory).tables (gave connection s small just b bs t memory).memory).memory)
        → RefusedAt connection s small just (span_of b ∷ map span_of bs) t memory (whole connection s small just b bs t memory).forms.status (status_number s (whole connection s small just b bs t memory).forms) (whole connection s small just b bs t memory).holder (whole connection s small just b bs t memory).tables (whole connection s small just b bs t memory).memory
    stopped_by long fits d one n later =
        elim (decided (succeeded (gave connection s small just b bs t memory).forms.status)) [
          | inl e ↦
              let k = (send-on connection s small just b bs t memory) e in
              rw (k.0, k.1, k.2, k.3)
              ((refused-later connection s small) just (span_of b) (map span_of bs) t memory _ _ _ _ _ ((carried-is connection s small) just b t memory fits ∙ e)
              (rw ((returned-is connection s small) just b t memory fits, (tables-is connection s small) just b t memory fits, (memory-is connection s small) just b t memory fits) (later (λ z. n (ap (λ (f : Forms). f.status) k.0 ∙ z)))))
          | inr e ↦ let k = (send-off connection s small just b bs t memory) e in rw (k.0, k.1, k.2, k.3) (refused-here just b t memory fits long d one e (map span_of bs))
        ]

  pub stopped : {just : ℕ} {bs : List Block} {t : Tables} {memory : List ℕ} → 32 ≤ length s → 12292 ≤ length small → AllFit connection s just bs t memory → AllLone s bs
      → ((send_all connection s just bs t memory).forms.status ≡ status 0 0 → ⊥)
      → RefusedAt connection s small just (map span_of bs) t memory (send_all connection s just bs t memory).forms.status (status_number s (send_all connection s just bs t memory).forms) (send_all connection s just bs t memory).holder
      (send_all connection s just bs t memory).tables (send_all connection s just bs t memory).memory
  stopped {just} {t = t} {memory = memory} long enough none_left lone-none n = absurd (n ((send-none connection s small) just t memory))
  stopped {t = t} {memory = memory} long enough (next_fits {just} {b} {bs} low fit more) (lone-then one rest) n =
      let d = one just low in
      stopped_by just b bs t memory long (fit small enough) d.0 d.1 n (λ z. stopped long enough more rest z)

-- "A command refused changes no table and no file byte, its own unlocks included. Commands before it in the chain stand; those after it aren't begun": of any
-- reading of a message fit to be answered whose reply's Status is not 0/0
pub spans-refused : (connection : ℕ) (s : List ℕ) {spans : List Span} → Reading s spans → (t : Tables) (memory room small : List ℕ) → Good t → Fit s t memory room
    → length small ≡ 12292 → (status_read (take-message connection s t memory room).room ≡ status 0 0 → ⊥)
    → RefusedAt connection s small NOBODY spans t memory (status_read (take-message connection s t memory room).room) (le32_at (take-message connection s t memory room).room 5)
    (take-message connection s t memory room).holder
    (take-message connection s t memory room).tables (take-message connection s t memory room).memory
unfolding replied compared blocks
spans-refused connection s r t memory room small g fit n nonzero =
    let a = reader-complete r in
    let short : length s ≤ 8192 = not-long s fit.not-dropped in
    let same = one_by_one connection s a.0 a.1 short t memory in
    let one = fit-answered connection s t memory room fit in
    let status-same : status_read (take-message connection s t memory room).room ≡ (send_all connection s NOBODY a.0 t memory).forms.status =
    status-call connection s t memory room fit ∙ ap (λ (x : Ran). x.forms.status) same in
    let number_same : le32_at (take-message connection s t memory room).room 5 ≡ status_number s (send_all connection s NOBODY a.0 t memory).forms =
    status-number-call connection s t memory room fit ∙ ap (λ (x : Ran). status_number s x.forms) same in
    let holder-same : (take-message connection s t memory room).holder ≡ (send_all connection s NOBODY a.0 t memory).holder =
    ap (λ (x : Taken). x.holder) one ∙ ap (λ (x : Ran). x.holder) same in
    let tables-same : (take-message connection s t memory room).tables ≡ (send_all connection s NOBODY a.0 t memory).tables =
    ap (λ (x : Taken). x.tables) one ∙ ap (λ (x : Ran). x.tables) same in
    let memory-same : (take-message connection s t memory room).memory ≡ (send_all connection s NOBODY a.0 t memory).memory =
    ap (λ (x : Taken). x.memory) one ∙ ap (λ (x : Ran). x.memory) same in
    let long : 35 ≤ length s = not_short s fit.not-dropped in
    let q = stopped connection s small (omega arith) (omega arith) (all_fit connection s a.0 a.1 fit.not-dropped t memory g fit.memory-whole)
    (all-lone (read-chained s (header_command s) FIRST a.0 a.1) (omega arith) short) (λ z. nonzero (status-same ∙ z)) in
    rw (status-same, number_same, holder-same, tables-same, memory-same) (rw a.2 at q)

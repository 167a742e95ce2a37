-- Of specs/NtStatus.antt: what rests on its other theorems. Assumes nothing.
use Rattle.std.specs.Prelude.{◌≡◌, refl, ℕ, ◌+◌, ◌≤◌, ◌↔◌, true, not, ◌||◌, eqb, ltb, List, length, Option, None, Some}
use Rattle.std.proofs.Common.{sym, ap, ◌∙◌, arith, eqb-true, eq-eqb}
use Rattle.lists.specs.Truth.{test-cases}
use Rattle.wire.specs.LittleEndian.{le32_at}
use Rattle.records.specs.declared.Tables.{Tables}
use Rattle.soundness.specs.Sound.{sound}
use Rattle.chain.specs.Layout.{header_command}
use Rattle.chain.specs.Grammar.{Span, Reading, Sentence}
use Rattle.chain.specs.declared.block.Block.{Block}
use Rattle.chain.specs.Header.{dropped}
use Rattle.chain.specs.Chain.{blocks}
use Rattle.invariants.specs.ReaderSound.{reader-sound}
use Rattle.readings.specs.ReaderComplete.{no-sentence}
use Rattle.invariants.specs.Fit.{Fit, fit-answered}
use Rattle.readings.proofs.FreeBytes.{free-reading, all_alike}
use Rattle.message.specs.Refusal.{status}
use Rattle.message.specs.declared.refusal.Status.{Status}
use Rattle.message.specs.Reply.{nt_bit, status_number}
use Rattle.message.specs.Message.{Ran, served, answered, reply_of, Taken, not_taken, replied, take-message}
use Rattle.claims.specs.YesOrNo.{RanBefore, TakenBefore, untaken, replied_before, take_before}
use Rattle.claims.specs.BeforeHolder.{blank, both-chosen}
use Rattle.claims.proofs.BeforeHolder.{answered-before}
use Rattle.claims.specs.StatusList.{answered-ended}
use Rattle.claims.proofs.StatusList.{ended-says}
use Rattle.demands.specs.StatusRead.{status_read, succeeded, zero-succeeded, status-replied, zero_number}
use Rattle.demands.specs.Malformed.{malformed-nothing, not-served}
use Rattle.demands.specs.FreeBytesMessage.{sent-answered}
use Rattle.demands.specs.Taken.{not_short}
use Rattle.demands.proofs.Calls.{status-call}
use Rattle.demands.specs.Calls.{status-number-call, length-call}
use Rattle.demands.specs.NtStatus.{ButByte11, NtBeside, SameButForm, all-stand, back, before-read, call, dropped-alike, listed-beside, nt-given, room-alike, sender}

module _ (connection : ℕ) (s : List ℕ) (t : Tables) (memory room : List ℕ) (fit : Fit s t memory room) where
  -- "and carries" the NTSTATUS beside the class and code that a reader finds
  pub nt-beside : nt_bit s ≡ true → NtBeside (status_read (call connection s t memory room fit).room) (le32_at (call connection s t memory room fit).room 5)
  nt-beside asked = rw (status-call connection s t memory room fit, (nt-given connection s t memory room fit) asked) (listed-beside (answered-ended connection s t memory))

module _ (s t : List ℕ) (but : ButByte11 s t) where
  -- so a reading of one is a reading of the other
  pub reading-too : {spans : List Span} → Reading s spans → Reading t spans
  reading-too r = free-reading t (but.same 4 (λ e. omega arith)) r ((all-stand s t but) r)

module _ (connection : ℕ) (s t : List ℕ) (but : ButByte11 s t) (u : Tables) (memory : List ℕ) where
  -- a message that is no sentence is none in the other form
  pub none_alike : served (header_command s) ≡ true → (Sentence s → ⊥) → answered connection t u memory ≡ answered connection s u memory
  none_alike e n =
      malformed-nothing connection t u memory (rw (but.same 4 (λ e. omega arith)) e) (λ r. n (r.0, reading-too t s (back but) r.1)) ∙ sym (malformed-nothing connection s u memory e n)

  pub read_alike : (o : Option (List Block)) → blocks s ≡ o → served (header_command s) ≡ true → answered connection t u memory ≡ answered connection s u memory
  read_alike (Some bs) f e =
      let r = reader-sound s bs f in
      sent-answered s t (sender s t but) r (all_alike (all-stand s t but r)) connection u memory
  read_alike None f e = none_alike e ((no-sentence s).0 f)

  -- "A reader of either form must find the same refusal": what the message leaves, its status in both forms with it, does not depend on the bit
  pub forms-alike : answered connection t u memory ≡ answered connection s u memory
  forms-alike =
      test-cases (served (header_command s)) (λ e. read_alike (blocks s) refl e)
      (λ e. not-served connection t u memory (rw (but.same 4 (λ e. omega arith)) e) ∙ sym (not-served connection s u memory e))

pub form-alone : (connection : ℕ) (s t : List ℕ) → ButByte11 s t → (u : Tables) (memory room : List ℕ) → Fit s u memory room
    → SameButForm (take-message connection s u memory room) (take-message connection t u memory room)
unfolding replied reply_of
form-alone connection s t but u memory room fit =
    let other : Fit t u memory room = record { room-enough = fit.room-enough; memory-whole = fit.memory-whole; tables-sound = fit.tables-sound; not-dropped = dropped-alike connection s t but u memory ∙ fit.not-dropped } in
    let a = fit-answered connection s u memory room fit in
    let b = fit-answered connection t u memory room other in
    let same = forms-alike connection s t but u memory in
    let long : 35 ≤ length s = not_short s fit.not-dropped in
    let n = but.same_length in
    record {
      same_number = ap (λ (k : Taken). k.number) b ∙ sym (ap (λ (k : Taken). k.number) a);
      same_length = length-call connection t u memory room other ∙ ap (λ (r : Ran). 32 + length r.blocks) same ∙ sym (length-call connection s u memory room fit);
      same-holder = ap (λ (k : Taken). k.holder) b ∙ ap (λ (r : Ran). r.holder) same ∙ sym (ap (λ (k : Taken). k.holder) a);
      same_tables = ap (λ (k : Taken). k.tables) b ∙ ap (λ (r : Ran). r.tables) same ∙ sym (ap (λ (k : Taken). k.tables) a);
      same_memory = ap (λ (k : Taken). k.memory) b ∙ ap (λ (r : Ran). r.memory) same ∙ sym (ap (λ (k : Taken). k.memory) a);
      same-status = status-call connection t u memory room other ∙ ap (λ (r : Ran). r.forms.status) same ∙ sym (status-call connection s u memory room fit);
      same-room =
          ap (λ (k : Taken). blank k.room) b
          ∙ ap (λ (r : Ran). blank (replied t room r).room) same
          ∙ room-alike connection s t but u memory long room (answered connection s u memory)
          ∙ sym (ap (λ (k : Taken). blank k.room) a);
    }

pub number-zero : (connection : ℕ) (s : List ℕ) (t : Tables) (memory room : List ℕ) → Fit s t memory room
    → (le32_at (take-message connection s t memory room).room 5 ≡ 0) ↔ (status_read (take-message connection s t memory room).room ≡ status 0 0)
unfolding succeeded status
number-zero connection s t memory room fit =
    let f = (answered connection s t memory).forms in
    let z = zero_number s f (ended-says (answered-ended connection s t memory)) in
    let n = status-number-call connection s t memory room fit in
    let k = status-call connection s t memory room fit in (
      λ h. k ∙ zero-succeeded f.status (sym z ∙ eq-eqb (status_number s f) 0 (sym n ∙ h)),
      λ h. n ∙ eqb-true (status_number s f) 0 (z ∙ ap succeeded (sym k ∙ h)),
    )

-- of every call: what a reader finds in the room, in its form, is what stood there before CR 2 and CR 7
pub status-as-before : (connection : ℕ) (s : List ℕ) (t : Tables) (memory room : List ℕ)
    → status_read (take-message connection s t memory room).room ≡ status_read (take_before connection s t memory room).room
unfolding take_before take-message untaken not_taken
status-as-before connection s t memory room =
    let now : Taken → Status = λ k. status_read k.room in
    let before : TakenBefore → Status = λ k. status_read k.room in
    let r = answered connection s t memory in
    let says = ended-says (answered-ended connection s t memory) in
    both-chosen now before (ltb (length room) 12292 || not (eqb (length memory) 65536)) refl
    (both-chosen now before (not (sound t)) refl
    (both-chosen now before (dropped s) refl
    (status-replied s room r says ∙ sym (before-read s room r says) ∙ sym (ap (λ (q : RanBefore). status_read (replied_before s room q).room) (answered-before connection s t memory)))))

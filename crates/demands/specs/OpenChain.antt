-- FID 0xFFFF behind an OPEN_ANDX (document 02, CR 6: "READ_ANDX may follow .., where FID 0xFFFF means the file just opened; for 0xFFFF, and only then, demand 3's separate READ
-- carries the FID returned"), by the bytes of messages and replies. Assumes nothing.
use Rattle.std.specs.Prelude.{◌≡◌, refl, ℕ, ◌+◌, ◌*◌, ◌%◌, ◌≤◌, ◌<◌, true, take, None as End, None as none, None as Nobody}
use Rattle.std.proofs.Common.{ap, ◌∙◌, arith, get_or-take, eq-eqb}
use Rattle.std.proofs.Math.Decide.{ℕ_discrete}
use mathlib.Core.List.{List, [], ◌∷◌, ◌++◌, Memᴰ as In}
use Rattle.std.proofs.Math.ListN.{length}
use Rattle.wire.specs.LittleEndian.{byte_at, le16_at}
use Rattle.records.specs.declared.Open.{Open}
use Rattle.records.specs.declared.Tables.{Tables}
use Rattle.lists.specs.Members.{in_map}
use Rattle.numbers.specs.Column.{fid_of}
use Rattle.soundness.specs.Sound.{sound}
use Rattle.chain.specs.Layout.{READ, OPEN, NO_COMMAND, header_command, FIRST, andx_command, open_flags}
use Rattle.chain.specs.Grammar.{Name, IsBlock, locking-10, locking-20, read-10, read-12, write-12, write-14, close, logoff, tree-disconnect, process-exit, core-read, core-write, lock-byte-range, unlock-byte-range, open-15, MayFollow, locking-read, locking-write, locking-core-read, locking-core-write, read-close, write-write, write_read, write-close, open-read, read-andx, NamedAndx, Span, ReadingFrom, plain_end, andx-end, andx-next, Reading}
use Rattle.chain.specs.declared.block.Block.{Block}
use Rattle.chain.specs.declared.block.Body.TheVariants.{Logoff}
use Rattle.invariants.specs.BlockParse.{plain-not-andx}
use Rattle.invariants.specs.Fit.{Fit, fit-answered}
use Rattle.invariants.specs.Numbered.{numbered_within}
use Rattle.invariants.specs.SoundParts.{sound-says}
use Rattle.message.specs.Refusal.{success, forms_of, holder_of}
use Rattle.message.specs.declared.caller.Caller.{Caller}
use Rattle.message.specs.Caller.{caller_of}
use Rattle.message.specs.Command.{Given, refused, done}
use Rattle.message.specs.Message.{Ran, after, after_given, link_to, run, answered, reply_of, Taken, take-message}
use Rattle.message.specs.Reply.{reply_block, refused_block, reply_size}
use Rattle.message.specs.JustOpened.{NOBODY, opened_by}
use Rattle.demands.specs.Admitted.{Admitted}
use Rattle.demands.specs.Carrying.{carrying-byte, lone-gives}
use Rattle.demands.specs.Returned.{returned_fid, reply-returned, reply-none, Silent, silent-said, other-silent}
use Rattle.demands.specs.CallsOneByOne.{reply_in, reply-read}
use Rattle.demands.specs.CoreMoved.{Stands, stands-in}
use Rattle.demands.specs.OpenEffects.{OpenDone}
use Rattle.demands.specs.SpansOneByOne.{alone_span, own_span}
use Rattle.demands.specs.Taken.{not_short}

-- ---- by the grammar

-- an OPEN_ANDX's block has 15 words and a name with its zero byte
pub open_row : {s : List ℕ} {at command : ℕ} → IsBlock s at command → command ≡ OPEN → Name s at
open_row (locking-10 p h) e = absurd (omega arith)
open_row (locking-20 p h) e = absurd (omega arith)
open_row (read-10 h) e = absurd (omega arith)
open_row (read-12 h) e = absurd (omega arith)
open_row (write-12 h) e = absurd (omega arith)
open_row (write-14 h) e = absurd (omega arith)
open_row (close h) e = absurd (omega arith)
open_row (logoff h) e = absurd (omega arith)
open_row (tree-disconnect h) e = absurd (omega arith)
open_row (process-exit h) e = absurd (omega arith)
open_row (core-read h) e = absurd (omega arith)
open_row (core-write h) e = absurd (omega arith)
open_row (lock-byte-range h) e = absurd (omega arith)
open_row (unlock-byte-range h) e = absurd (omega arith)
open_row (open-15 h) e = h

-- READ_ANDX alone follows it
pub only-read : {command next : ℕ} → MayFollow command next → command ≡ OPEN → next ≡ READ
only-read locking-read e = absurd (omega arith)
only-read locking-write e = absurd (omega arith)
only-read locking-core-read e = absurd (omega arith)
only-read locking-core-write e = absurd (omega arith)
only-read read-close e = absurd (omega arith)
only-read write-write e = absurd (omega arith)
only-read write_read e = absurd (omega arith)
only-read write-close e = absurd (omega arith)
only-read open-read e = refl

-- and it follows nothing
pub comes-first : {command next : ℕ} → MayFollow command next → next ≡ OPEN → ⊥
comes-first locking-read e = omega arith
comes-first locking-write e = omega arith
comes-first locking-core-read e = omega arith
comes-first locking-core-write e = omega arith
comes-first read-close e = omega arith
comes-first write-write e = omega arith
comes-first write_read e = omega arith
comes-first write-close e = omega arith
comes-first open-read e = omega arith

-- ---- the FID returned

-- the one block of a reading ends the chain
some_block : {s : List ℕ} {command at : ℕ} {spans : List Span} → ReadingFrom s command at spans → 1 ≤ length spans
some_block (plain_end h p) = omega arith
some_block (andx-end h a e) = omega arith
some_block (andx-next h m g r) = omega arith

one-alone : {s : List ℕ} {command at : ℕ} {span : Span} {rest : List Span} → ReadingFrom s command at (span ∷ rest) → length rest ≡ 0
    → IsBlock s at command × (NamedAndx command → andx_command s at ≡ NO_COMMAND)
one-alone (plain_end h p) last = (h, λ a. absurd (plain-not-andx p a))
one-alone (andx-end h a e) last = (h, λ _. e)
one-alone (andx-next h m g r) last = let more = some_block r in absurd (omega arith)

no_more : (c : Caller) (s : List ℕ) (j p : ℕ) (u : Tables) (m : List ℕ) → run c s j [] p u m ≡ record { forms = success; holder = Nobody; tables = u; memory = m; blocks = [] }
unfolding run
no_more c s j p u m = refl

-- of a message of one command that is no OPEN_ANDX, none
given-silent : (message : List ℕ) → 32 ≤ length message → (g : Given) → Silent g → (t : Tables) (memory : List ℕ) (only : ℕ → ℕ → Tables → List ℕ → Ran)
    → ((j p : ℕ) (u : Tables) (m : List ℕ) → only j p u m ≡ record { forms = success; holder = Nobody; tables = u; memory = m; blocks = [] })
    → returned_fid (reply_of message (after_given g [] FIRST t memory only)) ≡ NOBODY
unfolding after_given after link_to
given-silent message long (refused why) silent t memory only ends =
    reply-none message (record { forms = forms_of why; holder = holder_of why; tables = t; memory = memory; blocks = refused_block }) long refl
given-silent message long (done u m said) silent t memory only ends =
    let e = silent-said silent in
    rw (ends (opened_by said) (FIRST + reply_size said) u m)
    (reply-returned message (record { forms = success; holder = Nobody; tables = u; memory = m; blocks = reply_block said FIRST none ++ [] }) said FIRST long refl (omega arith) ∙ e)

one-returned : (connection : ℕ) (s : List ℕ) {span : Span} → Reading s (span ∷ []) → (t : Tables) (memory : List ℕ) → 35 ≤ length s → (header_command s ≡ OPEN → ⊥)
    → returned_fid (reply_of s (answered connection s t memory)) ≡ NOBODY
one-returned connection s r t memory long n =
    let b = one-alone r refl in
    rw (lone-gives s b.0 refl b.1 connection t memory)
    (given-silent s (omega arith) _ (other-silent (caller_of connection s) t memory b.0 n NOBODY _ _) t memory (λ j p u k. run (caller_of connection s) s j [] p u k) (no_more (caller_of connection s) s))

-- an OPEN_ANDX that is done returns the new open's
pub open-returns : (connection : ℕ) (s : List ℕ) (t : Tables) (memory room : List ℕ) (d : OpenDone connection s t memory (take-message connection s t memory room))
    → returned_fid (reply_in (take-message connection s t memory room)) ≡ d.new.fid
unfolding returned_fid reply_in le16_at
open-returns connection s t memory room d =
    let call : Taken = take-message connection s t memory room in
    let n : (take-message connection s t memory room).length ≡ 65 = d.reply-ends in
    let at : (k : ℕ) → k < 65 → byte_at (take (take-message connection s t memory room).length (take-message connection s t memory room).room) k ≡ byte_at (take-message connection s t memory room).room k =
    λ k h. get_or-take (take-message connection s t memory room).length (take-message connection s t memory room).room k 0 (omega arith) in
    let w = words d in
    rw (at 32 (omega arith), at 37 (omega arith), at 38 (omega arith), eq-eqb (byte_at (take-message connection s t memory room).room 32) 15 w.0) w.1
  where
    words : {connection : ℕ} {s : List ℕ} {t : Tables} {memory : List ℕ} {call : Taken} (d : OpenDone connection s t memory call)
        → (byte_at call.room 32 ≡ 15) × (byte_at call.room 37 + 256 * byte_at call.room 38 ≡ d.new.fid)
    words {s = s} d = elim (ℕ_discrete (open_flags s FIRST % 2) 1) [
      | yes e ↦ ((d.full-reply e).words, (d.full-reply e).fid-said)
      | no e ↦ ((d.short-reply e).words, (d.short-reply e).fid-said)
    ]

-- ---- what a separate READ carries

module _ (s : List ℕ) {spans : List Span} (r : Reading s spans) (small : length s ≤ 8192) (x : Span) (i : In x spans) (just : ℕ) where
  pub stands : Stands s x
  stands = stands-in r (omega arith) x i

  abbrev pub as_block : Block
  as_block = record { command = x.command; at = x.place; length = x.size; body = Logoff; next = End }

  pub named : x.command ≡ READ → NamedAndx x.command
  named e = rw e read-andx

  pub carries-rest : (k : ℕ) → (k ≡ 37 → ⊥) → (k ≡ 38 → ⊥) → byte_at (own_span s just x) k ≡ byte_at (alone_span s x) k
  unfolding own_span
  carries-rest k p q = carrying-byte just (alone_span s x) k p q

-- ---- anywhere else it is an unknown FID

-- no open of sound tables has it
pub nobodys-fid : (c : Caller) (t : Tables) (o : Open) → sound t ≡ true → Admitted c t NOBODY o → ⊥
nobodys-fid c t o ok a =
    let h : o.fid ≤ 64 = (numbered_within 64 (in_map fid_of a.opened.listed) (sound-says t ok).records.fids).1 in
    let e : o.fid ≡ NOBODY = a.opened.of-fid in
    omega arith

-- the reply of another command returns nothing
pub other-returns : (connection : ℕ) (s : List ℕ) {span : Span} → Reading s (span ∷ []) → (t : Tables) (memory room : List ℕ) → Fit s t memory room → (header_command s ≡ OPEN → ⊥)
    → returned_fid (reply_in (take-message connection s t memory room)) ≡ NOBODY
other-returns connection s r t memory room fit n =
    ap (λ (k : Taken). returned_fid (reply_in k)) (fit-answered connection s t memory room fit)
    ∙ ap returned_fid (reply-read s room (answered connection s t memory))
    ∙ one-returned connection s r t memory (not_short s fit.not-dropped) n

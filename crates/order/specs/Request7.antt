-- Change request 7 of document 02, "NT status", sentence by sentence. Assumes nothing.
use Rattle.std.specs.Prelude.{◌≡◌, ◌↔◌, ◌⊎◌, ℕ, ◌*◌, ◌/◌, ◌%◌, true}
use Rattle.std.proofs.Common.{sym, ◌∙◌, eq-eqb}
use mathlib.Core.List.{List, Memᴰ as In}
use Rattle.std.proofs.lemmas.List.{length-replicate}
use Rattle.wire.specs.LittleEndian.{byte_at}
use Rattle.chain.specs.Layout.{LOCKING, READ, WRITE, CORE-READ, CORE-WRITE, LOCK_BYTE_RANGE, header_command}
use Rattle.chain.specs.Grammar.{Span, Reading}
use Rattle.message.specs.Refusal.{status, forms_of, status_of, nt_of}
use Rattle.message.specs.declared.refusal.Refusal.{Refusal}
use Rattle.message.specs.Reply.{nt_bit}
use Rattle.claims.specs.StatusList.{status_list, listed, read_nt, as_one, as_one_lem}
use Rattle.claims.proofs.StatusList.{one-old-form, nt-apart, found-exactly, none-zero}
use Rattle.demands.specs.NtStatus.{NtBeside, ButByte11, SameButForm}
use Rattle.demands.proofs.NtStatus.{nt-beside}
use Rattle.demands.specs.ConflictCodes.{conflict_code}
use Rattle.demands.proofs.ConflictCodes.{first-coded, chain-coded}
use Rattle.demands.proofs.ReplyHeader.{reply-header}
use Rattle.order.specs.Call.{Call, gives, Answerable, Says, status_given, status_number_given, AsksNt, sending, some_room}
use Rattle.order.specs.Demand1.{Demand1, CommandRefused}
use Rattle.order.specs.Demand2.{Demand2, RefusedForConflict}
use Rattle.order.specs.Demand3.{Demand3}
use Rattle.order.specs.Request2.{RepliesStand}
use Rattle.order.specs.Possible.{chain_spans}
use Rattle.order.specs.Possible7.{lock_with_bit}

-- Class and code are what a reader of either form finds (Call.antt: `status_given`), so demands 1, 2 and 3 say of both forms what they say of a Status: each with its reason, what a
-- command that is done leaves, what is malformed. Demand 3's `OneToAMessage` is an equation of every byte of the reply, Status in its form among them; so is demand 1's
-- `CommandRefused` of Status (`bytes-alone`).

-- ---- "With the bit set in a request, the reply sets it and carries: .."

pub record Carries : Type 0 where
  -- every reply to a request with the bit has the bit, also with Status 0, 2/22 and 2/1, and no other has it: Flags2 is the request's & 0x4001 (docs/DECISIONS.md, 127)
  pub flags2 : (c : Call) → Answerable c → (byte_at (gives c).room 10 ≡ byte_at c.message 10 % 2) × (byte_at (gives c).room 11 ≡ byte_at c.message 11 / 64 % 2 * 64)
  -- little-endian at 5 the NTSTATUS that the list has beside class and code, 0 beside 0/0
  pub list : (c : Call) → Answerable c → AsksNt c → NtBeside (status_given c) (status_number_given c)

-- "C0000055 for a lock refused, C0000054 for a read or write refused": by the command refused, READ and WRITE in all forms, count 0 too (docs/DECISIONS.md, 118)
pub record ByTheCommand : Type 0 where
  -- whichever command is refused for conflict, alone, first or behind others
  pub refused-command : (c : Call) (spans : List Span) → Answerable c → Reading c.message spans → AsksNt c → Says c 1 33 → (q : CommandRefused c spans)
      → ((q.command.command ≡ LOCKING) ⊎ (q.command.command ≡ LOCK_BYTE_RANGE) → status_number_given c ≡ 0xC0000055)
      × ((q.command.command ≡ READ) ⊎ (q.command.command ≡ CORE-READ) → status_number_given c ≡ 0xC0000054)
      × ((q.command.command ≡ WRITE) ⊎ (q.command.command ≡ CORE-WRITE) → status_number_given c ≡ 0xC0000054)
  -- the first command, by the message's bytes alone
  pub lock : (c : Call) (spans : List Span) → Answerable c → Reading c.message spans → AsksNt c → RefusedForConflict c
      → (header_command c.message ≡ LOCKING) ⊎ (header_command c.message ≡ LOCK_BYTE_RANGE) → status_number_given c ≡ 0xC0000055
  pub transfer : (c : Call) (spans : List Span) → Answerable c → Reading c.message spans → AsksNt c → RefusedForConflict c
      → (header_command c.message ≡ READ) ⊎ (header_command c.message ≡ CORE-READ) ⊎ (header_command c.message ≡ WRITE) ⊎ (header_command c.message ≡ CORE-WRITE)
      → status_number_given c ≡ 0xC0000054
  -- and that happens: a LOCKING with the bit meets a lock (whole replies with either code: literals/specs/NtReplies.antt)
  pub happens : Answerable lock_with_bit × Reading lock_with_bit.message chain_spans × AsksNt lock_with_bit × (header_command lock_with_bit.message ≡ LOCKING) × RefusedForConflict lock_with_bit
      × (status_number_given lock_with_bit ≡ 0xC0000055)

-- ---- "A reader of either form must find the same refusal, the two lock codes being one in the old form: one proof over the whole list."

pub record OneList : Type 0 where
  -- the list leaves no refusal out
  pub whole : (why : Refusal) → In (forms_of why) status_list
  -- two refusals have one old form exactly if they have one NT form, the two lock codes taken as one
  pub either : (one other : Refusal) → (status_of one ≡ status_of other) ↔ (as_one (nt_of one) ≡ as_one (nt_of other))
  pub lock-codes : (as_one 0xC0000054 ≡ 0xC0000055) × ((n : ℕ) → (n ≡ 0xC0000054 → ⊥) → as_one n ≡ n)
  -- so different refusals have different NT forms where the old forms differ
  pub apart : (one other : Refusal) → (status_of one ≡ status_of other → ⊥) → nt_of one ≡ nt_of other → ⊥
  -- a reader of the NT form finds a refusal's old form in its numbers, and in no other number
  pub found : (n : ℕ) (why : Refusal) → (read_nt n ≡ status_of why) ↔ (as_one n ≡ as_one (nt_of why))
  -- none is 0
  pub none_is_zero : (why : Refusal) → (status_of why ≡ status 0 0 → ⊥) × (nt_of why ≡ 0 → ⊥)

pub record EitherForm : Type 0 where
  -- the same message with another byte at 11, so with the bit or without it: the same is found, and all else that the call gives is the same, every byte of the reply but Status
  -- and that byte
  pub same-refusal : (c : Call) (other : List ℕ) → ButByte11 c.message other → Answerable c → SameButForm (gives c) (gives (sending c other))
  -- without the bit a reply is as before, every byte, and so is all else; with it all but Status and the bit, and in Status the same is found
  pub as_before : RepliesStand
  -- "refused (Status not 0)": the four bytes of Status are 0 exactly if class and code are
  pub zero : (c : Call) → Answerable c → (status_number_given c ≡ 0) ↔ Says c 0 0

pub record Request7 : Type 0 where
  pub carries : Carries
  pub by-the-command : ByTheCommand
  pub one_list : OneList
  pub either-form : EitherForm
  -- and demands 1, 2 and 3 hold with it
  pub demand1 : Demand1
  pub demand2 : Demand2
  pub demand3 : Demand3

-- ---- the proof: each line cites the theorem that does the work

asks : (c : Call) → AsksNt c → nt_bit c.message ≡ true
unfolding nt_bit
asks c e = eq-eqb (byte_at c.message 11 / 64 % 2) 1 e

pub carries_so : Carries
carries_so =
    record {
      flags2 = λ c a. (reply-header c.connection c.message c.tables c.memory c.room a.fit).flags2;
      list = λ c a bit. nt-beside c.connection c.message c.tables c.memory c.room a.fit (asks c bit);
    }

-- by the command's number
pub first_by : (c : Call) (spans : List Span) → Answerable c → Reading c.message spans → AsksNt c → RefusedForConflict c → {command : ℕ} → header_command c.message ≡ command
    → status_number_given c ≡ conflict_code command
first_by c spans a r bit refused e = rw (← e) (first-coded c.connection c.message r c.tables c.memory c.room a.fit (asks c bit) refused)

pub refused-by : (c : Call) (spans : List Span) → Answerable c → Reading c.message spans → AsksNt c → Says c 1 33 → (q : CommandRefused c spans) → {command : ℕ} → q.command.command ≡ command
    → status_number_given c ≡ conflict_code command
refused-by c spans a r bit says q e =
    rw (← e)
    (sym q.bytes-alone
    ∙ chain-coded c.connection c.message r c.tables c.memory c.room some_room a.good a.fit (length-replicate {A = ℕ} 12292 0) (asks c bit) q.front q.command q.later q.split q.front-stands
    (q.refused-alone ∙ says))

pub one-list-so : OneList
one-list-so = record { whole = listed; either = one-old-form; lock-codes = as_one_lem; apart = nt-apart; found = found-exactly; none_is_zero = none-zero }

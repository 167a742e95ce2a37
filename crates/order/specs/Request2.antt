-- Change request 2 of document 02, "Say who holds the lock", sentence by sentence. Assumes nothing.
use Rattle.std.specs.Prelude.{◌≡◌, ◌↔◌, ◌+◌, ◌^◌, ◌≤◌, ◌<◌, ◌/◌, ◌%◌, true, false, length, None as Nobody, Some as held_by}
use Rattle.std.proofs.Common.{sym, ne_eqb}
use mathlib.Core.List.{List, [], ◌∷◌, ◌++◌, map, Memᴰ as In}
use Rattle.wire.specs.LittleEndian.{byte_at}
use Rattle.records.specs.declared.Open.{Open}
use Rattle.records.specs.Held.{locks_of}
use Rattle.locks.specs.declared.types.Holder.{Holder}
use Rattle.chain.specs.Layout.{LOCKING, READ, WRITE, CORE-READ, CORE-WRITE, LOCK_BYTE_RANGE, header_command, FIRST, fid_after_andx, lock_type, unlock_count, read_max, data_length, first_fid, core_count, core_offset}
use Rattle.chain.specs.Grammar.{Span, Reading}
use Rattle.chain.specs.Parse.{range_fields}
use Rattle.message.specs.JustOpened.{NOBODY}
use Rattle.message.specs.Reply.{nt_bit}
use Rattle.message.specs.Message.{run}
use Rattle.invariants.specs.ReaderSound.{span_of}
use Rattle.invariants.specs.Sound.{Good}
use Rattle.claims.specs.YesOrNo.{take_before}
use Rattle.claims.specs.BeforeHolder.{without_holder, but_status}
use Rattle.claims.proofs.BeforeHolder.{before-holder, before-status}
use Rattle.demands.specs.LoneLock.{Owner, AnyLock}
use Rattle.demands.specs.CommandReasons.{OnlyTwoBits}
use Rattle.demands.specs.RefusedCall.{Untouched}
use Rattle.demands.specs.WireFields.{read_from, write_from}
use Rattle.demands.specs.HolderWords.{FirstInWay, RangeLockHeld}
use Rattle.demands.specs.HolderStands.{Met}
use Rattle.demands.specs.HolderOpen.{HolderFound}
use Rattle.demands.specs.HolderFirst.{FirstMeets}
use Rattle.demands.specs.HolderWire.{LockHeldOn, OwnRangeOn}
use Rattle.demands.specs.StatusRead.{status_read}
use Rattle.demands.proofs.NtStatus.{status-as-before}
use Rattle.order.specs.Call.{Call, gives, Answerable, Says, sender, status_given, AsksNt}
use Rattle.order.specs.Demand2.{range_asked, shared_asked, AsksOneLock, ValidOpen, core_asked, ValidCoreOpen, covered_from, covered_count}
use Rattle.order.specs.Possible.{plant}
use Rattle.order.specs.Possible2.{two_asked, first_range}

-- A holder is the lock in the way, with its FID and process, and its place, from 0 (locks/src/types.rt). What a call gives has one, or none (message/specs/Message.antt),
-- and the contract of the entry point puts it into the host's words (boundary/specs/Boundary.antt). The first command of a message met it where the reply is the header and
-- one refused block (`FirstMeets`).

-- "The conflict test is to give, instead of yes or no, the place of the first conflicting lock in the list as it then stands": the holder is exactly the lock at the first
-- place of that list that is in the way (`FirstInWay`)
pub record PlaceOfTheFirst : Type 0 where
  -- of a LOCKING: the request's unlocks are taken out, its own earlier ranges stand at the end (docs/DECISIONS.md, 67), for the first of its ranges that has one in its way
  pub lock : (c : Call) (spans : List Span) (h : Holder) → Answerable c → Reading c.message spans → header_command c.message ≡ LOCKING
      → FirstMeets (gives c) h ↔ LockHeldOn c.connection c.message c.tables h
  -- demand 2's "lock alone in its request, of a served type, on a valid open and within range": the first "listed lock of that file" that "overlaps it and the two aren't
  -- both shared"
  pub lone-lock : (c : Call) (spans : List Span) (o : Open) (h : Holder) → Answerable c → Reading c.message spans → AsksOneLock c → OnlyTwoBits (lock_type c.message FIRST)
      → ValidOpen c o → (range_asked c).offset + (range_asked c).length ≤ 2 ^ 64
      → FirstMeets (gives c) h ↔ FirstInWay c.tables o (locks_of c.tables) (range_asked c).offset (range_asked c).length (λ l. (l.shared ≡ true) × (shared_asked c ≡ true) → ⊥) h
  -- of a read "an exclusive lock of another owner" that "overlaps offset and max"; the owner is the message's FID with its sender's process
  pub read : (c : Call) (spans : List Span) (o : Open) (h : Holder) → Answerable c → Reading c.message spans → header_command c.message ≡ READ → ValidOpen c o → (o.access ≡ 1 → ⊥)
      → FirstMeets (gives c) h ↔ FirstInWay c.tables o (locks_of c.tables) (read_from c.message) (read_max c.message FIRST)
      (λ l. (l.shared ≡ false) × (Owner (fid_after_andx c.message FIRST) (sender c).process l → ⊥)) h
  -- of a write any that overlaps it "save the writer's own exclusive ones"
  pub write : (c : Call) (spans : List Span) (o : Open) (h : Holder) → Answerable c → Reading c.message spans → header_command c.message ≡ WRITE → ValidOpen c o → (o.access ≡ 0 → ⊥)
      → FirstMeets (gives c) h ↔ FirstInWay c.tables o (locks_of c.tables) (write_from c.message) (data_length c.message FIRST)
      (λ l. (l.shared ≡ false) × Owner (fid_after_andx c.message FIRST) (sender c).process l → ⊥) h
  -- of the core commands likewise (document 02, CR 3). A LOCK_BYTE_RANGE has one range and unlocks nothing, so that the list is that of all locks held
  pub core-lock : (c : Call) (spans : List Span) (h : Holder) → Answerable c → Reading c.message spans → header_command c.message ≡ LOCK_BYTE_RANGE
      → FirstMeets (gives c) h ↔ RangeLockHeld (sender c) c.tables (range_fields c.message FIRST) h
  -- on a valid open the first "listed lock of that file" that "overlaps it", be it shared or not: "the lock is exclusive"
  pub core-lone-lock : (c : Call) (spans : List Span) (o : Open) (h : Holder) → Answerable c → Reading c.message spans → header_command c.message ≡ LOCK_BYTE_RANGE
      → ValidCoreOpen c o → FirstMeets (gives c) h ↔ FirstInWay c.tables o (locks_of c.tables) (core_asked c).offset (core_asked c).length AnyLock h
  pub core-read : (c : Call) (spans : List Span) (o : Open) (h : Holder) → Answerable c → Reading c.message spans → header_command c.message ≡ CORE-READ → ValidCoreOpen c o
      → (o.access ≡ 1 → ⊥) → FirstMeets (gives c) h ↔ FirstInWay c.tables o (locks_of c.tables) (core_offset c.message FIRST) (core_count c.message FIRST)
      (λ l. (l.shared ≡ false) × (Owner (first_fid c.message FIRST) (sender c).process l → ⊥)) h
  pub core-write : (c : Call) (spans : List Span) (o : Open) (h : Holder) → Answerable c → Reading c.message spans → header_command c.message ≡ CORE-WRITE
      → (core_count c.message FIRST ≡ 0 → ⊥) → ValidCoreOpen c o → (o.access ≡ 0 → ⊥)
      → FirstMeets (gives c) h ↔ FirstInWay c.tables o (locks_of c.tables) (core_offset c.message FIRST) (core_count c.message FIRST)
      (λ l. (l.shared ≡ false) × Owner (first_fid c.message FIRST) (sender c).process l → ⊥) h
  -- of count 0 "it covers the bytes between the old and the new size"
  pub set-size : (c : Call) (spans : List Span) (o : Open) (h : Holder) → Answerable c → Reading c.message spans → header_command c.message ≡ CORE-WRITE
      → core_count c.message FIRST ≡ 0 → ValidCoreOpen c o → (o.access ≡ 0 → ⊥)
      → FirstMeets (gives c) h ↔ FirstInWay c.tables o (locks_of c.tables) (covered_from c o) (covered_count c o)
      (λ l. (l.shared ≡ false) × Owner (first_fid c.message FIRST) (sender c).process l → ⊥) h
  -- a command alone in its message is its first
  pub alone : (c : Call) (span : Span) (h : Holder) → Answerable c → Reading c.message (span ∷ []) → (gives c).holder ≡ held_by h → FirstMeets (gives c) h

-- "Locks, reads and writes pass it up, and the host gets the holder's FID and process beside the reply"
pub record BesideTheReply : Type 0 where
  -- of a call that is done exactly beside Status 1/33, and of no other call
  pub exactly-conflict : (c : Call) → (gives c).number ≡ 0 → ((h : Holder) × ((gives c).holder ≡ held_by h)) ↔ Says c 1 33
  pub nobody-else : (c : Call) → (gives c).number ≡ 0 → ((gives c).holder ≡ Nobody) ↔ (Says c 1 33 → ⊥)
  pub not_done : (c : Call) → ((gives c).number ≡ 0 → ⊥) → (gives c).holder ≡ Nobody
  -- in a chain that of the refused command, on the tables that the commands before it left; the call leaves just these; and the commands are a reading's blocks. A later
  -- command's fields are the reader's here; that they are the bytes' of its own message is demand 1's `holder-alone` with `read`, `write` and their core rows above on that
  -- message, which is fit to be answered and one command alone (demand 3's `EachAlone`). By the grammar a LOCKING and a LOCK_BYTE_RANGE are the first command, so that `lock`
  -- and `core-lock` cover every one.
  pub chain : (c : Call) (h : Holder) → Answerable c → ((gives c).holder ≡ held_by h) ↔ Met c.connection c.message c.tables c.memory h
  pub begun-on : (c : Call) (h : Holder) → Answerable c → (m : Met c.connection c.message c.tables c.memory h)
      → (gives c).tables ≡ (run (sender c) c.message NOBODY m.front FIRST c.tables c.memory).tables
  pub of-a-reading : (c : Call) (h : Holder) (m : Met c.connection c.message c.tables c.memory h) → Reading c.message (map span_of (m.front ++ (m.command ∷ m.later)))
  -- "we can't name the terminal": by the FID the host finds one open, and one session with its connection, in the tables that the call leaves
  pub terminal : (c : Call) (h : Holder) → Good c.tables → (gives c).holder ≡ held_by h → HolderFound (gives c).tables h
  -- and the bytes that are locked: at least one, and none past 2^64, so that the last is offset + length - 1
  pub bytes : (c : Call) (h : Holder) → Good c.tables → (gives c).holder ≡ held_by h → (1 ≤ h.lock.length) × (h.lock.offset + h.lock.length ≤ 2 ^ 64)

-- "A lock granted earlier in the same request may be the answer, though it is undone"
pub record GrantedEarlier : Type 0 where
  -- a holder at a place behind what the unlocks left is an own earlier range: the request's FID and that range's process; any other is one of the locks held
  pub own : (c : Call) (spans : List Span) (h : Holder) → Answerable c → Reading c.message spans → header_command c.message ≡ LOCKING
      → (k : LockHeldOn c.connection c.message c.tables h) → length k.left ≤ h.place → OwnRangeOn c.message (unlock_count c.message FIRST) k.granted h.lock
  pub listed : (c : Call) (spans : List Span) (h : Holder) → Answerable c → Reading c.message spans → header_command c.message ≡ LOCKING
      → (k : LockHeldOn c.connection c.message c.tables h) → h.place < length k.left → In h.lock (locks_of c.tables)
  -- it is undone: tables and file memory are those before the call
  pub undone : (c : Call) (h : Holder) → Answerable c → FirstMeets (gives c) h → Untouched c.tables c.memory (gives c)
  -- and that happens: the second of two ranges is refused by the first
  pub happens : Answerable two_asked × ((gives two_asked).holder ≡ held_by first_range) × ((gives two_asked).tables ≡ plant 2 1)

-- "The reply bytes do not change": all that a call gives but the holder, the reply, the tables and the file memory among it, is what is given without this request and CR 7, where a
-- conflict is yes or no and Status has one form (claims/specs/YesOrNo.antt)
pub record RepliesStand : Type 0 where
  -- of a message without CR 7's bit
  pub old-form : (c : Call) → (AsksNt c → ⊥) → without_holder (gives c) ≡ take_before c.connection c.message c.tables c.memory c.room
  -- of every message, but for Status and the bit (bytes 5 to 8 and 11 of the reply), which CR 7 gives a second form
  pub any-form : (c : Call) → but_status (without_holder (gives c)) ≡ but_status (take_before c.connection c.message c.tables c.memory c.room)
  -- and in Status a reader of its form finds what stood there
  pub same-status : (c : Call) → status_given c ≡ status_read (take_before c.connection c.message c.tables c.memory c.room).room

pub record Request2 : Type 0 where
  pub place-of-the-first : PlaceOfTheFirst
  pub beside-the-reply : BesideTheReply
  pub granted-earlier : GrantedEarlier
  pub replies-stand : RepliesStand

-- ---- the proof: each line cites the theorem that does the work

pub replies-stand-so : RepliesStand
unfolding nt_bit
replies-stand-so =
    record {
      old-form = λ c n. sym (before-holder c.connection c.message c.tables c.memory c.room (ne_eqb (byte_at c.message 11 / 64 % 2) 1 n));
      any-form = λ c. sym (before-status c.connection c.message c.tables c.memory c.room);
      same-status = λ c. status-as-before c.connection c.message c.tables c.memory c.room;
    }

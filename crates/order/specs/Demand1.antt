-- Demand 1 of the order, sentence by sentence. Assumes nothing.
use Rattle.std.specs.Prelude.{◌≡◌, ◌↔◌, ℕ, ◌≤◌, List, [], ◌∷◌, ◌++◌, length, None as Nobody}
use Rattle.std.proofs.Math.Logic.Iff
use Rattle.std.proofs.lemmas.List.{length-replicate}
use Rattle.wire.specs.LittleEndian.{le32_at}
use Rattle.records.specs.declared.Name.{Name}
use Rattle.records.specs.declared.Tables.{Tables}
use Rattle.host.specs.declared.ending.One.{One}
use Rattle.host.specs.HostCall.{add_session, add_tree, add_open, load_file, load_memory, drop_connection, set_catalogue, ask_unchanged, end_one}
use Rattle.chain.specs.Layout.{LOCKING, READ, WRITE, CLOSE, LOGOFF, TREE_DISCONNECT, PROCESS_EXIT, CORE-READ, CORE-WRITE, LOCK_BYTE_RANGE, UNLOCK_BYTE_RANGE, OPEN, FIRST, first_fid, core_count}
use Rattle.chain.specs.Grammar.{Span, Reading, Sentence}
use Rattle.chain.specs.Parse.{range_fields, open_fields}
use Rattle.chain.specs.declared.block.WriteFields.{WriteFields}
use Rattle.message.specs.Message.{not_taken, take-message}
use Rattle.message.specs.JustOpened.{NOBODY}
use Rattle.message.specs.declared.caller.Caller.{Caller}
use Rattle.message.specs.declared.refusal.Status.{Status}
use Rattle.invariants.specs.Sound.{Good}
use Rattle.claims.specs.EndOne.{EndReason, end_one-reason, end_one-given}
use Rattle.claims.specs.HostReasons.{SessionReason, TreeReason, OpenReason, LoadReason, DropReason, SetReason, add_session-reason, add_session-given, add_tree-reason, add_tree-given, add_open-reason, add_open-given, load_file-reason, load_file-given, drop_connection-reason, drop_connection-given}
use Rattle.claims.proofs.HostReasons.{set_catalogue-reason, set_catalogue-given}
use Rattle.claims.specs.AskUnchanged.{AskReason, ask-given, ask-stands, ask-refused}
use Rattle.claims.proofs.AskUnchanged.{ask-reason}
use Rattle.claims.specs.HostAnswer.{Unchanged, add_session-refused, add_tree-refused, add_open-refused, load_file-refused, load_memory-refused, drop_connection-refused, end_one-refused, set_catalogue-refused}
use Rattle.demands.specs.MessageReasons.{MessageReason, take-message-reason, take-message-given}
use Rattle.demands.proofs.NotServed.{not-served-exact}
use Rattle.demands.specs.CoreReasons.{LockStatus, UnlockStatus}
use Rattle.demands.specs.OpenReasons.{OpenStatus}
use Rattle.demands.specs.CommandReasons.{SessionStatus, TreeStatus, CloseStatus, ReadStatus, WriteStatus, SetSizeStatus, CoreWriteStatus, some-count, count-0}
use Rattle.demands.specs.WireFields.{read_fields, write_fields, core_read_fields, core_write_fields, open_name}
use Rattle.demands.specs.LockReasons.{LockingReason}
use Rattle.demands.proofs.LockReasons.{locking-reason-exact}
use Rattle.demands.proofs.FirstReadings.{read-exact, write-exact, close-exact, logoff-exact, exit-exact, core-read-exact, core-write-exact, lock-exact, unlock-exact, open-exact}
use Rattle.demands.proofs.FirstReadingsStated.{disconnect-exact}
use Rattle.demands.specs.RoomKept.{RoomKept, refused-writes-nothing}
use Rattle.demands.proofs.RoomKept.{room-kept}
use Rattle.demands.specs.SpansRefused.{AllCarried}
use Rattle.demands.proofs.SpansRefusedRest.{spans-refused}
use Rattle.demands.specs.Reached.{HostCall, call-good, Reached}
use Rattle.demands.proofs.Reached.{reached-good}
use Rattle.demands.specs.StatusRead.{status_read}
use Rattle.demands.proofs.NoSentence.{no-sentence-taken}
use Rattle.order.specs.Call.{Call, gives, Answerable, BeginsKnown, OneCommand, status_given, status_number_given, Says, sender, some_room, left_by, own_message}

-- "No message and no host call, with any bytes, may stop the box or touch memory it wasn't lent": that is what the check of a crate with code shows of each of
-- its functions (it ends, no index is out of range, no sum wraps), and no entry point has a `requires`. How much stack a call takes is measured, not proved.

-- "What can't be carried out gets the refusal fixed for it": the number that a call returns, each exactly for its reason
pub record NumberForItsReason : Type 0 where
  pub message : (c : Call) (n : ℕ) → ((gives c).number ≡ n) ↔ MessageReason c.message c.tables c.memory c.room n
  pub session : (t : Tables) (connection n : ℕ) → ((add_session t connection).number ≡ n) ↔ SessionReason t n
  pub tree : (t : Tables) (uid right n : ℕ) → ((add_tree t uid right).number ≡ n) ↔ TreeReason t uid right n
  pub open-file : (t : Tables) (uid tid process file access n : ℕ) → ((add_open t uid tid process file access).number ≡ n) ↔ OpenReason t uid tid file access n
  pub load : (t : Tables) (file : ℕ) (bytes memory : List ℕ) (n : ℕ) → ((load_file t file bytes memory).number ≡ n) ↔ LoadReason t file (length bytes) (length memory) n
  pub drop : (t : Tables) (connection n : ℕ) → ((drop_connection t connection).number ≡ n) ↔ DropReason t n
  -- a session, tree or open ended by its number: 6 for one that no record has, after 4
  pub end : (t : Tables) (one : One) (n : ℕ) → ((end_one t one).number ≡ n) ↔ EndReason t one n
  -- document 02, CR 6: "for the catalogue 7: over 16 names, a name of another length, with a zero byte or doubled, a file above 15"
  pub catalogue : (t : Tables) (names : List Name) (count n : ℕ) → ((set_catalogue t names count).number ≡ n) ↔ SetReason t names count n
  -- document 02, CR 8: "6 for an unknown FID, after 4"
  pub ask : (t : Tables) (fid n : ℕ) → ((ask_unchanged t fid).number ≡ n) ↔ AskReason t fid n

-- the same of the Status in the reply: of a message whose command is not known, and of each command alone in its message. (2/1: Demand3. In a chain: Demand3, OneToAMessage.)
pub record StatusForItsReason : Type 0 where
  pub not_known : (c : Call) → Answerable c → Says c 2 22 ↔ (BeginsKnown c → ⊥)
  pub locking : (c : Call) → Answerable c → OneCommand c LOCKING → (n : Status)
      → (status_given c ≡ n) ↔ LockingReason c.connection c.message c.tables n
  pub read : (c : Call) → Answerable c → OneCommand c READ → (n : Status) → (status_given c ≡ n) ↔ ReadStatus (sender c) c.tables (read_fields c.message) n
  pub write : (c : Call) → Answerable c → OneCommand c WRITE → (n : Status) → (status_given c ≡ n) ↔ WriteStatus (sender c) c.tables (write_fields c.message) n
  pub close : (c : Call) → Answerable c → OneCommand c CLOSE → (n : Status) → (status_given c ≡ n) ↔ CloseStatus (sender c) c.tables (first_fid c.message FIRST) n
  pub disconnect : (c : Call) → Answerable c → OneCommand c TREE_DISCONNECT → (n : Status) → (status_given c ≡ n) ↔ TreeStatus (sender c) c.tables n
  pub logoff : (c : Call) → Answerable c → OneCommand c LOGOFF → (n : Status) → (status_given c ≡ n) ↔ SessionStatus (sender c) c.tables n
  pub exit : (c : Call) → Answerable c → OneCommand c PROCESS_EXIT → (n : Status) → (status_given c ≡ n) ↔ SessionStatus (sender c) c.tables n
  -- the core commands (document 02, CR 3): a READ by the reasons of READ_ANDX, a WRITE of some bytes by those of WRITE_ANDX; with count 0 by its own, where 1/33 comes
  -- before 3/39. Of a LOCK_BYTE_RANGE 2/65535 and 1/87 can't arise.
  pub core-read : (c : Call) → Answerable c → OneCommand c CORE-READ → (n : Status) → (status_given c ≡ n) ↔ ReadStatus (sender c) c.tables (core_read_fields c.message) n
  pub core-write : (c : Call) → Answerable c → OneCommand c CORE-WRITE → (core_count c.message FIRST ≡ 0 → ⊥) → (n : Status)
      → (status_given c ≡ n) ↔ WriteStatus (sender c) c.tables (core_write_fields c.message) n
  pub set-size : (c : Call) → Answerable c → OneCommand c CORE-WRITE → core_count c.message FIRST ≡ 0 → (n : Status)
      → (status_given c ≡ n) ↔ SetSizeStatus (sender c) c.tables (core_write_fields c.message) n
  pub core-lock : (c : Call) → Answerable c → OneCommand c LOCK_BYTE_RANGE → (n : Status) → (status_given c ≡ n) ↔ LockStatus (sender c) c.tables (range_fields c.message FIRST) n
  pub core-unlock : (c : Call) → Answerable c → OneCommand c UNLOCK_BYTE_RANGE → (n : Status)
      → (status_given c ≡ n) ↔ UnlockStatus (sender c) c.tables (range_fields c.message FIRST) n
  -- OPEN_ANDX (document 02, CR 6): "Refusals, after 2/5: 2/65535 OpenMode, 1/12 access or sharing code, 1/2 name, 1/5 tree right, 1/32 sharing, 1/4 all 64 FIDs in use"
  pub opening : (c : Call) → Answerable c → OneCommand c OPEN → (n : Status)
      → (status_given c ≡ n) ↔ OpenStatus (sender c) c.tables (open_fields c.message FIRST) (open_name c.message) n

-- "and then every table and file byte stands as before that command": a call refused by its number writes nothing at all
pub record RefusedByNumber : Type 0 where
  pub message : (c : Call) → ((gives c).number ≡ 0 → ⊥) → gives c ≡ not_taken (gives c).number c.tables c.memory c.room
  pub session : (t : Tables) (connection : ℕ) → ((add_session t connection).number ≡ 0 → ⊥) → Unchanged t (add_session t connection)
  pub tree : (t : Tables) (uid right : ℕ) → ((add_tree t uid right).number ≡ 0 → ⊥) → Unchanged t (add_tree t uid right)
  pub open-file : (t : Tables) (uid tid process file access : ℕ) → ((add_open t uid tid process file access).number ≡ 0 → ⊥)
      → Unchanged t (add_open t uid tid process file access)
  pub load : (t : Tables) (file : ℕ) (bytes memory : List ℕ) → ((load_file t file bytes memory).number ≡ 0 → ⊥)
      → Unchanged t (load_file t file bytes memory) × (load_memory t file bytes memory ≡ memory)
  pub drop : (t : Tables) (connection : ℕ) → ((drop_connection t connection).number ≡ 0 → ⊥) → Unchanged t (drop_connection t connection)
  pub end : (t : Tables) (one : One) → ((end_one t one).number ≡ 0 → ⊥) → Unchanged t (end_one t one)
  pub catalogue : (t : Tables) (names : List Name) (count : ℕ) → ((set_catalogue t names count).number ≡ 0 → ⊥) → Unchanged t (set_catalogue t names count)
  pub ask : (t : Tables) (fid : ℕ) → ((ask_unchanged t fid).number ≡ 0 → ⊥) → Unchanged t (ask_unchanged t fid)

-- nor does a message change anything that is no sentence, whatever its command (2/1, 2/22): its reply is the header and one refused block, with no holder
abbrev pub NoSentence : Type 0
NoSentence =
    (c : Call) → Answerable c → (Sentence c.message → ⊥) → ((gives c).tables ≡ c.tables) × ((gives c).memory ≡ c.memory) × ((gives c).length ≡ 35)
    × ((gives c).holder ≡ Nobody)

-- and a command refused in the reply (Status not 0), alone or in a chain, leaves what the commands before it have left; its own message, sent on that, is answered with
-- the same Status, its four bytes too, and has the same holder; those after it aren't begun
pub record CommandRefused (c : Call) (spans : List Span) : Type 0 where
  pub front : List Span
  pub command : Span
  pub later : List Span
  pub split : spans ≡ front ++ (command ∷ later)
  pub front-stands : AllCarried c.connection c.message some_room NOBODY front c.tables c.memory
  pub tables-left : (gives c).tables ≡ (left_by c front).tables
  pub memory-left : (gives c).memory ≡ (left_by c front).memory
  pub refused-alone : status_read (take-message c.connection (own_message c front command) (left_by c front).tables (left_by c front).memory some_room).room ≡ status_given c
  pub bytes-alone : le32_at (take-message c.connection (own_message c front command) (left_by c front).tables (left_by c front).memory some_room).room 5 ≡ status_number_given c
  pub holder-alone : (take-message c.connection (own_message c front command) (left_by c front).tables (left_by c front).memory some_room).holder ≡ (gives c).holder
  pub later-not-begun : left_by c spans ≡ left_by c (front ++ (command ∷ []))

abbrev pub RefusedInReply : Type 0
RefusedInReply = (c : Call) (spans : List Span) → Answerable c → Reading c.message spans → (Says c 0 0 → ⊥) → CommandRefused c spans

-- document 01: "Every call on sound tables leaves sound tables"; so over all histories, and a host that starts with none and writes no word itself never meets 4
pub record SoundStays : Type 0 where
  pub one-call : (t after : Tables) (memory left : List ℕ) → HostCall t memory after left → Good t → Good after
  pub for-ever : (t : Tables) → Reached t → Good t

-- document 01, "reply room 12,292": the reply fits in it, in a larger room too it is no longer than that, and no byte behind the reply is written
abbrev pub RoomSuffices : Type 0
RoomSuffices = (c : Call) → Good c.tables → ((gives c).length ≤ 12292) × RoomKept c.room (gives c)

pub record Demand1 : Type 0 where
  pub number-for-its-reason : NumberForItsReason
  pub status-for-its-reason : StatusForItsReason
  pub refused-by-number : RefusedByNumber
  pub no-sentence : NoSentence
  pub refused-in-reply : RefusedInReply
  pub sound-stays : SoundStays
  pub room-suffices : RoomSuffices

-- ---- the proof: each line cites the theorem that does the work

-- a reason that holds for the number given, and gives its number
pub exactly : {R : ℕ → Type 0} {number : ℕ} → R number → ((n : ℕ) → R n → number ≡ n) → (n : ℕ) → (number ≡ n) ↔ R n
exactly {R} {number} reason given n = (λ e. rw (← e) reason, λ r. given n r)

-- a core WRITE's reasons by its count
by-some : {c : Caller} {t : Tables} {f : WriteFields} {n : Status} → (f.count ≡ 0 → ⊥) → CoreWriteStatus c t f n → WriteStatus c t f n
by-some more (some-count _ w) = w
by-some more (count-0 e w) = absurd (more e)

by-none : {c : Caller} {t : Tables} {f : WriteFields} {n : Status} → f.count ≡ 0 → CoreWriteStatus c t f n → SetSizeStatus c t f n
by-none e (some-count more w) = absurd (more e)
by-none e (count-0 _ w) = w

pub demand-1 : Demand1
demand-1 =
    record {
      number-for-its-reason = record {
        message = λ c. exactly (take-message-reason _ _ _ _ _) (λ n r. take-message-given c.connection c.message c.tables c.memory c.room r);
        session = λ t connection. exactly (add_session-reason t connection) (λ n r. add_session-given t connection r);
        tree = λ t uid right. exactly (add_tree-reason t uid right) (λ n r. add_tree-given t uid right r);
        open-file = λ t uid tid process file access. exactly (add_open-reason t uid tid process file access) (λ n r. add_open-given t uid tid process file access r);
        load = λ t file bytes memory. exactly (load_file-reason t file bytes memory) (λ n r. load_file-given t file bytes memory r);
        drop = λ t connection. exactly (drop_connection-reason t connection) (λ n r. drop_connection-given t connection r);
        end = λ t one. exactly (end_one-reason t one) (λ n r. end_one-given t one r);
        catalogue = λ t names count. exactly (set_catalogue-reason t names count) (λ n r. set_catalogue-given t names count r);
        ask = λ t fid. exactly (ask-reason t fid) (λ n r. ask-given t fid r);
      };
      status-for-its-reason = record {
        not_known = λ c a. not-served-exact c.connection c.message c.tables c.memory c.room a.fit;
        locking = λ c a one n. locking-reason-exact c.connection c.message one.reading c.tables c.memory c.room a.fit one.is n;
        read = λ c a one n. read-exact c.connection c.message one.reading c.tables c.memory c.room a.fit one.is n;
        write = λ c a one n. write-exact c.connection c.message one.reading c.tables c.memory c.room a.fit one.is n;
        close = λ c a one n. close-exact c.connection c.message one.reading c.tables c.memory c.room a.fit one.is n;
        disconnect = λ c a one n. disconnect-exact c.connection c.message one.reading c.tables c.memory c.room a.fit one.is n;
        logoff = λ c a one n. logoff-exact c.connection c.message one.reading c.tables c.memory c.room a.fit one.is n;
        exit = λ c a one n. exit-exact c.connection c.message one.reading c.tables c.memory c.room a.fit one.is n;
        core-read = λ c a one n. core-read-exact c.connection c.message one.reading c.tables c.memory c.room a.fit one.is n;
        core-write = λ c a one more n.
            Iff.trans (core-write-exact c.connection c.message one.reading c.tables c.memory c.room a.fit one.is n) (by-some more, some-count more);
        set-size = λ c a one e n.
            Iff.trans (core-write-exact c.connection c.message one.reading c.tables c.memory c.room a.fit one.is n) (by-none e, count-0 e);
        core-lock = λ c a one n. lock-exact c.connection c.message one.reading c.tables c.memory c.room a.fit one.is n;
        core-unlock = λ c a one n. unlock-exact c.connection c.message one.reading c.tables c.memory c.room a.fit one.is n;
        opening = λ c a one n. open-exact c.connection c.message one.reading c.tables c.memory c.room a.fit one.is n;
      };
      refused-by-number = record {
        message = λ c. refused-writes-nothing c.connection c.message c.tables c.memory c.room;
        session = add_session-refused;
        tree = add_tree-refused;
        open-file = add_open-refused;
        load = λ t file bytes memory n. (load_file-refused t file bytes memory n, load_memory-refused t file bytes memory n);
        drop = drop_connection-refused;
        end = end_one-refused;
        catalogue = set_catalogue-refused;
        ask = λ t fid n. record { same_tables = ask-stands t fid; no_number = ask-refused t fid n };
      };
      no-sentence = λ c a none.
          let q = no-sentence-taken c.connection c.message c.tables c.memory c.room a.fit none in (q.0.same_tables, q.0.same_memory, q.1, q.2);
      refused-in-reply = λ c spans a r n.
          let q = spans-refused c.connection c.message r c.tables c.memory c.room some_room a.good a.fit (length-replicate {A = ℕ} 12292 0) n in
          record {
            front = q.front;
            command = q.command;
            later = q.later;
            split = q.split;
            front-stands = q.front-carried;
            tables-left = q.tables-left;
            memory-left = q.memory-left;
            refused-alone = q.status-so;
            bytes-alone = q.bytes-so;
            holder-alone = q.holder-so;
            later-not-begun = q.not-begun;
          };
      sound-stays = record { one-call = λ t after memory left call g. call-good call g; for-ever = λ t r. reached-good r };
      room-suffices = λ c g. let kept = room-kept c.connection c.message c.tables c.memory c.room g.shaped in (kept.at_most, kept);
    }

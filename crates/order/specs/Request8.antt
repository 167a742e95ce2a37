-- Change request 8 of document 02, "Has the list changed?", sentence by sentence. Assumes nothing.
use Rattle.std.specs.Prelude.{◌≡◌, refl, ◌↔◌, ℕ, ◌+◌, ◌≤◌, ◌<◌, true, false, length}
use Rattle.std.proofs.Common.{ap, ◌∙◌, inl, inr, arith}
use mathlib.Core.List.{List, map, Memᴰ as In}
use Rattle.records.specs.declared.Open.{Open}
use Rattle.records.specs.declared.File.{File}
use Rattle.records.specs.declared.Tables.{Tables}
use Rattle.records.specs.Change.{raised, changes_of}
use Rattle.records.specs.Held.{opens_of}
use Rattle.lists.specs.Truth.{not-decided-twice}
use Rattle.numbers.specs.Number.{contains}
use Rattle.numbers.specs.Column.{fid_of}
use Rattle.soundness.specs.Sound.{sound}
use Rattle.host.specs.HostCall.{no_tables, add_open, load_file, ask_unchanged}
use Rattle.chain.specs.Layout.{READ, WRITE, CORE-READ, CORE-WRITE, OPEN, FIRST, data_length, core_count, core_offset}
use Rattle.message.specs.Contents.{size_of}
use Rattle.claims.specs.AskUnchanged.{AskReason, UpToDate, ask-given, ask-stands, ask-refused}
use Rattle.claims.proofs.AskUnchanged.{ask-reason, answer-of, other-answer}
use Rattle.claims.specs.HostFrames.{add_open-frame}
use Rattle.claims.proofs.SoundPlain.{sound-plain}
use Rattle.invariants.specs.Numbered.{one-named}
use Rattle.invariants.specs.Sound.{Good}
use Rattle.demands.proofs.Effects.{read-reading, core-read-reading}
use Rattle.demands.proofs.OpenEffects.{open-reading}
use Rattle.demands.specs.Reached.{Reached, start-good}
use Rattle.demands.proofs.Reached.{reached-good}
use Rattle.demands.specs.Remembering.{OnlyRemembers}
use Rattle.demands.specs.HolderLone.{same-open}
use Rattle.demands.specs.OldBytes.{Asked, left_by}
use Rattle.demands.specs.LastRead.{Reads, reads_after, none_read}
use Rattle.demands.specs.LastReadKept.{Kept, snoc-or}
use Rattle.demands.specs.LastReadHistory.{AsItWas, ReadAgain, start-kept}
use Rattle.demands.proofs.LastReadHistory.{history-kept, history-good, up-to-date-was, out-of-date-why}
use Rattle.order.specs.Call.{Call, gives}
use Rattle.order.specs.Demand1.{Demand1, exactly}
use Rattle.order.specs.Demand2.{Demand2, DoneAlone, ValidOpen, ValidCoreOpen}
use Rattle.order.specs.Demand3.{Demand3}

-- What a READ leaves is demand 2's `CarriedOut` (`read`, `core-read`), and in a chain demand 3's `OneToAMessage`, which compares the tables, so what every open remembers, after every
-- command: in WRITE, READ of one chain the READ remembers the number after the WRITE. That a command refused raises nothing and remembers nothing is demand 1's, of every command; so
-- are "Every call on sound tables leaves sound tables" and the room of the reply.

-- "raised by one ..; at its largest it stays", the largest of 32 bits
pub record Raised (before after : ℕ) : Type 0 where
  pub by_one : before < 4294967295 → after ≡ before + 1
  pub stays : before ≡ 4294967295 → after ≡ before

-- ---- "Each file record gets a 32-bit change number, raised by one at each granted write of at least one byte, each WRITE of count 0 that alters the size and each load; at its largest
-- it stays."

pub record ChangeNumber : Type 0 where
  -- 32 bits, in sound tables; numbers start at 0
  pub bits : (t : Tables) → sound t ≡ true → (f : File) → In f t.files → f.changes < 4294967296
  pub starts : (file : ℕ) → file ≤ 15 → changes_of no_tables file ≡ 0
  -- a WRITE_ANDX of at least one byte, also where the bytes are equal; one of length 0 changes no table
  pub write : (c : Call) (o : Open) → DoneAlone c WRITE → ValidOpen c o → 1 ≤ data_length c.message FIRST
      → Raised (changes_of c.tables o.file) (changes_of (gives c).tables o.file)
  pub write-none : (c : Call) → DoneAlone c WRITE → data_length c.message FIRST ≡ 0 → (gives c).tables ≡ c.tables
  -- a core WRITE of at least one byte, and one of count 0 where the size is another
  pub core-write : (c : Call) (o : Open) → DoneAlone c CORE-WRITE → ValidCoreOpen c o → 1 ≤ core_count c.message FIRST
      → Raised (changes_of c.tables o.file) (changes_of (gives c).tables o.file)
  pub size-altered : (c : Call) (o : Open) → DoneAlone c CORE-WRITE → ValidCoreOpen c o → core_count c.message FIRST ≡ 0
      → (core_offset c.message FIRST ≡ size_of c.tables o.file → ⊥) → Raised (changes_of c.tables o.file) (changes_of (gives c).tables o.file)
  pub size_same : (c : Call) (o : Open) → DoneAlone c CORE-WRITE → ValidCoreOpen c o → core_count c.message FIRST ≡ 0
      → core_offset c.message FIRST ≡ size_of c.tables o.file → (gives c).tables ≡ c.tables
  -- every load, an empty one too
  pub load : (t : Tables) → Good t → (file : ℕ) (bytes memory : List ℕ) → (load_file t file bytes memory).number ≡ 0
      → Raised (changes_of t file) (changes_of (load_file t file bytes memory).tables file)

-- ---- "Each open remembers the number at its last granted read."

pub record Remembers : Type 0 where
  -- "(a READ of no bytes too)": whatever it yields
  pub read : (c : Call) (o : Open) → DoneAlone c READ → ValidOpen c o → OnlyRemembers c.tables o c.memory (gives c)
  pub core-read : (c : Call) (o : Open) → DoneAlone c CORE-READ → ValidCoreOpen c o → OnlyRemembers c.tables o c.memory (gives c)
  -- a new open has not read, whoever had its FID before: the host's and an OPEN_ANDX's
  pub added : (t : Tables) (uid tid process file access : ℕ) → (add_open t uid tid process file access).number ≡ 0 → (o : Open) → In o (opens_of (add_open t uid tid process file access).tables)
      → o.fid ≡ (add_open t uid tid process file access).id → (o.read ≡ false) × (o.seen ≡ 0)
  pub opened : (c : Call) → DoneAlone c OPEN → (o : Open) → In o (opens_of (gives c).tables) → ((p : Open) → In p (opens_of c.tables) → p.fid ≡ o.fid → ⊥)
      → (o.read ≡ false) × (o.seen ≡ 0)
  -- "By soundness an open's remembered number doesn't exceed its file's", so over all histories
  pub at_most : (t : Tables) → sound t ≡ true → (o : Open) → In o (opens_of t) → o.seen ≤ changes_of t o.file
  pub for-ever : (t : Tables) → Reached t → (o : Open) → In o (opens_of t) → o.seen ≤ changes_of t o.file

-- ---- "A host call answers "unchanged" exactly if the open has read, the numbers are equal and below the largest; otherwise "changed"." "Refusals: 6 for an unknown FID, after 4."

pub record Answers : Type 0 where
  -- 1 is "unchanged", 0 is "changed"
  pub unchanged : (t : Tables) (o : Open) → sound t ≡ true → In o (opens_of t) → ((ask_unchanged t o.fid).id ≡ 1) ↔ UpToDate t o
  pub changed : (t : Tables) (o : Open) → sound t ≡ true → In o (opens_of t) → ((ask_unchanged t o.fid).id ≡ 0) ↔ (UpToDate t o → ⊥)
  pub numbers : (t : Tables) (fid n : ℕ) → ((ask_unchanged t fid).number ≡ n) ↔ AskReason t fid n
  -- beside a refusal stands no "unchanged", and nothing is changed by the question
  pub refused : (t : Tables) (fid : ℕ) → ((ask_unchanged t fid).number ≡ 0 → ⊥) → (ask_unchanged t fid).id ≡ 0
  pub stands : (t : Tables) (fid : ℕ) → (ask_unchanged t fid).tables ≡ t

-- ---- what the head of staffing wants to know. A history is any list of calls, from the tables to start from, the file memory being the one lent throughout; `lent` is what stood in it
-- first. `left_by` are the tables and the file memory that the calls leave, and `reads_after` tells what each open found at its last granted READ, from the calls, from which of their commands are
-- granted and from what stands in the files then: it looks at no change number. With a file memory of another length every load and every message is refused, so no open ever reads.

-- the tables and the file memory after a history, and the last granted READs
abbrev pub tables_left_by : List Asked → List ℕ → Tables
tables_left_by calls lent = (left_by calls no_tables lent).0

abbrev pub memory_left_by : List Asked → List ℕ → List ℕ
memory_left_by calls lent = (left_by calls no_tables lent).1

abbrev pub last_reads : List Asked → List ℕ → Reads
last_reads calls lent = reads_after calls no_tables lent none_read

pub record Staffing : Type 0 where
  -- "unchanged": the file's size and bytes are what they were at that open's last granted READ
  pub unchanged : (calls : List Asked) (lent : List ℕ) → length lent ≡ 65536 → (o : Open) → In o (opens_of (tables_left_by calls lent)) → (ask_unchanged (tables_left_by calls lent) o.fid).id ≡ 1
      → AsItWas (tables_left_by calls lent) (memory_left_by calls lent) (last_reads calls lent) o
  -- "changed": no READ was granted to the open, or the file was changed after that READ, by a granted write of at least one byte, a size change or a load, or the number is at its largest
  pub changed : (calls : List Asked) (lent : List ℕ) → length lent ≡ 65536 → (o : Open) → In o (opens_of (tables_left_by calls lent)) → (ask_unchanged (tables_left_by calls lent) o.fid).id ≡ 0
      → ReadAgain (tables_left_by calls lent) (last_reads calls lent) o

pub record Request8 : Type 0 where
  pub change-number : ChangeNumber
  pub remembers : Remembers
  pub answers : Answers
  pub staffing : Staffing
  pub first : Demand1
  pub second : Demand2
  pub third : Demand3

-- ---- the proof: each line cites the theorem that does the work

pub raises : {before after : ℕ} → after ≡ raised before → Raised before after
raises e = record { by_one = λ h. omega arith; stays = λ h. omega arith }

pub remembers-so : Remembers
remembers-so =
    record {
      read = λ c o d valid.
          let w = read-reading c.connection c.message d.1.reading c.tables c.memory c.room d.0.good d.0.fit d.2 d.1.is in
          rw (← (same-open d.0.fit.tables-sound valid w.admitted)) w.leaves;
      core-read = λ c o d valid.
          let w = core-read-reading c.connection c.message d.1.reading c.tables c.memory c.room d.0.good d.0.fit d.2 d.1.is in
          rw (← (same-open d.0.fit.tables-sound valid w.admitted)) w.leaves;
      added = λ t uid tid process file access e o m same.
          let w = add_open-frame t uid tid process file access e in
          elim (snoc-or w.new (opens_of t) (rw w.opens at m)) [
            | inl old ↦
                absurd (not-decided-twice (contains (add_open t uid tid process file access).id (map fid_of (opens_of t))) (one-named fid_of (add_open t uid tid process file access).id old same)
                w.given_out.unused)
            | inr is ↦ (ap (λ (x : Open). x.read) is ∙ w.not-read, ap (λ (x : Open). x.seen) is ∙ w.seen_none)
          ];
      opened = λ c d o m new.
          let w = open-reading c.connection c.message d.1.reading c.tables c.memory c.room d.0.good d.0.fit d.2 d.1.is in
          elim (snoc-or w.new (opens_of c.tables) (rw w.added.opens at m)) [
            | inl old ↦ absurd (new o old refl)
            | inr is ↦ (ap (λ (x : Open). x.read) is ∙ w.added.not-read, ap (λ (x : Open). x.seen) is ∙ w.added.seen_none)
          ];
      at_most = λ t s. ((sound-plain t).0 s).seen;
      for-ever = λ t r. ((sound-plain t).0 (reached-good r).sound).seen;
    }

pub answers-so : Answers
answers-so =
    record {
      unchanged = answer-of;
      changed = other-answer;
      numbers = λ t fid. exactly (ask-reason t fid) (λ n r. ask-given t fid r);
      refused = ask-refused;
      stands = ask-stands;
    }

-- what an open remembers, and the last granted READs, after a history
module _ (calls : List Asked) (lent : List ℕ) (full : length lent ≡ 65536) where
  left-good : Good (tables_left_by calls lent)
  left-good = history-good calls no_tables lent start-good

  left-kept : Kept (tables_left_by calls lent) (memory_left_by calls lent) (last_reads calls lent)
  left-kept = history-kept calls no_tables lent none_read start-good full (start-kept lent none_read)

pub staffing-so : Staffing
staffing-so =
    record {
      unchanged = λ calls lent full o m e.
          up-to-date-was _ _ _ (left-good calls lent full) (left-kept calls lent full) o m ((answer-of _ o (left-good calls lent full).sound m).0 e);
      changed = λ calls lent full o m e.
          out-of-date-why _ _ _ (left-good calls lent full) (left-kept calls lent full) o m ((other-answer _ o (left-good calls lent full).sound m).0 e);
    }

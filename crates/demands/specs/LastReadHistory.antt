-- The change numbers over all histories (document 02, CR 8): command by command, call by call. Assumes nothing.
use Rattle.std.specs.Prelude.{◌≡◌, ℕ, ◌≤◌, get_or, None, Some}
use Rattle.std.proofs.Math.Path.{ap}
use Rattle.std.proofs.Common.{sym, ◌∙◌, inl, inr}
use native.Mathlib.Omega.{arith}
use Rattle.std.proofs.Math.Decide.{dec_lt}
use Rattle.std.proofs.Math.Bool.{true, false}
use mathlib.Core.List.{List, map, Memᴰ as In}
use Rattle.std.proofs.Math.ListN.{length}
use Rattle.lists.specs.Walk.{found}
use Rattle.lists.specs.Members.{kept-was}
use Rattle.lists.specs.Truth.{test-cases}
use Rattle.records.specs.declared.Open.{Open}
use Rattle.records.specs.declared.Tables.{Tables}
use Rattle.records.specs.Change.{LARGEST, changes_of}
use Rattle.records.specs.Empty.{no_open}
use Rattle.records.specs.Held.{opens_of}
use Rattle.numbers.specs.Column.{tid_of}
use Rattle.soundness.specs.File.{file_of}
use Rattle.removal.specs.Removal.{open_stays, remove}
use Rattle.removal.specs.declared.Gone.{Gone}
use Rattle.host.specs.declared.answer.Returned.{Returned}
use Rattle.host.specs.HostCall.{no_tables, refused as host_refused}
use Rattle.invariants.specs.RemovalSound.{trees_left, remove-left, left-opens}
use Rattle.invariants.specs.Sound.{Good, Keeps, keeps-good, open-hit, open-fid, changes-most}
use Rattle.invariants.specs.SoundParts.{sound-says}
use Rattle.claims.specs.SoundPlain.{file_of-one}
use Rattle.claims.specs.AskUnchanged.{UpToDate}
use Rattle.chain.specs.declared.block.Block.{Block}
use Rattle.chain.specs.declared.block.Body.{Body}
use Rattle.message.specs.declared.caller.Caller.{Caller}
use Rattle.message.specs.declared.refusal.Refusal.{Refusal}
use Rattle.message.specs.Contents.{size_of, contents}
use Rattle.message.specs.Command.{Said, Given, refused, done, is_open, as_core}
use Rattle.message.specs.Message.{Ran, after, after_given}
use Rattle.demands.specs.LastRead.{LastRead, Reads, Event, nothing, event_of, after_event, reads_given}
use Rattle.demands.specs.LastReadKept.{Agrees, Kept, fewer-kept}

-- what a command leaves, where the event that it is goes by what it says
pub data Leaves (t : Tables) (memory : List ℕ) (reads : Reads) (event : Said → Event) : Given → Type 0 where
  leaves-refused : {why : Refusal} → Leaves t memory reads event (refused why)
  leaves-done : {u : Tables} {m : List ℕ} {said : Said} → Kept u m (after_event (event said) t memory reads) → length m ≡ 65536 → Leaves t memory reads event (done u m said)

module _ (t : Tables) (g : Good t) (memory : List ℕ) (full : length memory ≡ 65536) (reads : Reads) (k : Kept t memory reads) where
  -- a command that is no event, whatever it says
  abbrev pub quiet : Said → Event
  quiet said = nothing

  pub still : {u : Tables} {said : Said} → u.files ≡ t.files → ((o : Open) → In o (opens_of u) → In o (opens_of t)) → Leaves t memory reads quiet (done u memory said)
  unfolding after_event
  still e old = leaves-done (fewer-kept e old k) full

  -- a core command is the event that its counterpart is
  pub core-event : {e : Event} {d : Given} → Leaves t memory reads (λ said. e) d → Leaves t memory reads (λ said. e) (as_core d)
  unfolding as_core
  core-event leaves-refused = leaves-refused
  core-event (leaves-done h long) = leaves-done h long

  -- ---- a removal

  pub removed-was : (gone : Gone) (o : Open) → In o (opens_of (remove gone t)) → In o (opens_of t)
  removed-was gone o m = (kept-was (open_stays gone (map tid_of (trees_left gone t))) (opens_of t) (rw (remove-left gone t, left-opens gone t) at m)).0

  -- ---- a LOCKING leaves opens and files

  -- ---- a write

  module _ (c : Caller) where
    -- the file of the open that a command names
    pub file-named : (fid j : ℕ) → found (is_open c fid) (opens_of t) ≡ Some j → file_of (opens_of t) fid ≡ (get_or (opens_of t) j no_open).file
    file-named fid j e =
        ap (file_of (opens_of t)) (sym (open-fid c t fid j e)) ∙ file_of-one 64 (opens_of t) (sound-says t g.sound).records.fids (open-hit c t fid j e).listed

-- ---- a chain

pub step_kept : {t : Tables} {memory : List ℕ} {reads : Reads} (b : Body) (d : Given) → Kept t memory reads → Leaves t memory reads (event_of t b) d → Keeps d → (bs : List Block) (place : ℕ)
    (rest : ℕ → ℕ → Tables → List ℕ → Ran) (then : ℕ → Tables → List ℕ → Reads → Reads)
    → ((j p : ℕ) (u : Tables) (m : List ℕ) (r : Reads) → Good u → length m ≡ 65536 → Kept u m r → Kept (rest j p u m).tables (rest j p u m).memory (then j u m r))
    → Kept (after_given d bs place t memory rest).tables (after_given d bs place t memory rest).memory (reads_given d b t memory reads then)
unfolding after_given after reads_given
step_kept b (refused why) k l g bs place rest then f = k
step_kept b (done u m said) k (leaves-done h long) g bs place rest then f = f _ _ u m _ (keeps-good g) long h

-- ---- a message

-- ---- a call

module _ (t : Tables) (memory : List ℕ) (reads : Reads) (g : Good t) (full : length memory ≡ 65536) (k : Kept t memory reads) where
  unfoldable pub Still : Returned → Type 0
  Still a = Kept a.tables memory reads

  pub refused-still : (n : ℕ) → 1 ≤ n → Still (host_refused n t)
  unfolding Still host_refused
  refused-still n h = k

-- ---- all histories

pub start-kept : (memory : List ℕ) (reads : Reads) → Kept no_tables memory reads
unfolding no_tables
start-kept memory reads = record { each = λ o m h. elim m [ ]; unread = λ o m h. elim m [ ] }

-- ---- what the answer says

-- what the head of staffing wants to know, of an open and its last granted READ: the file's size and bytes are what they were at that READ
pub record AsItWas (t : Tables) (memory : List ℕ) (reads : Reads) (o : Open) : Type 0 where
  pub last : LastRead
  pub is_last : reads o.fid ≡ Some last
  pub of-file : last.file ≡ o.file
  pub not-changed : last.changed ≡ false
  pub same_size : size_of t o.file ≡ last.size
  pub same_bytes : contents t memory o.file ≡ last.bytes

-- and why it is told to read again: no READ was granted to it since it was opened; the file was changed after the last one; or the number is at its largest
pub data ReadAgain (t : Tables) (reads : Reads) (o : Open) : Type 0 where
  never-read : reads o.fid ≡ None → ReadAgain t reads o
  changed-since : (r : LastRead) → reads o.fid ≡ Some r → r.file ≡ o.file → r.changed ≡ true → ReadAgain t reads o
  at-largest : changes_of t o.file ≡ LARGEST → ReadAgain t reads o

module _ (t : Tables) (memory : List ℕ) (reads : Reads) (g : Good t) (k : Kept t memory reads) (o : Open) (listed : In o (opens_of t)) where
  pub by-changed : (r : LastRead) → reads o.fid ≡ Some r → Agrees t memory o r → UpToDate t o → AsItWas t memory reads o
  by-changed r e a u =
      test-cases r.changed
      (λ c. let fresh = u.equal in let below = u.below in
      elim (a.stale c) [ inl h ↦ absurd (let z : ⊥ = omega arith in z) | inr h ↦ absurd (let z : ⊥ = omega arith in z) ])
      (λ c. let f = a.fresh c in record { last = r; is_last = e; of-file = a.its-file; not-changed = c; same_size = sym f.1; same_bytes = sym f.2 })

  pub with-read : o.read ≡ true → (r : LastRead) → reads o.fid ≡ Some r → Agrees t memory o r → (UpToDate t o → ⊥) → ReadAgain t reads o
  with-read read r e a n =
      test-cases r.changed (λ c. changed-since r e a.its-file c)
      (λ c. elim (dec_lt (changes_of t o.file) LARGEST) [
        | yes h ↦ absurd (n (record { has-read = read; equal = (a.fresh c).0; below = h }))
        | no h ↦ let most = changes-most t o.file (sound-says t g.sound) in at-largest (omega arith)
      ])

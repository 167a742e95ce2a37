-- Whatever stands in the file memory at or above a file's size, no command, no chain and no message tells it (document 02, CR 3: "with zeros where it grows and no byte
-- changed where it shrinks"): two file memories of which every file shows the same bytes give the same, and what they leave shows the same again. Assumes nothing.
use Rattle.std.specs.Prelude.{◌≡◌, Bool, true, false, cond, List, ◌++◌, drop, get_or, Option, Some, None}
use Rattle.std.proofs.Math.Path.{refl, ap}
use Rattle.std.proofs.Common.{sym, ◌∙◌}
use Prim.Native.Nat.{ℕ, ◌+◌, ◌*◌, ◌≤◌, ◌<◌}
use native.Mathlib.Omega.{arith}
use Rattle.std.proofs.Math.ListN.{length}
use Rattle.lists.specs.Walk.{any}
use Rattle.records.specs.declared.Open.{Open}
use Rattle.records.specs.declared.Tables.{Tables}
use Rattle.records.specs.Empty.{no_open}
use Rattle.records.specs.Held.{sessions_of, opens_of}
use Rattle.invariants.specs.Sound.{Good, Keeps, keeps-good}
use Rattle.invariants.specs.BlockParse.{body_at, block_at}
use Rattle.chain.specs.Grammar.{IsBlock}
use Rattle.chain.specs.declared.block.WriteFields.{WriteFields}
use Rattle.chain.specs.declared.block.Body.{Body}
use Rattle.chain.specs.declared.block.Body.TheVariants.{Locking as LockingBody, Read as ReadBody, Write as WriteBody, Close, Logoff, TreeDisconnect, ProcessExit, CoreRead as CoreReadBody, CoreWrite as CoreWriteBody, LockByteRange, UnlockByteRange, Open as OpenBody}
use Rattle.chain.specs.declared.block.Block.{Block}
use Rattle.chain.specs.Next.{Next}
use Rattle.message.specs.declared.refusal.Forms.{Forms}
use Rattle.message.specs.declared.caller.Caller.{Caller}
use Rattle.message.specs.declared.refusal.Refusal.{Refusal}
use Rattle.message.specs.declared.refusal.Refusal.TheVariants.{NoSession}
use Rattle.message.specs.Contents.{size_of, contents}
use Rattle.message.specs.Command.{Said, Given, refused, done, is_session, with_session, open_at, unless_barred, as_core}
use Rattle.message.specs.JustOpened.{opened_by, body_meant}
use Rattle.message.specs.Reply.{reply_block, reply_size}
use Rattle.message.specs.Message.{area_of, data_of, Ran, after, link_to, after_given, only_status, Taken}
use Rattle.demands.specs.LockWords.{never}
use Rattle.demands.specs.FileBytes.{contents-byte, contents-same}
use Rattle.demands.specs.FileCommands.{data-counted, core-counted}

-- ---- file memories that show the same

-- two file memories of which, on these tables, every file shows the same bytes: they may differ at or above a file's size
pub record Shown (t : Tables) (memory other : List ℕ) : Type 0 where
  pub whole : length memory ≡ 65536
  pub other-whole : length other ≡ 65536
  pub same : (file : ℕ) → file ≤ 15 → contents t memory file ≡ contents t other file

-- each byte below a file's size is the same
pub shown-byte : {t : Tables} {memory other : List ℕ} → Shown t memory other → (file i : ℕ) → file ≤ 15 → i < size_of t file
    → get_or memory (file * 4096 + i) 0 ≡ get_or other (file * 4096 + i) 0
shown-byte {t} {memory} {other} s file i low h =
    sym (contents-byte t memory file i h) ∙ ap (λ (l : List ℕ). get_or l i 0) (s.same file low) ∙ contents-byte t other file i h

-- and that is all that it takes
pub sizes-shown : (t : Tables) (memory other : List ℕ) → ((file : ℕ) → file ≤ 15 → size_of t file ≤ 4096) → length memory ≡ 65536 → length other ≡ 65536
    → ((file i : ℕ) → file ≤ 15 → i < size_of t file → get_or memory (file * 4096 + i) 0 ≡ get_or other (file * 4096 + i) 0) → Shown t memory other
sizes-shown t memory other most full full' bytes =
    record {
      whole = full;
      other-whole = full';
      same = λ file low.
          let z = most file low in
          contents-same t t other memory file (omega arith) (full ∙ sym full') refl (λ i h. bytes file i low h);
    }

-- tables with the same files
pub files-shown : {t u : Tables} {memory other : List ℕ} → u.files ≡ t.files → Shown t memory other → Shown u memory other
unfolding contents size_of
files-shown {t} {u} {memory} {other} e s =
    record {
      whole = s.whole;
      other-whole = s.other-whole;
      same = λ file low. rw e (s.same file low);
    }

-- ---- a command

-- what a command gives on one file memory and on another: refused alike, or done with the same tables, the same said, and file memories that show the same again
pub data GivenAlike : Given → Given → Type 0 where
  both-refused : {why : Refusal} → GivenAlike (refused why) (refused why)
  both-done : {t : Tables} {memory other : List ℕ} {said : Said} → Shown t memory other → GivenAlike (done t memory said) (done t other said)

-- of a choice
pub both_cond : {A : Type 0} (P : A → A → Type 0) (b : Bool) (x y x' y' : A) → (b ≡ true → P x x') → (b ≡ false → P y y') → P (cond b x y) (cond b x' y')
both_cond P true x y x' y' f g = f refl
both_cond P false x y x' y' f g = g refl

pub core-alike : {d e : Given} → GivenAlike d e → GivenAlike (as_core d) (as_core e)
unfolding as_core
core-alike both-refused = both-refused
core-alike (both-done s) = both-done s

-- of the questions who may ask, which look at the tables alone
module _ (c : Caller) (t : Tables) where
  pub session-alike : (next next' : Given) → GivenAlike next next' → GivenAlike (with_session c t next) (with_session c t next')
  unfolding with_session
  session-alike next next' h = both_cond GivenAlike (any (is_session c) (sessions_of t)) next (refused NoSession) next' (refused NoSession) (λ _. h) (λ _. both-refused)

  pub open-at-alike : (f : Option ℕ) (next next' : Open → Given) → ((k : ℕ) → f ≡ Some k → GivenAlike (next (get_or (opens_of t) k no_open)) (next' (get_or (opens_of t) k no_open)))
      → GivenAlike (open_at f (opens_of t) next) (open_at f (opens_of t) next')
  unfolding open_at
  open-at-alike (Some k) next next' h = h k refl
  open-at-alike None next next' h = both-refused

  pub barred-alike : (f : Option ℕ) (next next' : Given) → GivenAlike next next' → GivenAlike (unless_barred t f next) (unless_barred t f next')
  unfolding unless_barred
  barred-alike (Some k) next next' h = both-refused
  barred-alike None next next' h = h

-- a file with other bytes, and the others as they were: what shows then shows alike if its own bytes do

-- a write's data is as long as its count, and so is a core WRITE's, behind the mark and the length of its data block; so it is with every block of a reading
pub record Filled (body : Body) (area bytes : List ℕ) : Type 0 where
  pub write-filled : (f : WriteFields) → body ≡ WriteBody f → length bytes ≡ f.count
  pub core-filled : (f : WriteFields) → body ≡ CoreWriteBody f → length (drop 3 area) ≡ f.count

pub block-filled : {s : List ℕ} {at command : ℕ} → IsBlock s at command → (next : Next)
    → Filled (body_at s command at) (area_of s (block_at s command at next)) (data_of s (block_at s command at next))
block-filled h next = record { write-filled = data-counted h next; core-filled = core-counted h next }

-- whatever FID is meant
pub meant-filled : (just : ℕ) (b : Body) (area bytes : List ℕ) → Filled b area bytes → Filled (body_meant just b) area bytes
unfolding body_meant
meant-filled just (LockingBody f) area bytes h = h
meant-filled just (ReadBody f) area bytes h = record { write-filled = λ g e. never cc; core-filled = λ g e. never cc }
meant-filled just (WriteBody f) area bytes h = h
meant-filled just (Close fid) area bytes h = h
meant-filled just Logoff area bytes h = h
meant-filled just TreeDisconnect area bytes h = h
meant-filled just ProcessExit area bytes h = h
meant-filled just (CoreReadBody f) area bytes h = h
meant-filled just (CoreWriteBody f) area bytes h = h
meant-filled just (LockByteRange f) area bytes h = h
meant-filled just (UnlockByteRange f) area bytes h = h
meant-filled just (OpenBody f) area bytes h = h

-- ---- a chain

-- what a chain leaves on one file memory and on another
pub record RanAlike (r r' : Ran) : Type 0 where
  pub same-forms : r.forms ≡ r'.forms
  pub same-holder : r.holder ≡ r'.holder
  pub same_tables : r.tables ≡ r'.tables
  pub same_blocks : r.blocks ≡ r'.blocks
  pub shown : Shown r.tables r.memory r'.memory

pub after-alike : {d d' : Given} → GivenAlike d d' → Keeps d → (bs : List Block) (place : ℕ) (t : Tables) (memory other : List ℕ) (rest : ℕ → ℕ → Tables → List ℕ → Ran) → Shown t memory other
    → ((j p : ℕ) (u : Tables) (m m' : List ℕ) → Good u → Shown u m m' → RanAlike (rest j p u m) (rest j p u m'))
    → RanAlike (after_given d bs place t memory rest) (after_given d' bs place t other rest)
unfolding after_given after
after-alike both-refused k bs place t memory other rest s f = record { same-forms = refl; same-holder = refl; same_tables = refl; same_blocks = refl; shown = s }
after-alike (both-done {t = u} {memory = m} {other = m'} {said} h) k bs place t memory other rest s f =
    let r = f (opened_by said) (place + reply_size said) u m m' (keeps-good k) h in
    record {
      same-forms = r.same-forms;
      same-holder = r.same-holder;
      same_tables = r.same_tables;
      same_blocks = ap (λ (l : List ℕ). reply_block said place (link_to bs (place + reply_size said)) ++ l) r.same_blocks;
      shown = r.shown;
    }

-- ---- a message

module _ (connection : ℕ) (s : List ℕ) (t : Tables) (memory other : List ℕ) (g : Good t) (shown : Shown t memory other) where
  pub only-alike : (why : Forms) → RanAlike (only_status why t memory) (only_status why t other)
  unfolding only_status
  only-alike why = record { same-forms = refl; same-holder = refl; same_tables = refl; same_blocks = refl; shown = shown }

-- what the call that takes a message gives on one file memory and on another: all but the file memory is the same
pub record TakenAlike (r r' : Taken) : Type 0 where
  pub same_number : r.number ≡ r'.number
  pub same_length : r.length ≡ r'.length
  pub same-holder : r.holder ≡ r'.holder
  pub same_tables : r.tables ≡ r'.tables
  pub same-room : r.room ≡ r'.room
  pub shown : Shown r.tables r.memory r'.memory

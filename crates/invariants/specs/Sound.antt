-- Demand 1 for messages: "Every call on sound tables leaves sound tables" (document 01, "Tables and room"). Assumes nothing.
use Rattle.std.specs.Prelude.{◌≡◌, ℕ, max, ◌+◌, ◌*◌, ◌≤◌, ◌<◌, true, ◌&&◌, leb, Option, None, Some}
use Rattle.std.proofs.Math.Path.{refl, sym, ap}
use Rattle.std.proofs.Common.{◌∙◌, arith, length-take}
use Rattle.std.proofs.Math.Bool.{false}
use mathlib.Core.List.{List, [], ◌∷◌, ◌++◌, map}
use Rattle.std.proofs.Math.ListN.{length, get_or}
use Rattle.std.proofs.Math.Dec.{ltb, eqb}
use borrow.Author.Tests.{leb-true, leb-false, ltb-false, eqb-true, eq-eqb}
use Rattle.lists.specs.Walk.{all, found}
use Rattle.lists.specs.RoomLaws.{held_more}
use Rattle.lists.specs.Members.{all-each, one-any, in_map}
use Rattle.lists.specs.Truth.{both_hold}
use Rattle.records.specs.declared.Open.{Open}
use Rattle.records.specs.declared.Lock.{Lock}
use Rattle.records.specs.declared.Name.{Name}
use Rattle.records.specs.declared.Tables.{Tables}
use Rattle.records.specs.Empty.{no_open, no_file, no_name}
use Rattle.records.specs.Held.{sessions_of, trees_of, opens_of, locks_of, names_of, with_opens, with_locks}
use Rattle.records.specs.Change.{LARGEST, changes_of, with_change, noting, with_read}
use Rattle.numbers.specs.Number.{contains}
use Rattle.numbers.specs.Column.{fid_of}
use Rattle.locks.specs.Wire.{range_size}
use Rattle.locks.specs.Request.{ranges_of, Result, done as done_with, refused as refused_by, settle, request, locking}
use Rattle.locks.specs.declared.types.Request.{Request}
use Rattle.locks.specs.declared.types.LockRefusal.TheVariants.{Malformed}
use Rattle.soundness.specs.File.{file_of}
use Rattle.catalogue.specs.Name.{is_named, not_zero, name_bytes, name_ok, none_doubled, catalogue_ok}
use Rattle.soundness.specs.Sound.{sound, file_ok, sharing_ok}
use Rattle.removal.specs.Removal.{remove}
use Rattle.removal.specs.declared.Gone.{Gone}
use Rattle.removal.specs.declared.Gone.TheVariants.{Session as UserGone, Tree as TreeGone, Open as OpenGone, Process as ProcessGone}
use Rattle.invariants.specs.SoundParts.{Sound, LocksOk, sound-says, sound-lists}
use Rattle.invariants.specs.Numbered.{numbered-same}
use Rattle.invariants.specs.ChangeLaws.{noted-length, noted-records, noted-locks, noted-seen}
use Rattle.invariants.specs.RuleLaws.{open-says}
use Rattle.invariants.specs.Shaped.{Shaped, opens-with, shaped-opens, shaped-locks, shaped-change, locks-with}
use Rattle.invariants.specs.HostSound.{added-sound, changed-sound}
use Rattle.invariants.specs.RemovalSound.{remove-sound, remove-shaped}
use Rattle.chain.specs.Layout.{header_command, FIRST}
use Rattle.chain.specs.Chain.{blocks}
use Rattle.chain.specs.declared.block.LockingFields.{LockingFields}
use Rattle.chain.specs.declared.block.ReadFields.{ReadFields}
use Rattle.chain.specs.declared.block.WriteFields.{WriteFields}
use Rattle.chain.specs.declared.block.RangeFields.{RangeFields}
use Rattle.chain.specs.declared.block.OpenFields.{OpenFields}
use Rattle.chain.specs.declared.block.Body.{Body}
use Rattle.chain.specs.declared.block.Body.TheVariants.{Locking as LockingBody, Read as ReadBody, Write as WriteBody, Close, Logoff, TreeDisconnect, ProcessExit, CoreRead as CoreReadBody, CoreWrite as CoreWriteBody, LockByteRange, UnlockByteRange, Open as OpenBody}
use Rattle.chain.specs.declared.block.Block.{Block}
use Rattle.message.specs.Caller.{caller_of}
use Rattle.message.specs.declared.caller.Caller.{Caller}
use Rattle.message.specs.Contents.{size_of, resized, sized_to}
use Rattle.message.specs.Command.{Given, Said, refused, done, is_open, served_type, request_of, with_lock_list, locking_end, locking_after, do_locking, do_read, ends_past, do_write, as_core, one_range, do_range, do_set_size, do_core_write, codes_served, open_by, do_open, perform}
use Rattle.message.specs.JustOpened.{NOBODY, body_meant}
use Rattle.message.specs.Message.{area_of, data_of, Ran, after, after_given, run, served, only_status, run_chain, answered}
use Rattle.message.specs.declared.refusal.Refusal.{Refusal}
use Rattle.message.specs.declared.refusal.Refusal.TheVariants.{NoAccess, LockType}
use Rattle.invariants.specs.GivenCases.{cond-case, request-case, session-case, tree-case, open-case, barred-case, writing-case, Opening, opening-case}
use Rattle.invariants.specs.FoundFacts.{Hit, found-hit, all_get_d}
use Rattle.invariants.specs.LockingSound.{release-ok, grant-ok}

-- tables that a call may be given: sound, with arrays of their room
pub record Good (t : Tables) : Type 0 where
  pub sound : sound t ≡ true
  pub shaped : Shaped t

-- a command refused, or done and good tables left
pub data Keeps : Given → Type 0 where
  keeps-refused : {why : Refusal} → Keeps (refused why)
  keeps-done : {t : Tables} {memory : List ℕ} {said : Said} → Good t → Keeps (done t memory said)

-- the tables that a command left
pub keeps-good : {t : Tables} {memory : List ℕ} {said : Said} → Keeps (done t memory said) → Good t
keeps-good (keeps-done g) = g

-- a core command leaves what its counterpart leaves
core-keeps : {d : Given} → Keeps d → Keeps (as_core d)
unfolding as_core
core-keeps keeps-refused = keeps-refused
core-keeps (keeps-done g) = keeps-done g

-- the open that a caller names: it is listed, with that FID
module _ (c : Caller) (t : Tables) (fid k : ℕ) (e : found (is_open c fid) (opens_of t) ≡ Some k) where
  pub open-hit : Hit (is_open c fid) (opens_of t) (get_or (opens_of t) k no_open)
  open-hit = found-hit (is_open c fid) (opens_of t) k no_open e

  pub open-fid : (get_or (opens_of t) k no_open).fid ≡ fid
  unfolding is_open
  open-fid = eqb-true (get_or (opens_of t) k no_open).fid fid (both_hold (eqb (get_or (opens_of t) k no_open).fid fid) _ open-hit.passes).0

  -- its FID is in use
  pub open-known : contains fid (map fid_of (opens_of t)) ≡ true
  unfolding contains
  open-known =
      one-any (λ (x : ℕ). eqb x fid) (in_map fid_of open-hit.listed) (eq-eqb (get_or (opens_of t) k no_open).fid fid open-fid)

  -- its file is one of the 16
  pub open-file : Sound t → (get_or (opens_of t) k no_open).file ≤ 15
  open-file s =
      leb-true (get_or (opens_of t) k no_open).file 15 (open-says (trees_of t) (get_or (opens_of t) k no_open) (all-each _ open-hit.listed s.records.opens_ok)).file

-- a file's size
pub size-most : (t : Tables) (file : ℕ) → Sound t → size_of t file ≤ 4096
unfolding size_of file_ok
size-most t file s =
    leb-true (get_or t.files file no_file).size 4096 (both_hold (leb (get_or t.files file no_file).size 4096) _ (all_get_d file_ok t.files file no_file refl s.sizes)).0

-- a file's change number
pub changes-most : (t : Tables) (file : ℕ) → Sound t → changes_of t file ≤ LARGEST
unfolding changes_of file_ok
changes-most t file s =
    leb-true (get_or t.files file no_file).changes LARGEST (both_hold (leb (get_or t.files file no_file).size 4096) _ (all_get_d file_ok t.files file no_file refl s.sizes)).1

-- ---- LOCKING

-- the tables with the list that a request leaves
locks-left : (t : Tables) (list : List Lock)
    → with_lock_list t (settle t.locks t.nlocks (done_with list)).locks (settle t.locks t.nlocks (done_with list)).count ≡ with_locks t list
unfolding with_lock_list settle with_locks
locks-left t list = refl

module _ (t : Tables) (g : Good t) where
  listed : Sound t
  listed = sound-says t g.sound

  -- a list that obeys the rules for locks, and for which there is room
  locks-good : (list : List Lock) → length list ≤ 128 → LocksOk (opens_of t) list → Good (with_locks t list)
  unfolding with_locks
  locks-good list h ok =
      let r = listed.room in
      record {
        sound = sound-lists (with_locks t list) (sessions_of t) (trees_of t) (opens_of t) list refl refl refl (locks-with t list)
            (record { sessions-fit = r.sessions-fit; trees-fit = r.trees-fit; opens-fit = r.opens-fit; locks-fit = h })
            listed.sizes listed.records ok listed.catalogue listed.seen;
        shaped = shaped-locks t g.shaped list h;
      }

  -- a request that is done leaves such a list
  request-keeps : (memory : List ℕ) (q : Request) (area : List ℕ) → contains q.fid (map fid_of (opens_of t)) ≡ true
      → Keeps (locking_after t memory (locking (file_of (opens_of t)) t.locks t.nlocks q area))
  unfolding locking settle locking_after locking_end
  request-keeps memory q area known =
      cond-case (λ (r : Result). Keeps (locking_after t memory (settle t.locks t.nlocks r))) (eqb (length area) ((q.unlocks + q.locks) * range_size q.large))
      (request (file_of (opens_of t)) q.fid q.shared (ranges_of q area 0 q.unlocks) (ranges_of q area q.unlocks q.locks) (locks_of t))
      (refused_by Malformed)
      (λ _. request-case (λ (r : Result). Keeps (locking_after t memory (settle t.locks t.nlocks r))) keeps-refused keeps-refused (λ k. keeps-refused) keeps-refused
      (file_of (opens_of t)) q.fid q.shared (ranges_of q area q.unlocks q.locks) (ranges_of q area 0 q.unlocks) (locks_of t)
      (λ left list e low f h. keeps-done (rw (locks-left t list)
      (locks-good list h
      (grant-ok (opens_of t) q.fid q.shared known (ranges_of q area q.unlocks q.locks) left list low
      (release-ok (opens_of t) (file_of (opens_of t)) q.fid (ranges_of q area 0 q.unlocks) (locks_of t) left listed.locks e) f)))))
      (λ _. keeps-refused)

  -- ---- a write

  -- a file changed, and of another size
  changed-good : (file size : ℕ) → size ≤ 4096 → Good (with_change t file size)
  changed-good file size h = record { sound = changed-sound t listed file size h; shaped = shaped-change t g.shaped file size }

  -- "and a size below the write's end becomes that end": at most 4,096
  resized-good : (file offset count : ℕ) → ends_past offset count ≡ false → Good (resized t file offset count)
  unfolding resized ends_past
  resized-good file offset count e =
      cond-case Good (eqb count 0) t (with_change t file (max (size_of t file) (offset + count))) (λ _. g)
      (λ f. let past : ltb 4096 (offset + count) ≡ false = rw f at e in
      let low : offset + count ≤ 4096 = ltb-false 4096 (offset + count) past in
      let most : size_of t file ≤ 4096 = size-most t file listed in
      changed-good file (max (size_of t file) (offset + count)) (omega arith))

  -- a size set
  sized-good : (file size : ℕ) → size ≤ 4096 → Good (sized_to t file size)
  unfolding sized_to
  sized-good file size h = cond-case Good (eqb (size_of t file) size) t (with_change t file size) (λ _. g) (λ _. changed-good file size h)

  -- ---- a read

  -- the open that has read remembers its file's number: no other has its FID
  read-good : (c : Caller) (fid k : ℕ) → found (is_open c fid) (opens_of t) ≡ Some k → Good (with_read t fid (changes_of t (get_or (opens_of t) k no_open).file))
  unfolding with_opens changes_of
  read-good c fid k e =
      let number = (get_or t.files (get_or (opens_of t) k no_open).file no_file).changes in
      let noted = map (noting fid number) (opens_of t) in
      let fit = listed.room.opens-fit in
      let few : length (opens_of t) ≤ 64 = rw (length-take t.nopens t.opens) (omega arith) in
      let few' : length (map (noting fid number) (opens_of t)) ≤ 64 = rw (noted-length fid number (opens_of t)) few in
      record {
        sound = sound-lists (with_opens t noted) (sessions_of t) (trees_of t) noted (locks_of t) refl refl (opens-with t noted) refl
            (record { sessions-fit = listed.room.sessions-fit; trees-fit = listed.room.trees-fit; opens-fit = few'; locks-fit = listed.room.locks-fit })
            listed.sizes (noted-records fid number (sessions_of t) (trees_of t) (opens_of t) listed.records)
            (noted-locks fid number (opens_of t) (locks_of t) listed.locks) listed.catalogue
            (noted-seen fid number t.files (opens_of t)
            (λ x m q. let same = numbered-same fid_of 64 (opens_of t) listed.records.fids m (open-hit c t fid k e).listed (q ∙ sym (open-fid c t fid k e)) in
            let f = ap (λ (y : Open). (get_or t.files y.file no_file).changes) same in omega arith)
            listed.seen);
        shaped = shaped-opens t g.shaped noted few';
      }

  -- ---- an open by name

  -- the file that a name of the catalogue has is one of the 16
  pub named-file : (k : ℕ) (name : List ℕ) → found (is_named name) (names_of t) ≡ Some k → leb (get_or (names_of t) k no_name).file 15 ≡ true
  unfolding catalogue_ok name_ok
  named-file k name e =
      let n : Name = get_or (names_of t) k no_name in
      let rules = (both_hold (leb t.nnames 16) (all name_ok (names_of t) && none_doubled (names_of t)) listed.catalogue).1 in
      let each = all-each name_ok (found-hit (is_named name) (names_of t) k no_name e).listed (both_hold (all name_ok (names_of t)) (none_doubled (names_of t)) rules).0 in
      let upper = (both_hold (leb 1 (get_or (names_of t) k no_name).length) _ each).1 in
      let bytes = (both_hold (leb (get_or (names_of t) k no_name).length 12) _ upper).1 in
      (both_hold (all not_zero (name_bytes (get_or (names_of t) k no_name))) (leb (get_or (names_of t) k no_name).file 15) bytes).1

  opened-good : (c : Caller) (f : OpenFields) (name : List ℕ) (k : ℕ) → Opening c t f name k
      → Good (with_opens t (opens_of t ++ (open_by c t f (get_or (names_of t) k no_name).file ∷ [])))
  unfolding open_by codes_served
  opened-good c f name k p =
      let codes = both_hold (leb f.access 2) (sharing_ok f.sharing) p.codes in
      let room : t.nopens < 64 = leb-false 64 t.nopens p.room in
      record {
        sound = added-sound t listed c.uid c.tid c.process (get_or (names_of t) k no_name).file f.access f.sharing
            (record { file = named-file k name p.named; access = codes.0; sharing = codes.1; held = p.held }) room;
        shaped = shaped-opens t g.shaped _ (held_more t.nopens t.opens 64 room _);
      }

  -- ---- all twelve

  module _ (c : Caller) (memory : List ℕ) where
    locking-keeps : (f : LockingFields) (area : List ℕ) → Keeps (do_locking c t memory f area)
    unfolding do_locking request_of
    locking-keeps f area =
        open-case Keeps c t f.fid _ keeps-refused keeps-refused keeps-refused
        (λ k e. cond-case Keeps (served_type f.kind) _ (refused LockType)
        (λ _. request-keeps memory (request_of c f) area (open-known c t f.fid k e)) (λ _. keeps-refused))

    read_keeps : (f : ReadFields) → Keeps (do_read c t memory f)
    unfolding do_read
    read_keeps f =
        open-case Keeps c t f.fid _ keeps-refused keeps-refused keeps-refused
        (λ k e. cond-case Keeps (eqb (get_or (opens_of t) k no_open).access 1) (refused NoAccess) _ (λ _. keeps-refused)
        (λ _. barred-case Keeps t _ _ (λ j. keeps-refused) (λ _. keeps-done (read-good c f.fid k e))))

    write_keeps : (f : WriteFields) (bytes : List ℕ) → Keeps (do_write c t memory f bytes)
    unfolding do_write
    write_keeps f bytes =
        writing-case Keeps c t f.fid _ (ends_past f.offset f.count) _ keeps-refused keeps-refused keeps-refused keeps-refused (λ h. keeps-refused) keeps-refused
        (λ k _ e. keeps-done (resized-good (get_or (opens_of t) k no_open).file f.offset f.count e))

    -- "past 4,096 is 3/39"
    set-size-keeps : (f : WriteFields) → Keeps (do_set_size c t memory f)
    unfolding do_set_size
    set-size-keeps f =
        writing-case Keeps c t f.fid _ (ltb 4096 f.offset) _ keeps-refused keeps-refused keeps-refused keeps-refused (λ h. keeps-refused) keeps-refused
        (λ k _ e. keeps-done (sized-good (get_or (opens_of t) k no_open).file f.offset (ltb-false 4096 f.offset e)))

    core-write-keeps : (f : WriteFields) (bytes : List ℕ) → Keeps (do_core_write c t memory f bytes)
    unfolding do_core_write
    core-write-keeps f bytes = cond-case Keeps (eqb f.count 0) _ _ (λ _. set-size-keeps f) (λ _. core-keeps (write_keeps f bytes))

    range-keeps : (f : RangeFields) (unlocks locks : ℕ) → Keeps (do_range c t memory f unlocks locks)
    unfolding do_range
    range-keeps f unlocks locks = core-keeps (locking-keeps (one_range f unlocks locks) _)

    open-keeps : (f : OpenFields) (name : List ℕ) → Keeps (do_open c t memory f name)
    open-keeps f name =
        opening-case Keeps c t memory f name keeps-refused keeps-refused keeps-refused keeps-refused keeps-refused keeps-refused keeps-refused keeps-refused
        (λ k p. keeps-done (opened-good c f name k p))

    -- a removal
    gone-good : (gone : Gone) → Good (remove gone t)
    gone-good gone = record { sound = remove-sound gone t g.sound; shaped = remove-shaped gone t g.shaped g.sound }

    -- whatever the command, its bytes and its data
    pub perform-keeps : (b : Body) (area bytes : List ℕ) → Keeps (perform c t memory b area bytes)
    unfolding perform
    perform-keeps (LockingBody f) area bytes = locking-keeps f area
    perform-keeps (ReadBody f) area bytes = read_keeps f
    perform-keeps (WriteBody f) area bytes = write_keeps f bytes
    perform-keeps (Close fid) area bytes = open-case Keeps c t fid _ keeps-refused keeps-refused keeps-refused (λ k _. keeps-done (gone-good (OpenGone fid)))
    perform-keeps Logoff area bytes = session-case Keeps c t _ keeps-refused (λ _. keeps-done (gone-good (UserGone c.uid)))
    perform-keeps TreeDisconnect area bytes = tree-case Keeps c t _ keeps-refused keeps-refused (keeps-done (gone-good (TreeGone c.tid)))
    perform-keeps ProcessExit area bytes = session-case Keeps c t _ keeps-refused (λ _. keeps-done (gone-good (ProcessGone c.uid c.process)))
    perform-keeps (CoreReadBody f) area bytes = core-keeps (read_keeps f)
    perform-keeps (CoreWriteBody f) area bytes = core-write-keeps f _
    perform-keeps (LockByteRange f) area bytes = range-keeps f 0 1
    perform-keeps (UnlockByteRange f) area bytes = range-keeps f 1 0
    perform-keeps (OpenBody f) area bytes = open-keeps f _

-- ---- a chain

after-keeps : {d : Given} → Keeps d → (bs : List Block) (place : ℕ) (t : Tables) (memory : List ℕ) (rest : ℕ → ℕ → Tables → List ℕ → Ran) → Good t
    → ((j p : ℕ) (u : Tables) (m : List ℕ) → Good u → Good (rest j p u m).tables) → Good (after_given d bs place t memory rest).tables
unfolding after_given after
after-keeps keeps-refused bs place t memory rest g f = g
after-keeps (keeps-done h) bs place t memory rest g f = f _ _ _ _ h

-- "command by command": each leaves good tables
pub run-keeps : (c : Caller) (s : List ℕ) (just : ℕ) (bs : List Block) (place : ℕ) (t : Tables) (memory : List ℕ) → Good t → Good (run c s just bs place t memory).tables
unfolding run
run-keeps c s just [] place t memory g = g
run-keeps c s just (b ∷ bs) place t memory g =
    after-keeps (perform-keeps t g c memory (body_meant just b.body) (area_of s b) (data_of s b)) bs place t memory _ g (λ j p u m h. run-keeps c s j bs p u m h)

chain-keeps : (c : Caller) (s : List ℕ) (o : Option (List Block)) (t : Tables) (memory : List ℕ) → Good t → Good (run_chain c s o t memory).tables
unfolding run_chain only_status
chain-keeps c s None t memory g = g
chain-keeps c s (Some bs) t memory g = run-keeps c s NOBODY bs FIRST t memory g

-- "Every call on sound tables leaves sound tables": a message does, whatever its bytes
pub answered-good : (connection : ℕ) (s : List ℕ) (t : Tables) (memory : List ℕ) → Good t → Good (answered connection s t memory).tables
unfolding answered only_status
answered-good connection s t memory g =
    cond-case (λ (r : Ran). Good r.tables) (served (header_command s)) (run_chain (caller_of connection s) s (blocks s) t memory) _
    (λ _. chain-keeps (caller_of connection s) s (blocks s) t memory g) (λ _. g)

-- the same, as the paper says it
pub answered-sound : (connection : ℕ) (s : List ℕ) (t : Tables) (memory : List ℕ) → sound t ≡ true → Shaped t
    → sound (answered connection s t memory).tables ≡ true
answered-sound connection s t memory e h = (answered-good connection s t memory (record { sound = e; shaped = h })).sound

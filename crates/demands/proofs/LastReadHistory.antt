-- Of specs/LastReadHistory.antt: what rests on its other theorems. Assumes nothing.
use Rattle.std.specs.Prelude.{◌≡◌, ℕ, ◌+◌, ◌*◌, ◌≤◌, ◌<◌, Bool, ◌||◌, drop, get_or, eqb, Option, None, Some, Ok, Err}
use Rattle.std.proofs.Math.Path.{refl, ap}
use Rattle.std.proofs.Common.{sym, ◌∙◌, inl, inr}
use native.Mathlib.Omega.{arith}
use Rattle.std.proofs.Math.Decide.{ℕ_discrete}
use Rattle.std.proofs.Math.Bool.{true, false, cond, not}
use mathlib.Core.List.{List, [], ◌∷◌, ◌++◌, map, Memᴰ as In}
use Rattle.std.proofs.Math.ListN.{length}
use Rattle.std.proofs.Math.Dec.{ltb}
use borrow.Author.Tests.{leb-false, ltb-false, eq-eqb, ne_eqb}
use Rattle.lists.specs.Walk.{found}
use Rattle.lists.specs.Truth.{test-cases, not-decided-twice}
use Rattle.records.specs.declared.Open.{Open}
use Rattle.records.specs.declared.File.{File}
use Rattle.records.specs.declared.Tables.{Tables}
use Rattle.records.specs.Change.{changes_of}
use Rattle.records.specs.Empty.{no_open, no_file, no_name}
use Rattle.records.specs.Held.{opens_of, names_of, with_sessions, with_trees, with_opens, with_files, with_catalogue}
use Rattle.numbers.specs.Number.{contains}
use Rattle.numbers.specs.Column.{fid_of}
use Rattle.soundness.specs.File.{file_of}
use Rattle.soundness.specs.Sound.{sound}
use Rattle.removal.specs.Removal.{remove}
use Rattle.removal.specs.declared.Gone.{Gone}
use Rattle.removal.specs.declared.Gone.TheVariants.{Session as UserGone, Tree as TreeGone, Open as OpenGone, Process as ProcessGone}
use Rattle.locks.specs.declared.types.Locking.{Locking}
use Rattle.locks.specs.Outcome.{Outcome}
use Rattle.locks.specs.declared.types.LockRefusal.TheVariants.{Malformed as BadRanges, NoSuchLock as NoLock, PassesEnd as PastEnd, Conflict as InWay, NoRecord as NoRoom}
use Rattle.host.specs.HostCall.{done as host_done, add_open, load_file, load_memory}
use Rattle.invariants.specs.GivenCases.{cond-case, session-case, tree-case, open-case, barred-case, writing-case, opening-case}
use Rattle.invariants.specs.HostCases.{add_session-either, add_tree-either, drop_connection-either, end_one-either, set_catalogue-either}
use Rattle.invariants.specs.Numbered.{one-named}
use Rattle.invariants.specs.Shaped.{opens-with}
use Rattle.invariants.specs.Sound.{Good, perform-keeps, open-hit, open-fid, open-file}
use Rattle.invariants.specs.SoundParts.{sound-says}
use Rattle.invariants.specs.BlockParse.{body_at, block_at}
use Rattle.invariants.specs.Chained.{Chained, chained-end, chained_more, read-chained}
use Rattle.claims.specs.HostAnswer.{smallest-new, load_file-refused, load_memory-refused, add_open-refused}
use Rattle.claims.specs.HostFrames.{add_open-frame, load_file-frame}
use Rattle.claims.specs.RemovalPlain.{files-stand}
use Rattle.claims.specs.AskUnchanged.{UpToDate, ask-stands}
use Rattle.chain.specs.Layout.{header_command, FIRST}
use Rattle.chain.specs.Header.{dropped}
use Rattle.chain.specs.Chain.{blocks}
use Rattle.chain.specs.declared.block.Block.{Block}
use Rattle.chain.specs.declared.block.LockingFields.{LockingFields}
use Rattle.chain.specs.declared.block.ReadFields.{ReadFields}
use Rattle.chain.specs.declared.block.WriteFields.{WriteFields}
use Rattle.chain.specs.declared.block.RangeFields.{RangeFields}
use Rattle.chain.specs.declared.block.OpenFields.{OpenFields}
use Rattle.chain.specs.declared.block.Body.{Body}
use Rattle.chain.specs.declared.block.Body.TheVariants.{Locking as LockingBody, Read as ReadBody, Write as WriteBody, Close, Logoff, TreeDisconnect, ProcessExit, CoreRead as CoreReadBody, CoreWrite as CoreWriteBody, LockByteRange, UnlockByteRange, Open as OpenBody}
use Rattle.message.specs.Caller.{caller_of}
use Rattle.message.specs.declared.caller.Caller.{Caller}
use Rattle.message.specs.declared.refusal.Refusal.TheVariants.{NoAccess, LockType, NotServed}
use Rattle.message.specs.Contents.{size_of, grown, written, resized, sized_to}
use Rattle.message.specs.Command.{Said, wrote, core_wrote, refused, done, is_open, served_type, with_lock_list, locking_end, locking_after, do_locking, do_read, ends_past, do_write, one_range, do_range, do_set_size, do_core_write, open_by, opened_said, do_open, perform}
use Rattle.message.specs.JustOpened.{NOBODY, opened_by, body_meant}
use Rattle.message.specs.Message.{run, served, only_status, run_chain, answered, Taken, not_taken, replied, take-message}
use Rattle.message.specs.Refusal.{forms_of}
use Rattle.demands.proofs.FileBytes.{written-bytes}
use Rattle.demands.specs.FileBytes.{written-nothing, grown-bytes, resized-nothing, resized-number, resized-changes, resized-others, change-here, sized-changes, sized_same, sized-others, beside}
use Rattle.demands.specs.MemorySize.{write-ends}
use Rattle.demands.specs.OldBytes.{Asked, ask-session, ask-tree, ask-open, ask-load, ask-drop, ask-end, ask-catalogue, ask-unchanged, ask-message, host_told, message_told, told, memory_left, asked-call, left_by}
use Rattle.demands.specs.Reached.{call-good, call-memory}
use Rattle.demands.specs.SetSize.{shrunk}
use Rattle.demands.specs.Shown.{Filled, meant-filled, block-filled}
use Rattle.demands.specs.LastRead.{Reads, nothing, was_read, was-changed, was-opened, event_of, after_event, reads_run, reads_chain, reads_message, reads_call, reads_after}
use Rattle.demands.specs.LastReadKept.{Kept, fewer-kept, opened-kept, changed-kept, others-contents}
use Rattle.demands.proofs.LastReadKept.{read_kept}
use Rattle.demands.specs.LastReadHistory.{AsItWas, Leaves, ReadAgain, Still, by-changed, core-event, file-named, quiet, refused-still, removed-was, step_kept, still, with-read}
use Rattle.demands.specs.LastReadHistory.{leaves-done}
use Rattle.demands.specs.LastReadHistory.{leaves-refused}
use Rattle.demands.specs.LastReadHistory.{never-read}

module _ (t : Tables) (g : Good t) (memory : List ℕ) (full : length memory ≡ 65536) (reads : Reads) (k : Kept t memory reads) where
  pub gone-still : (gone : Gone) {said : Said} → Leaves t memory reads (quiet t g memory full reads k) (done (remove gone t) memory said)
  gone-still gone = (still t g memory full reads k) (files-stand gone t) ((removed-was t g memory full reads k) gone)

  pub locks-still : (end : Outcome) (l : Locking) → Leaves t memory reads (quiet t g memory full reads k) (locking_end end t memory l)
  unfolding locking_end with_lock_list
  locks-still (Ok _) l = (still t g memory full reads k) refl (λ o m. m)
  locks-still (Err BadRanges) l = leaves-refused
  locks-still (Err NoLock) l = leaves-refused
  locks-still (Err PastEnd) l = leaves-refused
  locks-still (Err (InWay h)) l = leaves-refused
  locks-still (Err NoRoom) l = leaves-refused

  -- of some bytes, that ends in its file
  pub written-kept : (file offset count : ℕ) (bytes : List ℕ) → length bytes ≡ count → 1 ≤ count → offset + count ≤ 4096 → file ≤ 15
      → Kept (resized t file offset count) (written t memory file offset bytes) (after_event (was-changed file) t memory reads) × (length (written t memory file offset bytes) ≡ 65536)
  unfolding with_files
  written-kept file offset count bytes n some_bytes ends low =
      let w = written-bytes t memory file offset g.sound full low bytes (let m : 1 ≤ length bytes = omega arith in m) (let m : offset + length bytes ≤ 4096 = omega arith in m) in
      let others = resized-others t file offset count some_bytes in
      let set = resized-changes t file offset count some_bytes in (
        changed-kept t (resized t file offset count) memory (written t memory file offset bytes) file g (ap opens_of set)
            (resized-number t file offset count some_bytes g.shaped low) others
            (others-contents t (resized t file offset count) memory (written t memory file offset bytes) file g full w.same_length others w.other-files) k,
        w.same_length ∙ full,
      )

  -- a size set that alters it
  pub sized-kept : (file size : ℕ) → size ≤ 4096 → file ≤ 15 → (size ≡ size_of t file → ⊥)
      → Kept (sized_to t file size) (grown t memory file size) (after_event (was-changed file) t memory reads) × (length (grown t memory file size) ≡ 65536)
  unfolding with_files changes_of
  sized-kept file size within low alters =
      let w = grown-bytes t memory file size g.sound full low within in
      let others = sized-others t file size in
      let set = sized-changes t file size alters in (
        changed-kept t (sized_to t file size) memory (grown t memory file size) file g (ap opens_of set)
            (ap (λ (u : Tables). (get_or u.files file no_file).changes) set ∙ ap (λ (f : File). f.changes) (change-here t file size g.shaped low)) others
            (others-contents t (sized_to t file size) memory (grown t memory file size) file g full w.same_length others w.other-files) k,
        w.same_length ∙ full,
      )

  module _ (c : Caller) where
    pub locking-event : (f : LockingFields) (area : List ℕ) → Leaves t memory reads (quiet t g memory full reads k) (do_locking c t memory f area)
    unfolding do_locking locking_after
    locking-event f area =
        open-case (Leaves t memory reads (quiet t g memory full reads k)) c t f.fid _ leaves-refused leaves-refused leaves-refused
        (λ j e. cond-case (Leaves t memory reads (quiet t g memory full reads k)) (served_type f.kind) _ (refused LockType) (λ _. locks-still _ _) (λ _. leaves-refused))

    pub read-event : (f : ReadFields) → Leaves t memory reads (λ said. was_read f.fid) (do_read c t memory f)
    unfolding do_read
    read-event f =
        open-case (Leaves t memory reads (λ said. was_read f.fid)) c t f.fid _ leaves-refused leaves-refused leaves-refused
        (λ j e. cond-case (Leaves t memory reads (λ said. was_read f.fid)) (eqb (get_or (opens_of t) j no_open).access 1) (refused NoAccess) _ (λ _. leaves-refused)
        (λ _. barred-case (Leaves t memory reads (λ said. was_read f.fid)) t _ _ (λ h. leaves-refused)
        (λ _. leaves-done (rw (open-fid c t f.fid j e) at (read_kept t memory g (get_or (opens_of t) j no_open) (open-hit c t f.fid j e).listed k)) full)))

    pub write-event : (f : WriteFields) (bytes : List ℕ) → length bytes ≡ f.count
        → Leaves t memory reads (λ said. cond (eqb f.count 0) nothing (was-changed (file_of (opens_of t) f.fid))) (do_write c t memory f bytes)
    unfolding do_write after_event
    write-event f bytes n =
        writing-case (Leaves t memory reads _) c t f.fid _ (ends_past f.offset f.count) _ leaves-refused leaves-refused leaves-refused leaves-refused (λ h. leaves-refused) leaves-refused
        (λ j e past. one j e past (ℕ_discrete f.count 0))
      where
        one : (j : ℕ) → found (is_open c f.fid) (opens_of t) ≡ Some j → ends_past f.offset f.count ≡ false → Dec (f.count ≡ 0)
            → Leaves t memory reads (λ said. cond (eqb f.count 0) nothing (was-changed (file_of (opens_of t) f.fid)))
            (done (resized t (get_or (opens_of t) j no_open).file f.offset f.count) (written t memory (get_or (opens_of t) j no_open).file f.offset bytes) (wrote f.count))
        one j e past (yes z) =
            let file = (get_or (opens_of t) j no_open).file in
            rw (written-nothing t memory file f.offset bytes (n ∙ z), z, resized-nothing t file f.offset) (leaves-done k full)
        one j e past (no p) =
            let file = (get_or (opens_of t) j no_open).file in
            let w = written-kept file f.offset f.count bytes n (omega arith) (write-ends f.offset f.count past p) (open-file c t f.fid j e (sound-says t g.sound)) in
            rw (ne_eqb f.count 0 p, (file-named t g memory full reads k c) f.fid j e) (leaves-done w.0 w.1)

    -- count 0: "each WRITE of count 0 that alters the size"
    pub size-event : (f : WriteFields)
        → Leaves t memory reads (λ said. cond (eqb (size_of t (file_of (opens_of t) f.fid)) f.offset) nothing (was-changed (file_of (opens_of t) f.fid))) (do_set_size c t memory f)
    unfolding do_set_size after_event
    size-event f =
        writing-case (Leaves t memory reads _) c t f.fid _ (ltb 4096 f.offset) _ leaves-refused leaves-refused leaves-refused leaves-refused (λ h. leaves-refused) leaves-refused
        (λ j e past. one j e past (ℕ_discrete f.offset (size_of t (get_or (opens_of t) j no_open).file)))
      where
        one : (j : ℕ) → found (is_open c f.fid) (opens_of t) ≡ Some j → ltb 4096 f.offset ≡ false → Dec (f.offset ≡ size_of t (get_or (opens_of t) j no_open).file)
            → Leaves t memory reads (λ said. cond (eqb (size_of t (file_of (opens_of t) f.fid)) f.offset) nothing (was-changed (file_of (opens_of t) f.fid)))
            (done (sized_to t (get_or (opens_of t) j no_open).file f.offset) (grown t memory (get_or (opens_of t) j no_open).file f.offset) (core_wrote 0))
        one j e past (yes z) =
            let file = (get_or (opens_of t) j no_open).file in
            let low = open-file c t f.fid j e (sound-says t g.sound) in
            let within = ltb-false 4096 f.offset past in
            rw ((file-named t g memory full reads k c) f.fid j e, eq-eqb (size_of t file) f.offset (sym z), sized_same t file f.offset z, shrunk t memory file f.offset g full low within (omega arith)) (leaves-done k full)
        one j e past (no p) =
            let file = (get_or (opens_of t) j no_open).file in
            let w = sized-kept file f.offset (ltb-false 4096 f.offset past) (open-file c t f.fid j e (sound-says t g.sound)) p in
            rw ((file-named t g memory full reads k c) f.fid j e, ne_eqb (size_of t file) f.offset (λ q. p (sym q))) (leaves-done w.0 w.1)

    pub core-write-event : (f : WriteFields) (bytes : List ℕ) → length bytes ≡ f.count
        → Leaves t memory reads
        (λ said. cond (eqb f.count 0) (cond (eqb (size_of t (file_of (opens_of t) f.fid)) f.offset) nothing (was-changed (file_of (opens_of t) f.fid))) (was-changed (file_of (opens_of t) f.fid)))
        (do_core_write c t memory f bytes)
    unfolding do_core_write
    core-write-event f bytes n =
        elim (ℕ_discrete f.count 0) [
          | yes z ↦ rw (eq-eqb f.count 0 z) (size-event f)
          | no p ↦ rw (ne_eqb f.count 0 p) ((core-event t g memory full reads k) (rw (ne_eqb f.count 0 p) at (write-event f bytes n)))
        ]

    -- a new open: its FID is in no use
    pub open-event : (f : OpenFields) (name : List ℕ) → Leaves t memory reads (λ said. was-opened (opened_by said)) (do_open c t memory f name)
    unfolding opened_by opened_said open_by with_opens
    open-event f name =
        opening-case (Leaves t memory reads (λ said. was-opened (opened_by said))) c t memory f name leaves-refused leaves-refused leaves-refused leaves-refused leaves-refused leaves-refused
        leaves-refused leaves-refused (λ j p. one (get_or (names_of t) j no_name).file (leb-false 64 t.nopens p.room) f.full _)
      where
        new : (file : ℕ) → t.nopens < 64 → Kept (with_opens t (opens_of t ++ (open_by c t f file ∷ []))) memory (after_event (was-opened (open_by c t f file).fid) t memory reads)
        new file room =
            opened-kept (open_by c t f file) refl (opens-with t (opens_of t ++ (open_by c t f file ∷ []))) refl
            (λ o m e. not-decided-twice (contains (open_by c t f file).fid (map fid_of (opens_of t))) (one-named fid_of (open_by c t f file).fid m e) (smallest-new fid_of 64 t.nopens t.opens room).unused) k

        one : (file : ℕ) → t.nopens < 64 → (b : Bool) (size : ℕ)
            → Leaves t memory reads (λ said. was-opened (opened_by said))
            (done (with_opens t (opens_of t ++ (open_by c t f file ∷ []))) memory (opened_said b (open_by c t f file).fid size f.access))
        one file room true size = leaves-done (new file room) full
        one file room false size = leaves-done (new file room) full

    pub range-event : (f : RangeFields) (unlocks locks : ℕ) → Leaves t memory reads (quiet t g memory full reads k) (do_range c t memory f unlocks locks)
    unfolding do_range
    range-event f unlocks locks = (core-event t g memory full reads k) (locking-event (one_range f unlocks locks) _)

    -- whatever the command
    pub perform-event : (b : Body) (area bytes : List ℕ) → Filled b area bytes → Leaves t memory reads (event_of t b) (perform c t memory b area bytes)
    unfolding perform event_of
    perform-event (LockingBody f) area bytes n = locking-event f area
    perform-event (ReadBody f) area bytes n = read-event f
    perform-event (WriteBody f) area bytes n = write-event f bytes (n.write-filled f refl)
    perform-event (Close fid) area bytes n =
        open-case (Leaves t memory reads (quiet t g memory full reads k)) c t fid _ leaves-refused leaves-refused leaves-refused (λ j _. gone-still (OpenGone fid))
    perform-event Logoff area bytes n = session-case (Leaves t memory reads (quiet t g memory full reads k)) c t _ leaves-refused (λ _. gone-still (UserGone c.uid))
    perform-event TreeDisconnect area bytes n = tree-case (Leaves t memory reads (quiet t g memory full reads k)) c t _ leaves-refused leaves-refused (gone-still (TreeGone c.tid))
    perform-event ProcessExit area bytes n = session-case (Leaves t memory reads (quiet t g memory full reads k)) c t _ leaves-refused (λ _. gone-still (ProcessGone c.uid c.process))
    perform-event (CoreReadBody f) area bytes n = (core-event t g memory full reads k) (read-event f)
    perform-event (CoreWriteBody f) area bytes n = core-write-event f (drop 3 area) (n.core-filled f refl)
    perform-event (LockByteRange f) area bytes n = range-event f 0 1
    perform-event (UnlockByteRange f) area bytes n = range-event f 1 0
    perform-event (OpenBody f) area bytes n = open-event f _

pub run-kept : {s : List ℕ} {command at : ℕ} {bs : List Block} (c : Caller) → Chained s command at bs → (just place : ℕ) (t : Tables) (memory : List ℕ) (reads : Reads) → Good t
    → length memory ≡ 65536 → Kept t memory reads → Kept (run c s just bs place t memory).tables (run c s just bs place t memory).memory (reads_run c s just bs t memory reads)
unfolding run reads_run block_at
run-kept {s} c (chained-end {command} {at} h l) just place t memory reads g full k =
    step_kept (body_meant just (body_at s command at)) _ k
    (perform-event t g memory full reads k c (body_meant just (body_at s command at)) _ _ (meant-filled just _ _ _ (block-filled h _)))
    (perform-keeps t g c memory (body_meant just (body_at s command at)) _ _) [] place
    (λ j p u m. run c s j [] p u m) (λ j u m r. reads_run c s j [] u m r) (λ j p u m r _ _ q. q)
run-kept {s} c (chained_more {command} {at} {rest = rest} h l more) just place t memory reads g full k =
    step_kept (body_meant just (body_at s command at)) _ k
    (perform-event t g memory full reads k c (body_meant just (body_at s command at)) _ _ (meant-filled just _ _ _ (block-filled h _)))
    (perform-keeps t g c memory (body_meant just (body_at s command at)) _ _) rest place
    (λ j p u m. run c s j rest p u m) (λ j u m r. reads_run c s j rest u m r) (λ j p u m r good long q. run-kept c more j p u m r good long q)

module _ (connection : ℕ) (s : List ℕ) (t : Tables) (memory : List ℕ) (reads : Reads) (g : Good t) (full : length memory ≡ 65536) (k : Kept t memory reads) where
  pub chain-kept : (o : Option (List Block)) → blocks s ≡ o
      → Kept (run_chain (caller_of connection s) s o t memory).tables (run_chain (caller_of connection s) s o t memory).memory (reads_chain (caller_of connection s) s o t memory reads)
  unfolding run_chain reads_chain only_status blocks
  chain-kept None e = k
  chain-kept (Some bs) e = run-kept (caller_of connection s) (read-chained s (header_command s) FIRST bs e) NOBODY FIRST t memory reads g full k

  pub both-chosen : (b : Bool) → (b ≡ served (header_command s))
      → Kept (cond b (run_chain (caller_of connection s) s (blocks s) t memory) (only_status (forms_of NotServed) t memory)).tables
      (cond b (run_chain (caller_of connection s) s (blocks s) t memory) (only_status (forms_of NotServed) t memory)).memory
      (cond b (reads_chain (caller_of connection s) s (blocks s) t memory reads) reads)
  unfolding only_status
  both-chosen true e = chain-kept (blocks s) refl
  both-chosen false e = k

  pub answered-kept : Kept (answered connection s t memory).tables (answered connection s t memory).memory
      (cond (served (header_command s)) (reads_chain (caller_of connection s) s (blocks s) t memory reads) reads)
  unfolding answered
  answered-kept = both-chosen (served (header_command s)) refl

  -- what the call gives, and the READs that it tells of
  pub message-kept : (room : List ℕ) → Kept (take-message connection s t memory room).tables (take-message connection s t memory room).memory (reads_message connection s room t memory reads)
  unfolding take-message reads_message not_taken replied
  message-kept room =
      cond-case Tells (ltb (length room) 12292 || not (eqb (length memory) 65536)) (not_taken 2 t memory room) _ (λ _. k)
      (λ _. cond-case Tells (not (sound t)) (not_taken 4 t memory room) _ (λ _. k)
      (λ _. cond-case Tells (dropped s) (not_taken 1 t memory room) (replied s room (answered connection s t memory)) (λ _. k) (λ _. answered-kept)))
    where
      Tells : Taken → Type 0
      Tells r =
          Kept r.tables r.memory
          (cond (eqb r.number 0) (cond (served (header_command s)) (reads_chain (caller_of connection s) s (blocks s) t memory reads) reads) reads)

module _ (t : Tables) (memory : List ℕ) (reads : Reads) (g : Good t) (full : length memory ≡ 65536) (k : Kept t memory reads) where
  pub open_kept : (uid tid process file access : ℕ)
      → Kept (add_open t uid tid process file access).tables memory
      (cond (eqb (add_open t uid tid process file access).number 0) (after_event (was-opened (add_open t uid tid process file access).id) t memory reads) reads)
  open_kept uid tid process file access =
      elim (ℕ_discrete (add_open t uid tid process file access).number 0) [
        | yes e ↦
            let w = add_open-frame t uid tid process file access e in
            let unused : contains w.new.fid (map fid_of (opens_of t)) ≡ false = rw w.its-fid w.given_out.unused in
            rw (eq-eqb (add_open t uid tid process file access).number 0 e, ← w.its-fid)
            (opened-kept w.new w.files w.opens w.not-read
            (λ o m q. not-decided-twice (contains w.new.fid (map fid_of (opens_of t))) (one-named fid_of w.new.fid m q) unused) k)
        | no n ↦ rw (ne_eqb (add_open t uid tid process file access).number 0 n, (add_open-refused t uid tid process file access n).same_tables) k
      ]

  pub load_kept : (file : ℕ) (bytes : List ℕ)
      → Kept (load_file t file bytes memory).tables (load_memory t file bytes memory) (cond (eqb (load_file t file bytes memory).number 0) (after_event (was-changed file) t memory reads) reads)
  load_kept file bytes =
      elim (ℕ_discrete (load_file t file bytes memory).number 0) [
        | yes e ↦
            let w = load_file-frame t g.shaped file bytes memory e in
            let opens : opens_of (load_file t file bytes memory).tables ≡ opens_of t = rw (w.opens.0, w.opens.1) in
            rw (eq-eqb (load_file t file bytes memory).number 0 e)
            (changed-kept t (load_file t file bytes memory).tables memory (load_memory t file bytes memory) file g opens w.its-changes w.other-files
            (others-contents t (load_file t file bytes memory).tables memory (load_memory t file bytes memory) file g full w.file-bytes.same_length w.other-files
            (λ x i n h. elim (beside x file i n h) [ inl l ↦ w.file-bytes.in-front (x * 4096 + i) l | inr l ↦ w.file-bytes.behind (x * 4096 + i) l ])) k)
        | no n ↦
            rw (ne_eqb (load_file t file bytes memory).number 0 n, (load_file-refused t file bytes memory n).same_tables, load_memory-refused t file bytes memory n) k
      ]

  pub call_kept : (a : Asked) → Kept (told a t memory).tables (memory_left a t memory) (reads_call a t memory reads)
  unfolding told host_told message_told memory_left reads_call Still host_done with_sessions with_trees with_catalogue
  call_kept (ask-session connection) = add_session-either t (Still t memory reads g full k) (refused-still t memory reads g full k) connection (λ _ _. fewer-kept refl (λ o m. m) k)
  call_kept (ask-tree uid right) = add_tree-either t (Still t memory reads g full k) (refused-still t memory reads g full k) uid right (λ _ _ _ _. fewer-kept refl (λ o m. m) k)
  call_kept (ask-open uid tid process file access) = open_kept uid tid process file access
  call_kept (ask-load file bytes) = load_kept file bytes
  call_kept (ask-drop connection) = drop_connection-either t (Still t memory reads g full k) (refused-still t memory reads g full k) connection (λ _. fewer-kept (files-stand _ t) (removed-was t g memory full reads k _) k)
  call_kept (ask-end one) = end_one-either t (Still t memory reads g full k) (refused-still t memory reads g full k) one (λ _ _. fewer-kept (files-stand _ t) (removed-was t g memory full reads k _) k)
  call_kept (ask-catalogue names count room) = set_catalogue-either t (Still t memory reads g full k) (refused-still t memory reads g full k) names count (λ _ _. fewer-kept refl (λ o m. m) k)
  call_kept (ask-unchanged fid) = rw (ask-stands t fid) k
  call_kept (ask-message connection s room) = message-kept connection s t memory reads g full k room

pub history-kept : (calls : List Asked) (t : Tables) (memory : List ℕ) (reads : Reads) → Good t → length memory ≡ 65536 → Kept t memory reads
    → Kept (left_by calls t memory).0 (left_by calls t memory).1 (reads_after calls t memory reads)
unfolding left_by reads_after
history-kept [] t memory reads g full k = k
history-kept (a ∷ more) t memory reads g full k =
    let call = asked-call a t memory in
    history-kept more (told a t memory).tables (memory_left a t memory) (reads_call a t memory reads) (call-good call g) (call-memory call g ∙ full) (call_kept t memory reads g full k a)

pub history-good : (calls : List Asked) (t : Tables) (memory : List ℕ) → Good t → Good (left_by calls t memory).0
unfolding left_by
history-good [] t memory g = g
history-good (a ∷ more) t memory g = history-good more (told a t memory).tables (memory_left a t memory) (call-good (asked-call a t memory) g)

module _ (t : Tables) (memory : List ℕ) (reads : Reads) (g : Good t) (k : Kept t memory reads) (o : Open) (listed : In o (opens_of t)) where
  pub up-to-date-was : UpToDate t o → AsItWas t memory reads o
  up-to-date-was u = let w = k.each o listed u.has-read in (by-changed t memory reads g k o listed) w.0 w.1 w.2 u

  pub out-of-date-why : (UpToDate t o → ⊥) → ReadAgain t reads o
  out-of-date-why n = test-cases o.read (λ read. let w = k.each o listed read in (with-read t memory reads g k o listed) read w.0 w.1 w.2 n) (λ not-read. never-read (k.unread o listed not-read))

-- Of specs/Shown.antt: what rests on its other theorems. Assumes nothing.
use Rattle.std.specs.Prelude.{◌≡◌, Bool, true, false, not, ◌||◌, List, [], drop, get_or, leb, ltb, eqb, Option, None, Some, Ok, Err}
use Rattle.std.proofs.Math.Path.{refl, ap}
use Rattle.std.proofs.Common.{sym, ◌∙◌, inl, inr, ltb-true, ltb-false, eq-eqb}
use Prim.Native.Nat.{ℕ, max, ◌+◌, ◌-◌, ◌*◌, ◌≤◌, ◌<◌}
use native.Mathlib.Omega.{arith}
use Rattle.std.proofs.Math.Decide.{ℕ_discrete}
use Rattle.std.proofs.Math.ListN.{length}
use Rattle.lists.specs.Truth.{decided}
use Rattle.lists.specs.Walk.{any, found}
use Rattle.records.specs.declared.Open.{Open}
use Rattle.records.specs.declared.File.{File}
use Rattle.records.specs.declared.Tables.{Tables}
use Rattle.records.specs.Empty.{no_open, no_name}
use Rattle.records.specs.Held.{trees_of, opens_of, names_of, with_opens}
use Rattle.locks.specs.declared.types.Ask.{Ask}
use Rattle.locks.specs.declared.types.Locking.{Locking}
use Rattle.locks.specs.Outcome.{Outcome}
use Rattle.locks.specs.declared.types.LockRefusal.TheVariants.{Malformed as BadRanges, NoSuchLock as NoLock, PassesEnd as PastEnd, Conflict as InWay, NoRecord as NoRoom}
use Rattle.catalogue.specs.Name.{is_named}
use Rattle.soundness.specs.Lookup.{is_tree}
use Rattle.soundness.specs.Sound.{sound, holds_open}
use Rattle.removal.specs.Removal.{remove}
use Rattle.removal.specs.declared.Gone.{Gone}
use Rattle.claims.specs.RemovalPlain.{files-stand}
use Rattle.invariants.specs.SoundParts.{sound-says}
use Rattle.invariants.specs.Sound.{Good, perform-keeps, size-most, open-file}
use Rattle.invariants.specs.BlockParse.{body_at, block_at}
use Rattle.invariants.specs.Chained.{Chained, chained-end, chained_more, read-chained}
use Rattle.chain.specs.Layout.{header_command, FIRST}
use Rattle.chain.specs.Header.{dropped}
use Rattle.chain.specs.Chain.{blocks}
use Rattle.chain.specs.declared.block.LockingFields.{LockingFields}
use Rattle.chain.specs.declared.block.ReadFields.{ReadFields}
use Rattle.chain.specs.declared.block.WriteFields.{WriteFields}
use Rattle.chain.specs.declared.block.RangeFields.{RangeFields}
use Rattle.chain.specs.declared.block.OpenFields.{OpenFields}
use Rattle.chain.specs.declared.block.Body.{Body}
use Rattle.chain.specs.declared.block.Body.TheVariants.{Locking as LockingBody, Read as ReadBody, Write as WriteBody, Close, Logoff, TreeDisconnect, ProcessExit, CoreRead as CoreReadBody, CoreWrite as CoreWriteBody, LockByteRange, UnlockByteRange, Open as OpenBody}
use Rattle.chain.specs.declared.block.Block.{Block}
use Rattle.message.specs.Caller.{caller_of}
use Rattle.message.specs.declared.caller.Caller.{Caller}
use Rattle.message.specs.Refusal.{forms_of}
use Rattle.message.specs.declared.refusal.Refusal.TheVariants.{NotServed, NotSentence, NoTree, NoAccess, LockType, NoSpace, OpenMode, BadAccess, BadShare, NoFids}
use Rattle.message.specs.Contents.{size_of, read_bytes, grown, written, resized, sized_to}
use Rattle.message.specs.Command.{Said, Given, refused, done, with_tree, is_open, with_open, served_type, with_lock_list, locking_end, locking_after, do_locking, barring, do_read, writing, ends_past, do_write, do_range, do_set_size, do_core_write, codes_served, open_by, open_file, open_named, do_open, perform}
use Rattle.message.specs.Sharing.{kept_out}
use Rattle.message.specs.JustOpened.{NOBODY, body_meant}
use Rattle.message.specs.Message.{run, served, run_chain, answered, reply_of, not_taken, replied, take-message}
use Rattle.demands.specs.MemorySize.{write-ends}
use Rattle.demands.specs.FileBytes.{Wrote, grown-bytes, Grew, written-nothing, resized-nothing, sized-size, sized-others, resized-size, resized-others}
use Rattle.demands.proofs.FileBytes.{written-bytes}
use Rattle.demands.specs.Shown.{Filled, GivenAlike, RanAlike, Shown, TakenAlike, after-alike, barred-alike, block-filled, both_cond, core-alike, files-shown, meant-filled, only-alike, open-at-alike, session-alike, shown-byte, sizes-shown}
use Rattle.demands.specs.Shown.{both-done}
use Rattle.demands.specs.Shown.{both-refused}

pub bytes-shown : (t : Tables) (memory other : List ℕ) → Good t → length memory ≡ 65536 → length other ≡ 65536
    → ((file i : ℕ) → file ≤ 15 → i < size_of t file → get_or memory (file * 4096 + i) 0 ≡ get_or other (file * 4096 + i) 0) → Shown t memory other
bytes-shown t memory other g = sizes-shown t memory other (λ file _. size-most t file (sound-says t g.sound))

module _ (c : Caller) (t : Tables) where
  pub tree-alike : (next next' : Given) → GivenAlike next next' → GivenAlike (with_tree c t next) (with_tree c t next')
  unfolding with_tree
  tree-alike next next' h =
      (session-alike c t) _ _ (both_cond GivenAlike (any (is_tree c.tid c.uid) (trees_of t)) next (refused NoTree) next' (refused NoTree) (λ _. h) (λ _. both-refused))

  pub open-alike : (fid : ℕ) (next next' : Open → Given)
      → ((k : ℕ) → found (is_open c fid) (opens_of t) ≡ Some k → GivenAlike (next (get_or (opens_of t) k no_open)) (next' (get_or (opens_of t) k no_open)))
      → GivenAlike (with_open c t fid next) (with_open c t fid next')
  unfolding with_open
  open-alike fid next next' h = tree-alike _ _ ((open-at-alike c t) (found (is_open c fid) (opens_of t)) next next' h)

  pub writing-alike : (fid : ℕ) (ask : Open → Ask) (past : Bool) (next next' : Open → Given)
      → ((k : ℕ) → found (is_open c fid) (opens_of t) ≡ Some k → past ≡ false → GivenAlike (next (get_or (opens_of t) k no_open)) (next' (get_or (opens_of t) k no_open)))
      → GivenAlike (writing c t fid ask past next) (writing c t fid ask past next')
  writing-alike fid ask past next next' h =
      open-alike fid _ _
      (λ k e. both_cond GivenAlike (eqb (get_or (opens_of t) k no_open).access 0) (refused NoAccess) _ (refused NoAccess) _ (λ _. both-refused)
      (λ _. (barred-alike c t) (barring t (ask (get_or (opens_of t) k no_open))) _ _
      (both_cond GivenAlike past (refused NoSpace) (next (get_or (opens_of t) k no_open)) (refused NoSpace) (next' (get_or (opens_of t) k no_open)) (λ _. both-refused) (h k e))))

-- a LOCKING looks at no file byte
pub locks-alike : (t : Tables) (memory other : List ℕ) → Shown t memory other → (end : Outcome) (l : Locking) → GivenAlike (locking_end end t memory l) (locking_end end t other l)
unfolding locking_end with_lock_list
locks-alike t memory other s (Ok _) l = both-done (files-shown refl s)
locks-alike t memory other s (Err BadRanges) l = both-refused
locks-alike t memory other s (Err NoLock) l = both-refused
locks-alike t memory other s (Err PastEnd) l = both-refused
locks-alike t memory other s (Err (InWay h)) l = both-refused
locks-alike t memory other s (Err NoRoom) l = both-refused

module _ (t u : Tables) (file : ℕ) {memory other left left' : List ℕ} (g : Good t) (s : Shown t memory other) (others : (i : ℕ) → (i ≡ file → ⊥) → size_of u i ≡ size_of t i)
    (low : file ≤ 15) (most : size_of u file ≤ 4096) where
  pub file-shown : length left ≡ length memory → length left' ≡ length other
      → ((x i : ℕ) → (x ≡ file → ⊥) → i < 4096 → get_or left (x * 4096 + i) 0 ≡ get_or memory (x * 4096 + i) 0)
      → ((x i : ℕ) → (x ≡ file → ⊥) → i < 4096 → get_or left' (x * 4096 + i) 0 ≡ get_or other (x * 4096 + i) 0)
      → ((i : ℕ) → i < size_of u file → get_or left (file * 4096 + i) 0 ≡ get_or left' (file * 4096 + i) 0) → Shown u left left'
  file-shown long long' stand stand' its =
      sizes-shown u left left'
      (λ x _. elim (ℕ_discrete x file) [ yes e ↦ rw e most | no n ↦ rw (others x n) (size-most t x (sound-says t g.sound)) ])
      (long ∙ s.whole) (long' ∙ s.other-whole)
      (λ x i h few. elim (ℕ_discrete x file) [
        | yes e ↦ rw e (its i (rw e at few))
        | no n ↦
            let below : i < size_of t x = rw (others x n) at few in
            let z : size_of t x ≤ 4096 = size-most t x (sound-says t g.sound) in
            stand x i n (omega arith) ∙ shown-byte s x i h below ∙ sym (stand' x i n (omega arith))
      ])

  -- zeros where it grows
  pub grew-shown : (n : ℕ) → size_of u file ≡ n → Grew file (size_of t file) n memory left → Grew file (size_of t file) n other left' → Shown u left left'
  grew-shown n size a b =
      file-shown a.same_length b.same_length a.other-files b.other-files
      (λ i h. elim (decided (ltb i (size_of t file))) [
        | inl e ↦
            let below : i < size_of t file = ltb-true i (size_of t file) e in
            a.in-front (file * 4096 + i) (omega arith) ∙ shown-byte s file i low below ∙ sym (b.in-front (file * 4096 + i) (omega arith))
        | inr e ↦
            let above : size_of t file ≤ i = ltb-false i (size_of t file) e in
            a.the-zeros (file * 4096 + i) (omega arith) (omega arith) ∙ sym (b.the-zeros (file * 4096 + i) (omega arith) (omega arith))
      ])

  -- a write: the bytes written, zeros up to them, and what showed before
  pub wrote-shown : (offset : ℕ) (bytes : List ℕ) → size_of u file ≡ max (size_of t file) (offset + length bytes)
      → Wrote file (size_of t file) offset bytes memory left → Wrote file (size_of t file) offset bytes other left' → Shown u left left'
  wrote-shown offset bytes size a b =
      file-shown a.same_length b.same_length a.other-files b.other-files
      (λ i h. elim (decided (ltb i offset)) [
        | inl e ↦ let front : i < offset = ltb-true i offset e in before i front
        | inr e ↦ let from : offset ≤ i = ltb-false i offset e in
            elim (decided (ltb i (offset + length bytes))) [
              | inl e ↦ let inside : i < offset + length bytes = ltb-true i (offset + length bytes) e in within i from inside
              | inr e ↦
                  let past : offset + length bytes ≤ i = ltb-false i (offset + length bytes) e in
                  let below : i < size_of t file = omega arith in
                  a.behind (file * 4096 + i) (omega arith) ∙ shown-byte s file i low below ∙ sym (b.behind (file * 4096 + i) (omega arith))
            ]
      ])
    where
      before : (i : ℕ) → i < offset → get_or left (file * 4096 + i) 0 ≡ get_or left' (file * 4096 + i) 0
      before i front =
          elim (decided (ltb i (size_of t file))) [
            | inl e ↦
                let below : i < size_of t file = ltb-true i (size_of t file) e in
                a.in-front (file * 4096 + i) (omega arith) (omega arith) ∙ shown-byte s file i low below ∙ sym (b.in-front (file * 4096 + i) (omega arith) (omega arith))
            | inr e ↦
                let above : size_of t file ≤ i = ltb-false i (size_of t file) e in
                a.the-zeros (file * 4096 + i) (omega arith) (omega arith) ∙ sym (b.the-zeros (file * 4096 + i) (omega arith) (omega arith))
          ]

      within : (i : ℕ) → offset ≤ i → i < offset + length bytes → get_or left (file * 4096 + i) 0 ≡ get_or left' (file * 4096 + i) 0
      within i from inside =
          let place : file * 4096 + i ≡ file * 4096 + offset + (i - offset) = omega arith in
          let few : i - offset < length bytes = omega arith in
          rw place (a.the-bytes (i - offset) few ∙ sym (b.the-bytes (i - offset) few))

module _ (c : Caller) (t : Tables) (g : Good t) (memory other : List ℕ) (s : Shown t memory other) where
  pub locking-alike : (f : LockingFields) (area : List ℕ) → GivenAlike (do_locking c t memory f area) (do_locking c t other f area)
  unfolding do_locking locking_after
  locking-alike f area =
      open-alike c t f.fid _ _
      (λ k e. both_cond GivenAlike (served_type f.kind) _ (refused LockType) _ (refused LockType) (λ _. locks-alike t memory other s _ _) (λ _. both-refused))

  pub read_alike : (f : ReadFields) → GivenAlike (do_read c t memory f) (do_read c t other f)
  unfolding do_read read_bytes with_opens
  read_alike f =
      open-alike c t f.fid _ _
      (λ k e. both_cond GivenAlike (eqb (get_or (opens_of t) k no_open).access 1) (refused NoAccess) _ (refused NoAccess) _ (λ _. both-refused)
      (λ _. barred-alike c t _ _ _ (rw (s.same (get_or (opens_of t) k no_open).file (open-file c t f.fid k e (sound-says t g.sound))) (both-done (files-shown refl s)))))

  -- a write whose data is as long as its count, that ends in its file
  pub written-shown : (file offset count : ℕ) (bytes : List ℕ) → length bytes ≡ count → ends_past offset count ≡ false → file ≤ 15
      → Shown (resized t file offset count) (written t memory file offset bytes) (written t other file offset bytes)
  unfolding size_of
  written-shown file offset count bytes n ends low =
      elim (ℕ_discrete count 0) [
        | yes z ↦
            rw (z, written-nothing t memory file offset bytes (n ∙ z), written-nothing t other file offset bytes (n ∙ z), resized-nothing t file offset) s
        | no p ↦
            let some_bytes : 1 ≤ count = omega arith in
            let some-data : 1 ≤ length bytes = omega arith in
            let below : offset + count ≤ 4096 = write-ends offset count ends p in
            let fits : offset + length bytes ≤ 4096 = omega arith in
            let most : size_of t file ≤ 4096 = size-most t file (sound-says t g.sound) in
            let size : size_of (resized t file offset count) file ≡ max (size_of t file) (offset + length bytes) =
            resized-size t file offset count some_bytes g.shaped low ∙ ap (λ (k : ℕ). max (size_of t file) (offset + k)) (sym n) in
            wrote-shown t (resized t file offset count) file g s (λ i n. ap (λ (f : File). f.size) (resized-others t file offset count some_bytes i n)) low (omega arith) offset bytes size
            (written-bytes t memory file offset g.sound s.whole low bytes some-data fits)
            (written-bytes t other file offset g.sound s.other-whole low bytes some-data fits)
      ]

  pub write-alike : (f : WriteFields) (bytes : List ℕ) → length bytes ≡ f.count → GivenAlike (do_write c t memory f bytes) (do_write c t other f bytes)
  unfolding do_write
  write-alike f bytes n =
      writing-alike c t f.fid _ (ends_past f.offset f.count) _ _
      (λ k e past. both-done (written-shown (get_or (opens_of t) k no_open).file f.offset f.count bytes n past (open-file c t f.fid k e (sound-says t g.sound))))

  -- count 0
  pub grown-shown : (file size : ℕ) → size ≤ 4096 → file ≤ 15 → Shown (sized_to t file size) (grown t memory file size) (grown t other file size)
  unfolding size_of
  grown-shown file size h low =
      let now = sized-size t file size g.shaped low in
      grew-shown t (sized_to t file size) file g s (λ i n. ap (λ (f : File). f.size) (sized-others t file size i n)) low (omega arith) size now
      (grown-bytes t memory file size g.sound s.whole low h) (grown-bytes t other file size g.sound s.other-whole low h)

  pub set-size-alike : (f : WriteFields) → GivenAlike (do_set_size c t memory f) (do_set_size c t other f)
  unfolding do_set_size
  set-size-alike f =
      writing-alike c t f.fid _ (ltb 4096 f.offset) _ _
      (λ k e past. both-done (grown-shown (get_or (opens_of t) k no_open).file f.offset (ltb-false 4096 f.offset past) (open-file c t f.fid k e (sound-says t g.sound))))

  pub core-write-alike : (f : WriteFields) (bytes : List ℕ) → length bytes ≡ f.count → GivenAlike (do_core_write c t memory f bytes) (do_core_write c t other f bytes)
  unfolding do_core_write
  core-write-alike f bytes n = both_cond GivenAlike (eqb f.count 0) _ _ _ _ (λ _. set-size-alike f) (λ _. core-alike (write-alike f bytes n))

  pub range-alike : (f : RangeFields) (unlocks locks : ℕ) → GivenAlike (do_range c t memory f unlocks locks) (do_range c t other f unlocks locks)
  unfolding do_range
  range-alike f unlocks locks = core-alike (locking-alike _ _)

  -- an OPEN_ANDX looks at no file byte
  pub named-alike : (f : OpenFields) (k : Option ℕ) → GivenAlike (open_named c t memory f k) (open_named c t other f k)
  unfolding open_named open_file with_opens
  named-alike f (Some k) =
      both_cond GivenAlike (any (holds_open (open_by c t f (get_or (names_of t) k no_name).file)) (trees_of t)) _ (refused NoAccess) _ (refused NoAccess)
      (λ _. both_cond GivenAlike (any (kept_out (get_or (names_of t) k no_name).file f.access f.sharing) (opens_of t)) (refused BadShare) _ (refused BadShare) _ (λ _. both-refused)
      (λ _. both_cond GivenAlike (leb 64 t.nopens) (refused NoFids) _ (refused NoFids) _ (λ _. both-refused) (λ _. both-done (files-shown refl s))))
      (λ _. both-refused)
  named-alike f None = both-refused

  pub opening-alike : (f : OpenFields) (name : List ℕ) → GivenAlike (do_open c t memory f name) (do_open c t other f name)
  unfolding do_open
  opening-alike f name =
      tree-alike c t _ _
      (both_cond GivenAlike (eqb f.mode 1) _ (refused OpenMode) _ (refused OpenMode)
      (λ _. both_cond GivenAlike (codes_served f.access f.sharing) _ (refused BadAccess) _ (refused BadAccess)
      (λ _. named-alike f (found (is_named name) (names_of t))) (λ _. both-refused))
      (λ _. both-refused))

  -- a removal leaves the files
  pub gone-alike : (gone : Gone) (said : Said) → GivenAlike (done (remove gone t) memory said) (done (remove gone t) other said)
  gone-alike gone said = both-done (files-shown (files-stand gone t) s)

  -- whatever the command
  pub perform-alike : (b : Body) (area bytes : List ℕ) → Filled b area bytes → GivenAlike (perform c t memory b area bytes) (perform c t other b area bytes)
  unfolding perform
  perform-alike (LockingBody f) area bytes n = locking-alike f area
  perform-alike (ReadBody f) area bytes n = read_alike f
  perform-alike (WriteBody f) area bytes n = write-alike f bytes (n.write-filled f refl)
  perform-alike (Close fid) area bytes n = open-alike c t fid _ _ (λ k e. gone-alike _ _)
  perform-alike Logoff area bytes n = session-alike c t _ _ (gone-alike _ _)
  perform-alike TreeDisconnect area bytes n = tree-alike c t _ _ (gone-alike _ _)
  perform-alike ProcessExit area bytes n = session-alike c t _ _ (gone-alike _ _)
  perform-alike (CoreReadBody f) area bytes n = core-alike (read_alike f)
  perform-alike (CoreWriteBody f) area bytes n = core-write-alike f (drop 3 area) (n.core-filled f refl)
  perform-alike (LockByteRange f) area bytes n = range-alike f 0 1
  perform-alike (UnlockByteRange f) area bytes n = range-alike f 1 0
  perform-alike (OpenBody f) area bytes n = opening-alike f _

-- "command by command"
pub run-alike : {s : List ℕ} {command at : ℕ} {bs : List Block} (c : Caller) → Chained s command at bs → (just place : ℕ) (t : Tables) (memory other : List ℕ) → Good t → Shown t memory other
    → RanAlike (run c s just bs place t memory) (run c s just bs place t other)
unfolding run block_at
run-alike {s} c (chained-end {command} {at} h l) just place t memory other g shown =
    after-alike (perform-alike c t g memory other shown (body_meant just (body_at s command at)) _ _ (meant-filled just _ _ _ (block-filled h _)))
    (perform-keeps t g c memory (body_meant just (body_at s command at)) _ _) [] place t memory other
    (λ j p u m. run c s j [] p u m) shown (λ j p u m m' _ q. record { same-forms = refl; same-holder = refl; same_tables = refl; same_blocks = refl; shown = q })
run-alike {s} c (chained_more {command} {at} {rest = rest} h l r) just place t memory other g shown =
    after-alike (perform-alike c t g memory other shown (body_meant just (body_at s command at)) _ _ (meant-filled just _ _ _ (block-filled h _)))
    (perform-keeps t g c memory (body_meant just (body_at s command at)) _ _) rest place t memory other
    (λ j p u m. run c s j rest p u m) shown (λ j p u m m' k q. run-alike c r j p u m m' k q)

module _ (connection : ℕ) (s : List ℕ) (t : Tables) (memory other : List ℕ) (g : Good t) (shown : Shown t memory other) where
  pub chain-alike : (o : Option (List Block)) → blocks s ≡ o → RanAlike (run_chain (caller_of connection s) s o t memory) (run_chain (caller_of connection s) s o t other)
  unfolding run_chain blocks
  chain-alike None e = (only-alike connection s t memory other g shown) (forms_of NotSentence)
  chain-alike (Some bs) e = run-alike (caller_of connection s) (read-chained s (header_command s) FIRST bs e) NOBODY FIRST t memory other g shown

  pub answered-alike : RanAlike (answered connection s t memory) (answered connection s t other)
  unfolding answered
  answered-alike =
      both_cond RanAlike (served (header_command s)) _ _ _ _ (λ _. chain-alike (blocks s) refl) (λ _. (only-alike connection s t memory other g shown) (forms_of NotServed))

pub take-message-alike : (connection : ℕ) (s : List ℕ) (t : Tables) (memory other room : List ℕ) → Good t → Shown t memory other
    → TakenAlike (take-message connection s t memory room) (take-message connection s t other room)
unfolding take-message not_taken replied reply_of
take-message-alike connection s t memory other room g shown =
    rw (eq-eqb (length memory) 65536 shown.whole, eq-eqb (length other) 65536 shown.other-whole)
    (both_cond TakenAlike (ltb (length room) 12292 || not true) _ _ _ _ (λ _. not_taken_lem 2)
    (λ _. both_cond TakenAlike (not (sound t)) _ _ _ _ (λ _. not_taken_lem 4)
    (λ _. both_cond TakenAlike (dropped s) _ _ _ _ (λ _. not_taken_lem 1)
    (λ _. let r = answered-alike connection s t memory other g shown in
    record {
      same_number = refl;
      same_length = rw (r.same-forms, r.same_blocks);
      same-holder = r.same-holder;
      same_tables = r.same_tables;
      same-room = rw (r.same-forms, r.same_blocks);
      shown = r.shown;
    }))))
  where
    not_taken_lem : (n : ℕ) → TakenAlike (not_taken n t memory room) (not_taken n t other room)
    not_taken_lem n = record { same_number = refl; same_length = refl; same-holder = refl; same_tables = refl; same-room = refl; shown = shown }

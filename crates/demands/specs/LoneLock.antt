-- When a lone lock, a read or a write is refused for a lock (document 01, "Locks, reads and writes"; document 02, CR 3), in plain propositions. Assumes nothing.
use Rattle.std.specs.Prelude.{◌≡◌, ◌↔◌, ℕ, min, max, ◌+◌, ◌-◌, ◌*◌, ◌/◌, ◌%◌, Bool, false, cond, not, ◌&&◌, length, leb, ltb, Option, Some, None, None as Nobody, Some as held_by}
use Rattle.std.proofs.Math.Path.{refl, ap}
use Rattle.std.proofs.Common.{sym, ◌∙◌, arith}
use Rattle.std.proofs.Math.Bool.{true}
use mathlib.Core.List.{List, [], ◌∷◌, ◌++◌, Memᴰ as In}
use Rattle.std.proofs.Math.ListN.{get_or}
use Rattle.std.proofs.Math.Dec.{eqb}
use borrow.Author.Tests.{eqb-true, eq-eqb, not-true}
use Rattle.lists.specs.Walk.{any, found}
use Rattle.lists.specs.Truth.{both_hold, hold-both, fails, not-decided-twice, not-holds}
use Rattle.records.specs.declared.Open.{Open}
use Rattle.records.specs.declared.Lock.{Lock}
use Rattle.records.specs.declared.Tables.{Tables}
use Rattle.records.specs.Empty.{no_open, no_lock}
use Rattle.records.specs.Held.{sessions_of, trees_of, opens_of, locks_of}
use Rattle.locks.specs.Range.{Overlap, overlaps, overlap-iff}
use Rattle.locks.specs.Wire.{range_size, range_at, ranges_at, small_form, small-back}
use Rattle.locks.specs.Answer.{owns, bars, in_way, answers_for, answers}
use Rattle.locks.specs.Request.{of_header, ranges_of, ask_of as ask_for, lock_of, release_all, granted, after_walk, grant_all, after_grants, range_passes, after_releases, request, settle, locking, Result, done as done_with, refused as refused_by}
use Rattle.locks.specs.declared.types.Ask.{Ask}
use Rattle.locks.specs.declared.types.LockRange.{LockRange}
use Rattle.locks.specs.declared.types.Holder.{Holder}
use Rattle.locks.specs.declared.types.LockRefusal.TheVariants.{NoRecord as NoRoom}
use Rattle.locks.specs.declared.types.Purpose.TheVariants.{Grant, Read as Reading, Write as Writing}
use Rattle.soundness.specs.File.{file_of}
use Rattle.soundness.specs.Sound.{sound}
use Rattle.soundness.specs.Lookup.{is_tree}
use Rattle.invariants.specs.SoundParts.{sound-says}
use Rattle.claims.specs.SoundPlain.{file_of-one}
use Rattle.claims.proofs.SoundPlain.{sound-plain}
use Rattle.chain.specs.declared.block.LockingFields.{LockingFields}
use Rattle.chain.specs.declared.block.ReadFields.{ReadFields}
use Rattle.chain.specs.declared.block.WriteFields.{WriteFields}
use Rattle.chain.specs.declared.block.RangeFields.{RangeFields}
use Rattle.message.specs.declared.caller.Caller.{Caller}
use Rattle.message.specs.Contents.{size_of, grown, sized_to}
use Rattle.message.specs.Command.{Given, Said, core_wrote, refused, done, is_session, with_session, with_tree, is_open, open_at, with_open, served_type, request_of, locking_end, locking_after, do_locking, ask_by, unless_barred, barring, do_read, writing, ends_past, do_write, as_core, range_by, one_range, between_sizes, do_set_size}
use Rattle.message.specs.Refusal.{status, forms_of, status_of, holder_of}
use Rattle.message.specs.HeldBy.{HeldBy}
use Rattle.message.specs.declared.refusal.Refusal.{Refusal}
use Rattle.message.specs.declared.refusal.Refusal.TheVariants.{NotServed, NotSentence, NoSession, NoTree, NoOpen, NoAccess, LockType, NoSuchLock, PassesEnd, LockNotGranted, FileLockConflict, NoRecord, NoSpace, OpenMode, BadAccess, NoSuchFile, BadShare, NoFids}
use Rattle.invariants.specs.GivenCases.{cond-case}
use Rattle.invariants.specs.FoundFacts.{found-hit, found-miss}
use Rattle.invariants.specs.Sound.{open-hit, open-fid}

-- the holder that a command's refusal names: of a conflict, and of nothing else
unfoldable pub held_in : Given → HeldBy
unfolding holder_of
held_in (refused why) = holder_of why
held_in (done t memory said) = Nobody

-- the command is refused for conflict: a lock, a read or a write
abbrev pub Conflicts : Given → Type 0
Conflicts g = (h : Holder) × (held_in g ≡ held_by h)

pub nobody-holds : {h : Holder} → Nobody ≡ held_by h → ⊥
nobody-holds e = let z : ◌≡◌ {A = ℕ} 0 1 = cc in omega arith

-- the refusals that name a holder are those of 1/33
pub held-status : (why : Refusal) (h : Holder) → holder_of why ≡ held_by h → status_of why ≡ status 1 33
unfolding holder_of forms_of status
held-status NotServed h e = absurd (nobody-holds e)
held-status NotSentence h e = absurd (nobody-holds e)
held-status NoSession h e = absurd (nobody-holds e)
held-status NoTree h e = absurd (nobody-holds e)
held-status NoOpen h e = absurd (nobody-holds e)
held-status NoAccess h e = absurd (nobody-holds e)
held-status LockType h e = absurd (nobody-holds e)
held-status NoSuchLock h e = absurd (nobody-holds e)
held-status PassesEnd h e = absurd (nobody-holds e)
held-status (LockNotGranted g) h e = refl
held-status (FileLockConflict g) h e = refl
held-status NoRecord h e = absurd (nobody-holds e)
held-status NoSpace h e = absurd (nobody-holds e)
held-status OpenMode h e = absurd (nobody-holds e)
held-status BadAccess h e = absurd (nobody-holds e)
held-status NoSuchFile h e = absurd (nobody-holds e)
held-status BadShare h e = absurd (nobody-holds e)
held-status NoFids h e = absurd (nobody-holds e)

-- a command that names a holder is refused by one of them
pub held-refused : (g : Given) (h : Holder) → held_in g ≡ held_by h → (why : Refusal) × (g ≡ refused why) × (holder_of why ≡ held_by h)
unfolding held_in
held-refused (refused why) h e = (why, refl, e)
held-refused (done t memory said) h e = absurd (nobody-holds e)

-- the caller has a session, a tree and the open that stands k-th
pub record May (c : Caller) (t : Tables) (fid k : ℕ) : Type 0 where
  pub session : any (is_session c) (sessions_of t) ≡ true
  pub tree : any (is_tree c.tid c.uid) (trees_of t) ≡ true
  pub named : found (is_open c fid) (opens_of t) ≡ Some k

-- the lock is of the file that the open names: through an open of the lock's FID
abbrev pub OfFile : Tables → Open → Lock → Type 0
OfFile t o l = (p : Open) × In p (opens_of t) × (p.fid ≡ l.fid) × (p.file ≡ o.file)

-- "An owner is a FID with a process."
abbrev pub Owner : ℕ → ℕ → Lock → Type 0
Owner fid process l = (l.fid ≡ fid) × (l.process ≡ process)

-- a lock of the list, of the open's file, that overlaps the range and clashes with what is asked
pub record InWay (t : Tables) (o : Open) (list : List Lock) (offset size : ℕ) (Clash : Lock → Type 0) : Type 0 where
  pub lock : Lock
  pub listed : In lock list
  pub of-file : OfFile t o lock
  pub overlap : Overlap lock.offset lock.length offset size
  pub clash : Clash lock

-- one that is in the way of a lock asked for: "overlaps it and the two aren't both shared"
abbrev pub BarsLock : Tables → Open → List Lock → Bool → LockRange → Type 0
BarsLock t o list shared r = InWay t o list r.offset r.length (λ l. (l.shared ≡ true) × (shared ≡ true) → ⊥)

-- the bytes between the size of an open's file and an offset (document 02, CR 3: "between the old and the new size"): from the smaller of the two on, as many as up to the larger
abbrev pub lower_size : Tables → ℕ → Open → ℕ
lower_size t offset o = min (size_of t o.file) offset

abbrev pub sizes_apart : Tables → ℕ → Open → ℕ
sizes_apart t offset o = max (size_of t o.file) offset - min (size_of t o.file) offset

-- in the way of a core WRITE of count 0, which "sets the file's size to the offset": of these bytes "any lock .. save the writer's own exclusive ones"
abbrev pub BarsSize : Caller → Tables → WriteFields → Open → Type 0
BarsSize c t f o = InWay t o (locks_of t) (lower_size t f.offset o) (sizes_apart t f.offset o) (λ l. (l.shared ≡ false) × Owner f.fid c.process l → ⊥)

-- the range of a LOCK_BYTE_RANGE or an UNLOCK_BYTE_RANGE: "the process from the header"; offset and length have 32 bits, as many as their fields (of a message of bytes:
-- Processes.antt, `range-whole`)
abbrev pub core_range : Caller → RangeFields → LockRange
core_range c f = record { process = c.process; offset = f.offset % 4294967296; length = f.length % 4294967296 }

-- in the way of a LOCK_BYTE_RANGE: "the lock is exclusive", so that a listed lock of that file that overlaps it is, be it shared or not
abbrev pub AnyLock : Lock → Type 0
AnyLock l = Unit {0}

abbrev pub BarsRange : Caller → Tables → RangeFields → Open → Type 0
BarsRange c t f o = InWay t o (locks_of t) (core_range c f).offset (core_range c f).length AnyLock

-- ---- a walk that finds one

pub some_at : {A : Type 0} (p : A → Bool) (xs : List A) (f : Option ℕ) → found p xs ≡ f → {x : A} → In x xs → p x ≡ true → (k : ℕ) × (f ≡ Some k)
some_at p xs (Some k) e m h = (k, refl)
some_at p xs None e {x} m h = absurd (not-decided-twice (p x) h (found-miss p m e))

-- ---- what a lock in the way is

-- the tests of the three purposes
pub grant-bars : (shared : Bool) (l : Lock) → (not (l.shared && shared) ≡ true) ↔ ((l.shared ≡ true) × (shared ≡ true) → ⊥)
grant-bars shared l = (
  λ e b. let z : not (true && true) ≡ true = rw (b.0, b.1) at e in let n : ◌≡◌ {A = ℕ} 0 1 = cc in omega arith,
  λ n. not-holds (l.shared && shared) (fails (l.shared && shared) (λ e. n (both_hold l.shared shared e))),
)

owns-exact : (q : Ask) (l : Lock) → (owns q l ≡ true) ↔ Owner q.fid q.process l
unfolding owns
owns-exact q l = (
  λ e. let b = both_hold (eqb l.fid q.fid) (eqb l.process q.process) e in (eqb-true l.fid q.fid b.0, eqb-true l.process q.process b.1),
  λ o. hold-both (eqb l.fid q.fid) (eqb l.process q.process) (eq-eqb l.fid q.fid o.0) (eq-eqb l.process q.process o.1),
)

pub read-bars : (q : Ask) (l : Lock) → ((not l.shared && not (owns q l)) ≡ true) ↔ ((l.shared ≡ false) × (Owner q.fid q.process l → ⊥))
read-bars q l = (
  λ e. let b = both_hold (not l.shared) (not (owns q l)) e in
      (not-true l.shared b.0, λ o. not-decided-twice (owns q l) ((owns-exact q l).1 o) (not-true (owns q l) b.1)),
  λ h. hold-both (not l.shared) (not (owns q l)) (not-holds l.shared h.0)
      (not-holds (owns q l) (fails (owns q l) (λ e. h.1 ((owns-exact q l).0 e)))),
)

pub write-bars : (q : Ask) (l : Lock) → (not (not l.shared && owns q l) ≡ true) ↔ ((l.shared ≡ false) × Owner q.fid q.process l → ⊥)
write-bars q l = (
  λ e h. not-decided-twice (not l.shared && owns q l)
      (hold-both (not l.shared) (owns q l) (not-holds l.shared h.0) ((owns-exact q l).1 h.1))
      (not-true (not l.shared && owns q l) e),
  λ n. not-holds (not l.shared && owns q l) (fails (not l.shared && owns q l)
      (λ e. let b = both_hold (not l.shared) (owns q l) e in n (not-true l.shared b.0, (owns-exact q l).0 b.1))),
)

module _ (c : Caller) (t : Tables) (fid k : ℕ) (may : May c t fid k) where
  -- the open that is asked through
  abbrev pub asked : Open
  asked = get_or (opens_of t) k no_open

  -- the caller's questions are passed
  with-open : (next : Open → Given) → with_open c t fid next ≡ next asked
  unfolding with_open with_tree with_session open_at
  with-open next = rw (may.session, may.tree, may.named)

  module _ (ok : sound t ≡ true) where
    file-asked : file_of (opens_of t) fid ≡ asked.file
    file-asked =
        ap (file_of (opens_of t)) (sym (open-fid c t fid k may.named))
        ∙ file_of-one 64 (opens_of t) (sound-says t ok).records.fids (open-hit c t fid k may.named).listed

    file-exact : (l : Lock) → In l (locks_of t) → (file_of (opens_of t) l.fid ≡ file_of (opens_of t) fid) ↔ OfFile t asked l
    file-exact l m = (
      λ e. let p = ((sound-plain t).0 ok).lock-open l m in
          (p.0, p.1, p.2, sym (file_of-one 64 (opens_of t) (sound-says t ok).records.fids p.1) ∙ ap (file_of (opens_of t)) p.2 ∙ e ∙ file-asked),
      λ p. ap (file_of (opens_of t)) (sym p.2) ∙ file_of-one 64 (opens_of t) (sound-says t ok).records.fids p.1 ∙ p.3 ∙ sym file-asked,
    )

    -- some listed lock answers the question exactly if one is in the way
    module _ (q : Ask) (of : q.fid ≡ fid) (Clash : Lock → Type 0) (exact : (l : Lock) → (bars q.purpose q l ≡ true) ↔ Clash l)
        (asks : (l : Lock) → answers (file_of (opens_of t)) q l ≡ in_way (file_of (opens_of t)) q l) where
      hit-way : (j : ℕ) → found (answers (file_of (opens_of t)) q) (locks_of t) ≡ Some j → (d : Lock) → InWay t asked (locks_of t) q.offset q.length Clash
      unfolding in_way
      hit-way j e d =
          let h = found-hit (answers (file_of (opens_of t)) q) (locks_of t) j d e in
          let w = both_hold (overlaps (get_or (locks_of t) j d).offset (get_or (locks_of t) j d).length q.offset q.length) _ (sym (asks (get_or (locks_of t) j d)) ∙ h.passes) in
          let v = both_hold (bars q.purpose q (get_or (locks_of t) j d)) _ w.1 in
          record {
            lock = get_or (locks_of t) j d;
            listed = h.listed;
            of-file = (file-exact (get_or (locks_of t) j d) h.listed).0
                (eqb-true (file_of (opens_of t) (get_or (locks_of t) j d).fid) (file_of (opens_of t) q.fid) v.1 ∙ ap (file_of (opens_of t)) of);
            overlap = (overlap-iff (get_or (locks_of t) j d).offset (get_or (locks_of t) j d).length q.offset q.length).0 w.0;
            clash = (exact (get_or (locks_of t) j d)).0 v.0;
          }

      way-hit : InWay t asked (locks_of t) q.offset q.length Clash → (j : ℕ) × (found (answers (file_of (opens_of t)) q) (locks_of t) ≡ Some j)
      unfolding in_way
      way-hit w =
          some_at (answers (file_of (opens_of t)) q) (locks_of t) (found (answers (file_of (opens_of t)) q) (locks_of t)) refl w.listed
          (asks w.lock
          ∙ hold-both (overlaps w.lock.offset w.lock.length q.offset q.length) (bars q.purpose q w.lock && eqb (file_of (opens_of t) w.lock.fid) (file_of (opens_of t) q.fid))
          ((overlap-iff w.lock.offset w.lock.length q.offset q.length).1 w.overlap)
          (hold-both (bars q.purpose q w.lock) (eqb (file_of (opens_of t) w.lock.fid) (file_of (opens_of t) q.fid)) ((exact w.lock).1 w.clash)
          (eq-eqb (file_of (opens_of t) w.lock.fid) (file_of (opens_of t) q.fid) ((file-exact w.lock w.listed).1 w.of-file ∙ ap (file_of (opens_of t)) (sym of)))))

-- ---- reading and writing

unless-exact : (t : Tables) (f : Option ℕ) (next : Given) → (Conflicts next → ⊥) → Conflicts (unless_barred t f next) ↔ ((k : ℕ) × (f ≡ Some k))
unfolding unless_barred held_in
unless-exact t (Some k) next n = (λ h. (k, refl), λ h. (_, refl))
unless-exact t None next n = (λ h. absurd (n h), λ h. let f = h.1 in let z : ◌≡◌ {A = ℕ} 0 1 = cc in absurd (omega arith))

done-not : (u : Tables) (m : List ℕ) (said : Said) → Conflicts (done u m said) → ⊥
unfolding held_in
done-not u m said h = nobody-holds h.1

space-not : Conflicts (refused NoSpace) → ⊥
unfolding held_in
space-not h = nobody-holds h.1

module _ (c : Caller) (t : Tables) (memory : List ℕ) (k : ℕ) (ok : sound t ≡ true) where
  -- "A read is refused 1/33 exactly if an exclusive lock of another owner overlaps offset and max."
  pub read-conflict : (f : ReadFields) (may : May c t f.fid k) → eqb (asked c t f.fid k may).access 1 ≡ false
      → Conflicts (do_read c t memory f)
      ↔ InWay t (asked c t f.fid k may) (locks_of t) f.offset f.max (λ l. (l.shared ≡ false) × (Owner f.fid c.process l → ⊥))
  unfolding do_read barring ask_by answers answers_for bars
  read-conflict f may access =
      rw (with-open c t f.fid k may, access) (
        λ h. let e = (unless-exact _ _ _ (done-not _ _ _)).0 h in
            hit-way c t f.fid k may ok (ask_by c f.fid f.offset f.max Reading) refl _ (read-bars (ask_by c f.fid f.offset f.max Reading)) (λ l. refl) e.0 e.1 no_lock,
        λ w. (unless-exact _ _ _ (done-not _ _ _)).1
            (way-hit c t f.fid k may ok (ask_by c f.fid f.offset f.max Reading) refl _ (read-bars (ask_by c f.fid f.offset f.max Reading)) (λ l. refl) w),
      )

  -- "A write is refused 1/33 exactly if any lock overlaps it save the writer's own exclusive ones": whatever it covers and whatever it comes to
  module _ (fid : ℕ) (from size : Open → ℕ) (past : Bool) (next : Open → Given) (others : (o : Open) → Conflicts (next o) → ⊥) where
    pub writing-conflict : (may : May c t fid k) → eqb (asked c t fid k may).access 0 ≡ false
        → Conflicts (writing c t fid (λ o. ask_by c fid (from o) (size o) Writing) past next)
        ↔ InWay t (asked c t fid k may) (locks_of t) (from (asked c t fid k may)) (size (asked c t fid k may)) (λ l. (l.shared ≡ false) × Owner fid c.process l → ⊥)
    unfolding barring ask_by answers answers_for bars
    writing-conflict may access =
        let o = asked c t fid k may in
        let q = ask_by c fid (from o) (size o) Writing in
        let n : Conflicts (cond past (refused NoSpace) (next o)) → ⊥ = cond-case (λ (g : Given). Conflicts g → ⊥) past (refused NoSpace) (next o) (λ _. space-not) (λ _. others o) in
        rw (with-open c t fid k may, access) (
          λ h. let e = (unless-exact _ _ _ n).0 h in hit-way c t fid k may ok q refl _ (write-bars q) (λ l. refl) e.0 e.1 no_lock,
          λ w. (unless-exact _ _ _ n).1 (way-hit c t fid k may ok q refl _ (write-bars q) (λ l. refl) w),
        )

  pub write-conflict : (f : WriteFields) (bytes : List ℕ) (may : May c t f.fid k) → eqb (asked c t f.fid k may).access 0 ≡ false
      → Conflicts (do_write c t memory f bytes)
      ↔ InWay t (asked c t f.fid k may) (locks_of t) f.offset f.count (λ l. (l.shared ≡ false) × Owner f.fid c.process l → ⊥)
  unfolding do_write
  write-conflict f bytes may access =
      writing-conflict f.fid (λ o. f.offset) (λ o. f.count) (ends_past f.offset f.count) _ (λ o. done-not _ _ _) may access

  -- document 02, CR 3, of a core WRITE of count 0: "for locks it covers the bytes between the old and the new size"
  pub size-conflict : (f : WriteFields) (may : May c t f.fid k) → eqb (asked c t f.fid k may).access 0 ≡ false
      → Conflicts (do_set_size c t memory f) ↔ BarsSize c t f (asked c t f.fid k may)
  unfolding do_set_size between_sizes
  size-conflict f may access =
      writing-conflict f.fid (lower_size t f.offset) (sizes_apart t f.offset) (ltb 4096 f.offset)
      (λ o. done (sized_to t o.file f.offset) (grown t memory o.file f.offset) (core_wrote 0)) (λ o. done-not _ _ _) may access

-- ---- a lone lock

-- what a lone range's walk found decides
lone-exact : (t : Tables) (memory : List ℕ) (f : Option ℕ) (before list : List Lock)
    → Conflicts (locking_after t memory (settle t.locks t.nlocks (after_grants (after_walk f before (granted list))))) ↔ ((k : ℕ) × (f ≡ Some k))
unfolding after_grants after_walk settle locking_after locking_end held_in
lone-exact t memory (Some k) before list = (λ h. (k, refl), λ h. (_, refl))
lone-exact t memory None before list = (
  λ h. absurd (cond-case (λ (r : Result). Conflicts (locking_after t memory (settle t.locks t.nlocks r)) → ⊥) (leb (length list) 128) (done_with list) (refused_by NoRoom)
      (λ _ h. nobody-holds h.1) (λ _ h. nobody-holds h.1) h),
  λ h. let f = h.1 in let z : ◌≡◌ {A = ℕ} 0 1 = cc in absurd (omega arith),
)

-- the range of a request with one range, as its bytes say it (a conflict does not go by its process), and whether it is to be shared: "Type bit 0x01 means shared"
abbrev pub lone_range : LockingFields → List ℕ → LockRange
lone_range f area = range_at (eqb (f.kind / 16 % 2) 1) area 0

abbrev pub shared_in : LockingFields → Bool
shared_in f = eqb (f.kind % 2) 1

module _ (c : Caller) (t : Tables) (memory : List ℕ) (k : ℕ) (ok : sound t ≡ true) (f : LockingFields) (area : List ℕ) (may : May c t f.fid k) where
  -- a request with no unlocks and one range within 2^64 is the walk of that range
  lone_is : f.unlocks ≡ 0 → f.locks ≡ 1 → served_type f.kind ≡ true → length area ≡ 1 * range_size (eqb (f.kind / 16 % 2) 1) → range_passes (lone_range f area) ≡ false
      → do_locking c t memory f area
      ≡ locking_after t memory (settle t.locks t.nlocks (after_grants (after_walk (found (answers (file_of (opens_of t)) (ask_for f.fid (Grant (shared_in f)) (of_header (c.process / 65536) (lone_range f area)))) (locks_of t)) (locks_of t)
      (granted (locks_of t ++ (lock_of f.fid (shared_in f) (of_header (c.process / 65536) (lone_range f area)) ∷ []))))))
  unfolding do_locking request_of locking ranges_of request release_all after_releases grant_all ranges_at any range_passes of_header
  lone_is u l s n low =
      let e : eqb (length area) (1 * range_size (eqb (f.kind / 16 % 2) 1)) ≡ true = eq-eqb (length area) (1 * range_size (eqb (f.kind / 16 % 2) 1)) n in
      rw (with-open c t f.fid k may, s, u, l, e, low)

  -- "Then locks in order, each against the list as it stands, the asker's own locks included": a lone lock is refused 1/33 exactly if a listed lock
  -- of that file overlaps it and the two are not both shared
  pub lock-conflict : f.unlocks ≡ 0 → f.locks ≡ 1 → served_type f.kind ≡ true → length area ≡ 1 * range_size (eqb (f.kind / 16 % 2) 1) → range_passes (lone_range f area) ≡ false
      → Conflicts (do_locking c t memory f area)
      ↔ BarsLock t (asked c t f.fid k may) (locks_of t) (shared_in f) (lone_range f area)
  unfolding ask_for of_header answers answers_for bars
  lock-conflict u l s n low =
      rw (lone_is u l s n low) (
        λ h. let e = (lone-exact t memory _ _ _).0 h in
            hit-way c t f.fid k may ok (ask_for f.fid (Grant (shared_in f)) (of_header (c.process / 65536) (lone_range f area))) refl _ (grant-bars (shared_in f)) (λ m. refl) e.0 e.1 no_lock,
        λ w. (lone-exact t memory _ _ _).1 (way-hit c t f.fid k may ok (ask_for f.fid (Grant (shared_in f)) (of_header (c.process / 65536) (lone_range f area))) refl _ (grant-bars (shared_in f)) (λ m. refl) w),
      )

-- ---- the lock of a core command

-- the core command's reply block is another; its refusal is the counterpart's
pub core-conflict : (g : Given) → Conflicts (as_core g) ↔ Conflicts g
unfolding as_core held_in
core-conflict (refused why) = (λ h. h, λ h. h)
core-conflict (done u m said) = (λ h. absurd (nobody-holds h.1), λ h. absurd (nobody-holds h.1))

-- what is read of the one range of a core command is the range that it has
pub range_back : (c : Caller) (f : RangeFields) → of_header (c.process / 65536) (range_at false (small_form (range_by c f)) 0) ≡ core_range c f
unfolding of_header range_by
range_back c f = rw (small-back (range_by c f)) (ap (λ (n : ℕ). record { process = n; offset = f.offset % 4294967296; length = f.length % 4294967296 }) (let e : 65536 * (c.process / 65536) + c.process % 65536 ≡ c.process = omega arith in e))

pub lone-back : (c : Caller) (f : RangeFields) → lone_range (one_range f 0 1) (small_form (range_by c f))
    ≡ record { process = c.process % 65536; offset = f.offset % 4294967296; length = f.length % 4294967296 }
unfolding one_range range_by
lone-back c f = small-back (range_by c f)

-- an exclusive lock asked for and a listed one are not both shared
pub any-clash : (l : Lock) → (l.shared ≡ true) × (false ≡ true) → ⊥
any-clash l h = not-decided-twice false h.1 refl

pub exclusive-way : {t : Tables} {o : Open} {list : List Lock} {offset size : ℕ}
    → InWay t o list offset size (λ l. (l.shared ≡ true) × (false ≡ true) → ⊥) ↔ InWay t o list offset size AnyLock
exclusive-way = (
  λ w. record { lock = w.lock; listed = w.listed; of-file = w.of-file; overlap = w.overlap; clash = tt },
  λ w. record { lock = w.lock; listed = w.listed; of-file = w.of-file; overlap = w.overlap; clash = any-clash w.lock },
)

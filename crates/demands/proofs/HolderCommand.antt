-- Of specs/HolderCommand.antt: what rests on its other theorems. Assumes nothing.
use Rattle.std.specs.Prelude.{◌≡◌, ◌↔◌, ℕ, ◌+◌, ◌*◌, ◌/◌, ◌%◌, ◌<◌, Bool, length, drop, get_or, ltb, eqb, Option, None, Some, Some as held_by}
use Rattle.std.proofs.Math.Path.{refl, sym, ap}
use Rattle.std.proofs.Common.{◌∙◌}
use Rattle.std.proofs.Math.Logic.{inl, inr}
use Rattle.std.proofs.Math.Logic.Iff
use native.Mathlib.Omega.{arith}
use Rattle.std.proofs.Math.Bool.{true, false, cond}
use mathlib.Core.List.{List}
use borrow.Author.Tests.{eqb-true, eqb-false, eq-eqb, ne_eqb}
use Rattle.lists.specs.Walk.{any}
use Rattle.lists.specs.Truth.{fails, decided, not-decided-twice}
use Rattle.records.specs.declared.Open.{Open}
use Rattle.records.specs.declared.Lock.{Lock}
use Rattle.records.specs.declared.Tables.{Tables}
use Rattle.records.specs.Empty.{no_open}
use Rattle.records.specs.Held.{opens_of, locks_of}
use Rattle.locks.specs.Wire.{range_size, small_form}
use Rattle.locks.specs.Answer.{bars, in_way, answers_for, answers}
use Rattle.locks.specs.Request.{release_all, after_grants, range_passes, after_releases, request, settle, locking, ranges_of}
use Rattle.locks.specs.declared.types.LockRange.{LockRange}
use Rattle.locks.specs.declared.types.Holder.{Holder}
use Rattle.locks.specs.declared.types.Purpose.{Purpose}
use Rattle.locks.specs.declared.types.Purpose.TheVariants.{Read as Reading, Write as Writing}
use Rattle.soundness.specs.File.{file_of}
use Rattle.soundness.specs.Sound.{sound}
use Rattle.claims.proofs.SoundPlain.{sound-plain}
use Rattle.claims.specs.Cases.{status_in}
use Rattle.chain.specs.declared.block.LockingFields.{LockingFields}
use Rattle.chain.specs.declared.block.ReadFields.{ReadFields}
use Rattle.chain.specs.declared.block.WriteFields.{WriteFields}
use Rattle.chain.specs.declared.block.RangeFields.{RangeFields}
use Rattle.chain.specs.declared.block.Body.{Body}
use Rattle.chain.specs.declared.block.Body.TheVariants.{Locking as LockingBody, Read as ReadBody, Write as WriteBody, Close, Logoff, TreeDisconnect, ProcessExit, CoreRead as CoreReadBody, CoreWrite as CoreWriteBody, LockByteRange, UnlockByteRange, Open as OpenBody}
use Rattle.invariants.specs.GivenCases.{cond-case, session-case, tree-case, open-case, opening-case}
use Rattle.message.specs.declared.caller.Caller.{Caller}
use Rattle.message.specs.Refusal.{status, forms_of}
use Rattle.message.specs.declared.refusal.Status.{Status}
use Rattle.message.specs.declared.refusal.Refusal.TheVariants.{NoAccess, NoSpace}
use Rattle.message.specs.Command.{Given, refused, with_open, served_type, request_of, locking_end, locking_after, do_locking, ask_by, unless_barred, barring, do_read, writing, ends_past, do_write, as_core, range_by, one_range, do_range, between_sizes, do_set_size, do_core_write, perform}
use Rattle.demands.specs.LoneLock.{held_in, May, lower_size, sizes_apart, shared_in, read-bars, write-bars}
use Rattle.demands.specs.Admitted.{Admitted, NoOpenFor, with-open}
use Rattle.demands.proofs.Admitted.{admitted-may, open-or, open-given}
use Rattle.demands.specs.LockWords.{never, Released, Releasing, all-released, one-unnamed, past-means, past_is, Opened}
use Rattle.demands.proofs.LockWords.{release-means, released-is, released-was}
use Rattle.demands.specs.WritingReasons.{conflicts-status}
use Rattle.demands.specs.CommandReasons.{Announced, OnlyTwoBits, served-exact, unlocks_in, locks_in}
use Rattle.demands.specs.HolderWords.{TransferHeld, ReadHeld, WritingHeld, WriteHeld, SizeHeld, CoreWriteHeld, write-held, size-held, LockHeld, CommandHeld}
use Rattle.demands.proofs.HolderLone.{range-held}
use Rattle.demands.specs.HolderWalk.{found_first, first-place}
use Rattle.demands.proofs.HolderWalk.{blocked-held, held-blocked}
use Rattle.demands.specs.HolderCommand.{Names, after-unlocks, ask, barred-names, core-names, files, grants-name, open_code, transfer, walked, way-exact}

module _ (c : Caller) (t : Tables) (memory : List ℕ) (ok : sound t ≡ true) where
  -- a caller that may not ask is not refused for conflict
  pub not-asked : {P : Type 0} (fid : ℕ) (next : Open → Given) {n : Status} → NoOpenFor c t fid n → (h : Holder) → Names (with_open c t fid next) h → P
  unfolding status_in forms_of status
  not-asked fid next {n} no_one h e =
      let same : n ≡ status 1 33 = sym (open-given c t fid next no_one) ∙ conflicts-status (with_open c t fid next) (h, e) in
      absurd (open_code no_one (ap (λ (s : Status). s.code) same))

  module _ (fid denied : ℕ) (from size : Open → ℕ) (purpose : Purpose) (h : Holder) where
    module _ {Clash : Lock → Type 0} (clashes : (o : Open) (l : Lock) → (bars ((ask c t memory ok fid denied from size purpose h) o).purpose ((ask c t memory ok fid denied from size purpose h) o) l ≡ true) ↔ Clash l)
        (asks : (o : Open) (l : Lock) → answers (file_of (opens_of t)) ((ask c t memory ok fid denied from size purpose h) o) l ≡ in_way (file_of (opens_of t)) ((ask c t memory ok fid denied from size purpose h) o) l) (next : Open → Given) (others : (o : Open) → Names (next o) h → ⊥) where
      pub transfer-may : (o : Open) → Admitted c t fid o → (b : Bool) → eqb o.access denied ≡ b → Names (cond b (refused NoAccess) (unless_barred t (barring t ((ask c t memory ok fid denied from size purpose h) o)) (next o))) h
          → TransferHeld c t fid denied from size Clash h
      unfolding barring held_in
      transfer-may o a true z e = never cc
      transfer-may o a false z e =
          let v = (barred-names c t memory ok) ((ask c t memory ok fid denied from size purpose h) o) (barring t ((ask c t memory ok fid denied from size purpose h) o)) (next o) h (others o) refl e in
          record {
            through = o;
            admitted = a;
            access = eqb-false o.access denied z;
            first = rw v.2 at (found_first (answers (file_of (opens_of t)) ((ask c t memory ok fid denied from size purpose h) o)) (locks_of t) ((way-exact c t memory ok fid denied from size purpose h clashes asks next others) a) v.0 v.1);
          }

      pub transfer-exact : Names (with_open c t fid (transfer c t memory ok fid denied from size purpose h clashes asks next others)) h ↔ TransferHeld c t fid denied from size Clash h
      unfolding barring unless_barred held_in
      transfer-exact = (
        λ e. elim (open-or c t fid) [
          | inl no_one ↦ not-asked fid (transfer c t memory ok fid denied from size purpose h clashes asks next others) no_one.1 h e
          | inr (k, may, a) ↦
              transfer-may (get_or (opens_of t) k no_open) a (eqb (get_or (opens_of t) k no_open).access denied) refl (sym (ap held_in (with-open c t fid k (transfer c t memory ok fid denied from size purpose h clashes asks next others) may)) ∙ e)
        ],
        λ r. let m = admitted-may c t fid ok r.through r.admitted in
            let p = first-place (answers (file_of (opens_of t)) ((ask c t memory ok fid denied from size purpose h) r.through)) (locks_of t) ((way-exact c t memory ok fid denied from size purpose h clashes asks next others) r.admitted) r.first in
            ap held_in (with-open c t fid m.0 (transfer c t memory ok fid denied from size purpose h clashes asks next others) m.1)
            ∙ rw (m.2, ne_eqb r.through.access denied r.access, p.0) (ap held_by p.1),
      )

  pub read-exact : (f : ReadFields) (h : Holder) → Names (do_read c t memory f) h ↔ ReadHeld c t f h
  unfolding do_read ask_by answers answers_for bars held_in
  read-exact f h =
      transfer-exact f.fid 1 (λ o. f.offset) (λ o. f.max) Reading h (λ o. read-bars (ask_by c f.fid f.offset f.max Reading)) (λ o l. refl) _ (λ o e. never cc)

  -- a write, whatever it covers and comes to
  pub writing-exact : (fid : ℕ) (from size : Open → ℕ) (past : Bool) (next : Open → Given) (h : Holder) → ((o : Open) → Names (next o) h → ⊥)
      → Names (writing c t fid (λ o. ask_by c fid (from o) (size o) Writing) past next) h ↔ WritingHeld c t fid from size h
  unfolding ask_by answers answers_for bars held_in
  writing-exact fid from size past next h others =
      transfer-exact fid 0 from size Writing h (λ o. write-bars (ask_by c fid (from o) (size o) Writing)) (λ o l. refl) (λ o. cond past (refused NoSpace) (next o))
      (λ o. cond-case (λ (g : Given). Names g h → ⊥) past (refused NoSpace) (next o) (λ _ e. never cc) (λ _. others o))

  pub write-exact : (f : WriteFields) (bytes : List ℕ) (h : Holder) → Names (do_write c t memory f bytes) h ↔ WriteHeld c t f h
  unfolding do_write held_in
  write-exact f bytes h = writing-exact f.fid (λ o. f.offset) (λ o. f.count) (ends_past f.offset f.count) _ h (λ o e. never cc)

  -- those left are listed
  pub left-opened : {fid : ℕ} {rs : List LockRange} {left : List Lock} → Released fid rs (locks_of t) left → Opened t left
  unfolding Opened
  left-opened r l m = ((sound-plain t).0 ok).lock-open l (released-was r m)

  module _ (f : LockingFields) (area : List ℕ) (announced : length area ≡ (f.unlocks + f.locks) * range_size (eqb (f.kind / 16 % 2) 1)) (h : Holder) where
    -- a served request through an open is what its unlocks give
    pub locking-is : (k : ℕ) → May c t f.fid k → served_type f.kind ≡ true
        → do_locking c t memory f area ≡ (after-unlocks c t memory ok f area announced h) (release_all (files c t memory ok) f.fid (unlocks_in c f area) (locks_of t))
    unfolding do_locking request_of locking request ranges_of
    locking-is k may e =
        with-open c t f.fid k _ may ∙ rw (e, eq-eqb (length area) ((f.unlocks + f.locks) * range_size (eqb (f.kind / 16 % 2) 1)) announced)

    pub releases-name : {o : Open} → Admitted c t f.fid o → OnlyTwoBits f.kind → (x : Option (List Lock)) → Releasing f.fid (unlocks_in c f area) (locks_of t) x
        → Names ((after-unlocks c t memory ok f area announced h) x) h → LockHeld c t f area h
    unfolding after_releases settle locking_after locking_end held_in
    releases-name a bits None (one-unnamed u) e = never cc
    releases-name {o} a bits (Some left) (all-released r) e =
        elim (decided (any range_passes (locks_in c f area))) [
          | inl b ↦ let z = rw b at e in never cc
          | inr b ↦ record {
            through = o;
            admitted = a;
            served = bits;
            left = left;
            unlocked = r;
            within = λ w. not-decided-twice (any range_passes (locks_in c f area)) (past_is (locks_in c f area) w) b;
            held = blocked-held t ok o f.fid a.opened.listed a.opened.of-fid (c.process / 65536) (shared_in f) (eqb (f.kind / 16 % 2) 1) area f.unlocks f.locks left (left-opened r) h
                ((grants-name c t memory ok f area announced h) ((walked c t memory ok f area announced h) left) (rw b at e));
          }
        ]

    pub locking-may : (k : ℕ) → May c t f.fid k → Admitted c t f.fid (get_or (opens_of t) k no_open) → Names (do_locking c t memory f area) h → LockHeld c t f area h
    unfolding do_locking held_in
    locking-may k may a e =
        elim (decided (served_type f.kind)) [
          | inl b ↦ releases-name a ((served-exact f.kind).0 b) (release_all (files c t memory ok) f.fid (unlocks_in c f area) (locks_of t))
              (release-means (files c t memory ok) f.fid (unlocks_in c f area) (locks_of t)) (sym (ap held_in (locking-is k may b)) ∙ e)
          | inr b ↦ let w = sym (ap held_in (with-open c t f.fid k _ may)) ∙ e in let z = rw b at w in never cc
        ]

    pub locking-exact : Names (do_locking c t memory f area) h ↔ LockHeld c t f area h
    unfolding do_locking after_releases after_grants settle locking_after locking_end held_in
    locking-exact = (
      λ e. elim (open-or c t f.fid) [ inl no_one ↦ not-asked f.fid _ no_one.1 h e | inr (k, may, a) ↦ locking-may k may a e ],
      λ r. let a = r.admitted in
          let m = admitted-may c t f.fid ok r.through a in
          let b = held-blocked t ok r.through f.fid a.opened.listed a.opened.of-fid (c.process / 65536) (shared_in f) (eqb (f.kind / 16 % 2) 1) area f.unlocks f.locks r.left
          (left-opened r.unlocked) h r.held in
          ap held_in (locking-is m.0 m.1 ((served-exact f.kind).1 r.served))
          ∙ rw (released-is (files c t memory ok) f.fid r.unlocked, fails (any range_passes (locks_in c f area)) (λ z. r.within (past-means (locks_in c f area) z)), b),
    )

  pub size_exact : (f : WriteFields) (h : Holder) → Names (do_set_size c t memory f) h ↔ SizeHeld c t f h
  unfolding do_set_size between_sizes held_in
  size_exact f h =
      writing-exact f.fid (lower_size t f.offset) (sizes_apart t f.offset) (ltb 4096 f.offset) _ h (λ o e. never cc)

  pub core-write-exact : (f : WriteFields) (bytes : List ℕ) (h : Holder) → Names (do_core_write c t memory f bytes) h ↔ CoreWriteHeld c t f h
  unfolding do_core_write
  core-write-exact f bytes h =
      let size = size_exact f h in
      let Some = Iff.trans ((core-names c t memory ok) (do_write c t memory f bytes) h) (write-exact f bytes h) in (
        cond-case (λ (g : Given). Names g h → CoreWriteHeld c t f h) (eqb f.count 0) (do_set_size c t memory f) (as_core (do_write c t memory f bytes))
            (λ z e. size-held (eqb-true f.count 0 z) (size.0 e)) (λ z e. write-held (eqb-false f.count 0 z) (Some.0 e)),
        λ r. elim r [ write-held n x ↦ rw (ne_eqb f.count 0 n) (Some.1 x) | size-held z x ↦ rw (eq-eqb f.count 0 z) (size.1 x) ],
      )

  -- LOCK_BYTE_RANGE and UNLOCK_BYTE_RANGE: the LOCKING of one range
  pub one-range : (f : RangeFields) (unlocks locks : ℕ) → unlocks + locks ≡ 1 → (h : Holder)
      → Names (do_range c t memory f unlocks locks) h ↔ LockHeld c t (one_range f unlocks locks) (small_form (range_by c f)) h
  unfolding do_range one_range small_form range_size
  one-range f unlocks locks one h =
      let area = small_form (range_by c f) in
      Iff.trans ((core-names c t memory ok) (do_locking c t memory (one_range f unlocks locks) area) h) (locking-exact (one_range f unlocks locks) area (rw one refl) h)

  -- the commands that ask the list for nothing have no holder
  pub perform-held : (b : Body) (area bytes : List ℕ) → Announced b area → (h : Holder) → Names (perform c t memory b area bytes) h ↔ CommandHeld c t area b h
  unfolding perform Announced CommandHeld one_range held_in
  perform-held (LockingBody f) area bytes k h = locking-exact f area (k f refl) h
  perform-held (ReadBody f) area bytes k h = read-exact f h
  perform-held (WriteBody f) area bytes k h = write-exact f bytes h
  perform-held (Close fid) area bytes k h = (
    open-case (λ (g : Given). Names g h → ⊥) c t fid _ (λ e. never cc) (λ e. never cc) (λ e. never cc) (λ j _ e. never cc),
    λ r. absurd r,
  )
  perform-held Logoff area bytes k h = (session-case (λ (g : Given). Names g h → ⊥) c t _ (λ e. never cc) (λ _ e. never cc), λ r. absurd r)
  perform-held TreeDisconnect area bytes k h = (tree-case (λ (g : Given). Names g h → ⊥) c t _ (λ e. never cc) (λ e. never cc) (λ e. never cc), λ r. absurd r)
  perform-held ProcessExit area bytes k h = (session-case (λ (g : Given). Names g h → ⊥) c t _ (λ e. never cc) (λ _ e. never cc), λ r. absurd r)
  perform-held (CoreReadBody f) area bytes k h = Iff.trans ((core-names c t memory ok) (do_read c t memory f) h) (read-exact f h)
  perform-held (CoreWriteBody f) area bytes k h = core-write-exact f (drop 3 area) h
  perform-held (LockByteRange f) area bytes k h = Iff.trans (one-range f 0 1 refl h) (range-held c t ok f h)
  perform-held (UnlockByteRange f) area bytes k h = Iff.trans (one-range f 1 0 refl h) (λ r. let None : r.held.granted < 0 = r.held.fewer in omega arith, λ r. absurd r)
  perform-held (OpenBody f) area bytes k h = (
    opening-case (λ (g : Given). Names g h → ⊥) c t memory f _ (λ e. never cc) (λ e. never cc) (λ e. never cc) (λ e. never cc) (λ e. never cc) (λ e. never cc) (λ e. never cc)
        (λ e. never cc) (λ j _ e. never cc),
    λ r. absurd r,
  )

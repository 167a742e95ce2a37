-- Of specs/CommandReasons.antt: what rests on its other theorems. Assumes nothing.
use Rattle.std.specs.Prelude.{◌≡◌, ◌↔◌, ℕ, ◌+◌, ◌*◌, ◌/◌, ◌%◌, true, get_or, ltb, eqb, Option, None, Some}
use Rattle.std.proofs.Math.Path.{refl, ap}
use Rattle.std.proofs.Common.{sym, ◌∙◌}
use Rattle.std.proofs.Math.Logic.{inl, inr}
use native.Mathlib.Omega.{arith}
use Rattle.std.proofs.Math.Bool.{false}
use mathlib.Core.List.{List, [], ◌∷◌, ◌++◌}
use Rattle.std.proofs.Math.ListN.{length}
use borrow.Author.Tests.{le-leb, lt-leb, ltb-true, ltb-false, lt-ltb, le-ltb, eqb-true, eqb-false, eq-eqb, ne_eqb}
use Rattle.lists.specs.Walk.{any}
use Rattle.lists.specs.Truth.{fails, decided, not-decided-twice}
use Rattle.records.specs.declared.Open.{Open}
use Rattle.records.specs.declared.Lock.{Lock}
use Rattle.records.specs.declared.Tables.{Tables}
use Rattle.records.specs.Empty.{no_open}
use Rattle.records.specs.Held.{opens_of, locks_of}
use Rattle.locks.specs.Wire.{range_size, ranges_at}
use Rattle.locks.specs.Request.{lock_of, ranges_of, release_all, Grants, grant_all, after_grants, range_passes, after_releases, request, settle, locking}
use Rattle.locks.specs.declared.types.LockRange.{LockRange}
use Rattle.locks.specs.declared.types.Purpose.TheVariants.{Read as Reading}
use Rattle.soundness.specs.Sound.{sound}
use Rattle.claims.proofs.SoundPlain.{sound-plain}
use Rattle.claims.specs.Cases.{status_in}
use Rattle.invariants.specs.GivenCases.{cond-case}
use Rattle.chain.specs.declared.block.LockingFields.{LockingFields}
use Rattle.chain.specs.declared.block.ReadFields.{ReadFields}
use Rattle.chain.specs.declared.block.WriteFields.{WriteFields}
use Rattle.chain.specs.declared.block.RangeFields.{RangeFields}
use Rattle.chain.specs.declared.block.Body.{Body}
use Rattle.chain.specs.declared.block.Body.TheVariants.{Locking as LockingBody, Read as ReadBody, Write as WriteBody, Close, Logoff, TreeDisconnect, ProcessExit, CoreRead as CoreReadBody, CoreWrite as CoreWriteBody, LockByteRange, UnlockByteRange, Open as OpenBody}
use Rattle.message.specs.declared.caller.Caller.{Caller}
use Rattle.message.specs.Refusal.{status, forms_of}
use Rattle.message.specs.declared.refusal.Status.{Status}
use Rattle.message.specs.declared.refusal.Refusal.TheVariants.{NoAccess, LockType}
use Rattle.message.specs.Command.{Given, refused, with_session, with_tree, with_open, served_type, request_of, locking_end, locking_after, do_locking, ask_by, unless_barred, barring, do_read, ends_past, do_write, as_core, one_range, do_range, between_sizes, do_set_size, do_core_write, name_asked, perform}
use Rattle.demands.specs.LoneLock.{May, lower_size, sizes_apart, BarsRange, shared_in, range_back}
use Rattle.demands.specs.Admitted.{Admitted, NoOpenFor, with-open}
use Rattle.demands.proofs.Admitted.{admitted-may, session-or, tree-or, open-or, with-session, with-tree, session-given, tree-given, open-given}
use Rattle.demands.specs.LockWords.{Released, Releasing, all-released, one-unnamed, PastEnd, past-means, past_is, AllGranted, Opened, none-to-release, none-released, none-unnamed, one-released, names-none, none-to-grant, grant-then, none-granted, blocked-here, none-blocked, one_more, one-granted}
use Rattle.demands.proofs.LockWords.{release-means, released-is, unnamed-is, released-was, grant-means, granted-is, blocked-is, one-names-none, one-barred}
use Rattle.demands.proofs.WritingReasons.{writing-reason, writing-given}
use Rattle.demands.proofs.OpenReasons.{opening-reason, opening-given}
use Rattle.demands.specs.CoreReasons.{LockStatus, lock-not, lock-barred, lock-full, lock-done, UnlockStatus, unlock-not, unlock-unnamed, unlock-done}
use Rattle.demands.proofs.CoreReasons.{out_listed, listed-out, out-fits}
use Rattle.demands.specs.CommandReasons.{Announced, BarsRead, CloseStatus, CoreWriteStatus, LockingStatus, OnlyTwoBits, ReadStatus, Reason, SessionStatus, SetSizeStatus, TreeStatus, WriteStatus, after-unlocks, announced, bars-exact, core-status, ends, file-of, grants-reason, its-area, its-range, locks_in, none-past, not-past, read-end, read-ends, read-open, served-is, served-means, unlocks_in, write-fits, write-passes}
use Rattle.demands.specs.CommandReasons.{close-done}
use Rattle.demands.specs.CommandReasons.{close-not}
use Rattle.demands.specs.CommandReasons.{count-0}
use Rattle.demands.specs.CommandReasons.{locking-blocked}
use Rattle.demands.specs.CommandReasons.{locking-done}
use Rattle.demands.specs.CommandReasons.{locking-full}
use Rattle.demands.specs.CommandReasons.{locking-not}
use Rattle.demands.specs.CommandReasons.{locking-past}
use Rattle.demands.specs.CommandReasons.{locking-type}
use Rattle.demands.specs.CommandReasons.{locking-unnamed}
use Rattle.demands.specs.CommandReasons.{read-access}
use Rattle.demands.specs.CommandReasons.{read-barred}
use Rattle.demands.specs.CommandReasons.{read-not}
use Rattle.demands.specs.CommandReasons.{read_done}
use Rattle.demands.specs.CommandReasons.{session-not}
use Rattle.demands.specs.CommandReasons.{session-there}
use Rattle.demands.specs.CommandReasons.{some-count}
use Rattle.demands.specs.CommandReasons.{tree-not}
use Rattle.demands.specs.CommandReasons.{tree-there}

module _ (c : Caller) (t : Tables) (memory : List ℕ) (ok : sound t ≡ true) where
  module _ (f : ReadFields) (k : ℕ) (may : May c t f.fid k) where
    pub read-refused : eqb (read-open c t memory ok f k may).access 1 ≡ true → do_read c t memory f ≡ refused NoAccess
    unfolding do_read
    read-refused e = with-open c t f.fid k _ may ∙ rw e

    pub read_is : eqb (read-open c t memory ok f k may).access 1 ≡ false → do_read c t memory f ≡ unless_barred t (barring t (ask_by c f.fid f.offset f.max Reading)) (read-end c t memory ok f k may)
    unfolding do_read
    read_is e = with-open c t f.fid k _ may ∙ rw e

  pub read-given-open : (f : ReadFields) {n : Status} → NoOpenFor c t f.fid n → status_in (do_read c t memory f) ≡ n
  unfolding do_read
  read-given-open f h = open-given c t f.fid _ h

  -- READ: the status has its reason
  pub read-reason : (f : ReadFields) → ReadStatus c t f (status_in (do_read c t memory f))
  unfolding status_in forms_of
  read-reason f =
      elim (open-or c t f.fid) [
        | inl h ↦ rw (read-given-open f h.1) (read-not h.1)
        | inr (k, may, a) ↦ elim (decided (eqb (get_or (opens_of t) k no_open).access 1)) [
          | inl e ↦ rw (read-refused f k may e) (read-access a (eqb-true (get_or (opens_of t) k no_open).access 1 e))
          | inr e ↦ elim ((read-ends c t memory ok) f k may e (barring t (ask_by c f.fid f.offset f.max Reading)) (read_is f k may e)) [
            | inl w ↦ rw w.1 (read-barred a (eqb-false (get_or (opens_of t) k no_open).access 1 e) w.0)
            | inr w ↦ rw w.1 (read_done a (eqb-false (get_or (opens_of t) k no_open).access 1 e) w.0)
          ]
        ]
      ]

  -- and where the reason holds, the status is given
  pub read-given : (f : ReadFields) {n : Status} → ReadStatus c t f n → status_in (do_read c t memory f) ≡ n
  unfolding status_in forms_of
  read-given f (read-not h) = read-given-open f h
  read-given f (read-access {o} a e) =
      let m = admitted-may c t f.fid ok o a in
      ap status_in (read-refused f m.0 m.1 (eq-eqb (get_or (opens_of t) m.0 no_open).access 1 (ap (λ (p : Open). p.access) m.2 ∙ e)))
  read-given f (read-barred {o} a n b) =
      let m = admitted-may c t f.fid ok o a in
      let e = ne_eqb (get_or (opens_of t) m.0 no_open).access 1 (λ x. n (ap (λ (p : Open). p.access) (sym m.2) ∙ x)) in
      let b' : BarsRead c t f (get_or (opens_of t) m.0 no_open) = rw m.2 b in
      elim ((read-ends c t memory ok) f m.0 m.1 e (barring t (ask_by c f.fid f.offset f.max Reading)) (read_is f m.0 m.1 e)) [
        | inl w ↦ w.1
        | inr w ↦ absurd (w.0 b')
      ]
  read-given f (read_done {o} a n b) =
      let m = admitted-may c t f.fid ok o a in
      let e = ne_eqb (get_or (opens_of t) m.0 no_open).access 1 (λ x. n (ap (λ (p : Open). p.access) (sym m.2) ∙ x)) in
      let b' : BarsRead c t f (get_or (opens_of t) m.0 no_open) → ⊥ = rw m.2 b in
      elim ((read-ends c t memory ok) f m.0 m.1 e (barring t (ask_by c f.fid f.offset f.max Reading)) (read_is f m.0 m.1 e)) [
        | inl w ↦ absurd (b' w.0)
        | inr w ↦ w.1
      ]

  module _ (f : WriteFields) (bytes : List ℕ) where
    pub write-reason : WriteStatus c t f (status_in (do_write c t memory f bytes))
    unfolding do_write status_in
    write-reason = writing-reason c t memory ok f.fid (λ o. f.offset) (λ o. f.count) (ends_past f.offset f.count) _ (λ o. refl) (write-passes c t memory ok f bytes) (write-fits c t memory ok f bytes)

    pub write-given : {n : Status} → WriteStatus c t f n → status_in (do_write c t memory f bytes) ≡ n
    unfolding do_write status_in
    write-given = writing-given c t memory ok f.fid (λ o. f.offset) (λ o. f.count) (ends_past f.offset f.count) _ (λ o. refl) (write-passes c t memory ok f bytes) (write-fits c t memory ok f bytes)

  -- each listed lock has an open, and those left are listed
  pub left-opened : {fid : ℕ} {rs : List LockRange} {left : List Lock} → Released fid rs (locks_of t) left → Opened t left
  unfolding Opened
  left-opened r l m = ((sound-plain t).0 ok).lock-open l (released-was r m)

  module _ (f : LockingFields) (area : List ℕ) (announced : length area ≡ (f.unlocks + f.locks) * range_size (eqb (f.kind / 16 % 2) 1)) where
    pub locking-given-open : {n : Status} → NoOpenFor c t f.fid n → status_in (do_locking c t memory f area) ≡ n
    unfolding do_locking
    locking-given-open h = open-given c t f.fid _ h

    pub locking-refused : (k : ℕ) → May c t f.fid k → served_type f.kind ≡ false → status_in (do_locking c t memory f area) ≡ status 2 65535
    unfolding do_locking status_in forms_of
    locking-refused k may e =
        let g : do_locking c t memory f area ≡ refused LockType = with-open c t f.fid k _ may ∙ rw e in
        ap status_in g

    pub locking-is : (k : ℕ) → May c t f.fid k → served_type f.kind ≡ true
        → status_in (do_locking c t memory f area) ≡ (after-unlocks c t memory ok f area announced) (release_all (file-of c t memory ok f area announced) f.fid (unlocks_in c f area) (locks_of t))
    unfolding do_locking request_of locking ranges_of request
    locking-is k may e =
        ap status_in (with-open c t f.fid k _ may
        ∙ rw (e, eq-eqb (length area) ((f.unlocks + f.locks) * range_size (eqb (f.kind / 16 % 2) 1)) announced))

    module _ {o : Open} (a : Admitted c t f.fid o) (bits : OnlyTwoBits f.kind) where
      pub releases-reason : (x : Option (List Lock)) → Releasing f.fid (unlocks_in c f area) (locks_of t) x → LockingStatus c t f area ((after-unlocks c t memory ok f area announced) x)
      unfolding after_releases settle locking_after locking_end status_in forms_of
      releases-reason None (one-unnamed u) = locking-unnamed a bits u
      releases-reason (Some left) (all-released r) =
          elim (decided (any range_passes (locks_in c f area))) [
            | inl e ↦ rw e (locking-past a bits r (past-means (locks_in c f area) e))
            | inr e ↦ rw e ((grants-reason c t memory ok f area announced a bits) r (λ w. not-decided-twice (any range_passes (locks_in c f area)) (past_is (locks_in c f area) w) e)
                (grant_all (file-of c t memory ok f area announced) f.fid (shared_in f) (locks_in c f area) left)
                (grant-means t ok o f.fid a.opened.listed a.opened.of-fid (shared_in f) (locks_in c f area) left (left-opened r)))
          ]

    -- LOCKING: the status has its reason
    pub locking-reason : LockingStatus c t f area (status_in (do_locking c t memory f area))
    locking-reason =
        elim (open-or c t f.fid) [
          | inl h ↦ rw (locking-given-open h.1) (locking-not h.1)
          | inr (k, may, a) ↦ elim (decided (served_type f.kind)) [
            | inl e ↦ rw (locking-is k may e) (releases-reason a (served-means f.kind e) (release_all (file-of c t memory ok f area announced) f.fid (unlocks_in c f area) (locks_of t))
                (release-means (file-of c t memory ok f area announced) f.fid (unlocks_in c f area) (locks_of t)))
            | inr e ↦ rw (locking-refused k may e) (locking-type a (λ b. not-decided-twice (served_type f.kind) (served-is f.kind b) e))
          ]
        ]

    -- a request of a served type, through an open
    pub locking-asked : {o : Open} → Admitted c t f.fid o → OnlyTwoBits f.kind
        → status_in (do_locking c t memory f area) ≡ (after-unlocks c t memory ok f area announced) (release_all (file-of c t memory ok f area announced) f.fid (unlocks_in c f area) (locks_of t))
    locking-asked {o} a bits = let m = admitted-may c t f.fid ok o a in locking-is m.0 m.1 (served-is f.kind bits)

    -- whose unlocks are done
    pub locking-released : {o : Open} {left : List Lock} → Admitted c t f.fid o → OnlyTwoBits f.kind → Released f.fid (unlocks_in c f area) (locks_of t) left
        → status_in (do_locking c t memory f area) ≡ (after-unlocks c t memory ok f area announced) (Some left)
    locking-released a bits r = locking-asked a bits ∙ ap (after-unlocks c t memory ok f area announced) (released-is (file-of c t memory ok f area announced) f.fid r)

    -- and whose locks lie below 2^64
    pub locking-walked : {o : Open} {left : List Lock} → Admitted c t f.fid o → OnlyTwoBits f.kind → Released f.fid (unlocks_in c f area) (locks_of t) left
        → (PastEnd (locks_in c f area) → ⊥) → status_in (do_locking c t memory f area) ≡ (ends c t memory ok) (after_grants (grant_all (file-of c t memory ok f area announced) f.fid (shared_in f) (locks_in c f area) left))
    unfolding after_releases
    locking-walked a bits r low =
        rw (fails (any range_passes (locks_in c f area)) (λ e. low (past-means (locks_in c f area) e))) at (locking-released a bits r)

    -- and where the reason holds, the status is given
    pub locking-given : {n : Status} → LockingStatus c t f area n → status_in (do_locking c t memory f area) ≡ n
    unfolding after_releases after_grants settle locking_after locking_end status_in forms_of
    locking-given (locking-not h) = locking-given-open h
    locking-given (locking-type {o} a h) =
        let m = admitted-may c t f.fid ok o a in
        locking-refused m.0 m.1 (fails (served_type f.kind) (λ e. h (served-means f.kind e)))
    locking-given (locking-unnamed a bits u) = locking-asked a bits ∙ ap (after-unlocks c t memory ok f area announced) (unnamed-is (file-of c t memory ok f area announced) f.fid u)
    locking-given (locking-past a bits r w) = locking-released a bits r ∙ rw (past_is (locks_in c f area) w)
    locking-given (locking-blocked {o} a bits r low b) =
        let w = blocked-is t ok o f.fid a.opened.listed a.opened.of-fid (shared_in f) (left-opened r) b in
        locking-walked a bits r low ∙ ap (λ (x : Grants). (ends c t memory ok) (after_grants x)) w.1
    locking-given (locking-full {o} {left} {last} a bits r low g h) =
        locking-walked a bits r low
        ∙ ap (λ (x : Grants). (ends c t memory ok) (after_grants x)) (granted-is t ok o f.fid a.opened.listed a.opened.of-fid (shared_in f) (left-opened r) g)
        ∙ rw (lt-leb (length last) 128 h)
    locking-given (locking-done {o} {left} {last} a bits r low g h) =
        locking-walked a bits r low
        ∙ ap (λ (x : Grants). (ends c t memory ok) (after_grants x)) (granted-is t ok o f.fid a.opened.listed a.opened.of-fid (shared_in f) (left-opened r) g)
        ∙ rw (le-leb (length last) 128 h)

  pub close-reason : (fid : ℕ) (next : Open → Given) → ((o : Open) → status_in (next o) ≡ status 0 0) → CloseStatus c t fid (status_in (with_open c t fid next))
  close-reason fid next zero =
      elim (open-or c t fid) [
        | inl h ↦ rw (open-given c t fid next h.1) (close-not h.1)
        | inr (k, may, a) ↦ rw (with-open c t fid k next may, zero (get_or (opens_of t) k no_open)) (close-done a)
      ]

  pub close-given : (fid : ℕ) (next : Open → Given) → ((o : Open) → status_in (next o) ≡ status 0 0) → {n : Status} → CloseStatus c t fid n → status_in (with_open c t fid next) ≡ n
  close-given fid next zero (close-not h) = open-given c t fid next h
  close-given fid next zero (close-done {o} a) =
      let m = admitted-may c t fid ok o a in
      ap status_in (with-open c t fid m.0 next m.1) ∙ zero (get_or (opens_of t) m.0 no_open)

  pub session-reason : (next : Given) → status_in next ≡ status 0 0 → SessionStatus c t (status_in (with_session c t next))
  session-reason next zero =
      elim (session-or c t) [
        | inl h ↦ rw (session-given c t next h.1) (session-not h.1)
        | inr s ↦ rw (with-session c t next s, zero) (session-there s)
      ]

  pub session-is : (next : Given) → status_in next ≡ status 0 0 → {n : Status} → SessionStatus c t n → status_in (with_session c t next) ≡ n
  session-is next zero (session-not h) = session-given c t next h
  session-is next zero (session-there s) = ap status_in (with-session c t next s) ∙ zero

  pub tree-reason : (next : Given) → status_in next ≡ status 0 0 → TreeStatus c t (status_in (with_tree c t next))
  tree-reason next zero =
      elim (tree-or c t) [
        | inl h ↦ rw (tree-given c t next h.1) (tree-not h.1)
        | inr (s, r) ↦ rw (with-tree c t next s r, zero) (tree-there s r)
      ]

  pub tree_is : (next : Given) → status_in next ≡ status 0 0 → {n : Status} → TreeStatus c t n → status_in (with_tree c t next) ≡ n
  tree_is next zero (tree-not h) = tree-given c t next h
  tree_is next zero (tree-there s r) = ap status_in (with-tree c t next s r) ∙ zero

  module _ (f : WriteFields) (bytes : List ℕ) where
    pub set-size-reason : SetSizeStatus c t f (status_in (do_set_size c t memory f))
    unfolding do_set_size between_sizes status_in
    set-size-reason =
        writing-reason c t memory ok f.fid (lower_size t f.offset) (sizes_apart t f.offset) (ltb 4096 f.offset) _ (λ o. refl)
        (ltb-true 4096 f.offset, lt-ltb 4096 f.offset) (ltb-false 4096 f.offset, le-ltb 4096 f.offset)

    pub set-size-given : {n : Status} → SetSizeStatus c t f n → status_in (do_set_size c t memory f) ≡ n
    unfolding do_set_size between_sizes status_in
    set-size-given =
        writing-given c t memory ok f.fid (lower_size t f.offset) (sizes_apart t f.offset) (ltb 4096 f.offset) _ (λ o. refl)
        (ltb-true 4096 f.offset, lt-ltb 4096 f.offset) (ltb-false 4096 f.offset, le-ltb 4096 f.offset)

    pub core-write-reason : CoreWriteStatus c t f (status_in (do_core_write c t memory f bytes))
    unfolding do_core_write
    core-write-reason =
        cond-case (λ (g : Given). CoreWriteStatus c t f (status_in g)) (eqb f.count 0) (do_set_size c t memory f) (as_core (do_write c t memory f bytes))
        (λ e. count-0 (eqb-true f.count 0 e) set-size-reason)
        (λ e. some-count (eqb-false f.count 0 e) (rw ((core-status c t memory ok) (do_write c t memory f bytes)) (write-reason f bytes)))

    pub core-write-given : {n : Status} → CoreWriteStatus c t f n → status_in (do_core_write c t memory f bytes) ≡ n
    unfolding do_core_write
    core-write-given (some-count h r) = rw (ne_eqb f.count 0 h) ((core-status c t memory ok) (do_write c t memory f bytes) ∙ write-given f bytes r)
    core-write-given (count-0 h r) = rw (eq-eqb f.count 0 h) (set-size-given r)

  module _ (f : RangeFields) where
    pub to-lock : {n : Status} → LockingStatus c t (one_range f 0 1) (its-area c t memory ok f) n → LockStatus c t f n
    unfolding one_range ranges_at
    to-lock (locking-not h) = lock-not h
    to-lock (locking-type a h) = absurd (h refl)
    to-lock (locking-unnamed a b u) = absurd (none-unnamed u refl)
    to-lock (locking-past a b r w) = absurd ((not-past c t memory ok f) w)
    to-lock (locking-blocked a b r low w) = lock-barred a ((bars-exact c t memory ok f).0 (rw (none-released r refl) at (one-barred w)))
    to-lock (locking-full {last = last} a b r low g h) =
        let w = rw (none-released r refl) at (one-granted g) in
        let more : length last ≡ length (locks_of t) + 1 = w.2 in
        lock-full a (λ x. w.0 ((bars-exact c t memory ok f).1 x)) (omega arith)
    to-lock (locking-done {last = last} a b r low g h) =
        let w = rw (none-released r refl) at (one-granted g) in
        let more : length last ≡ length (locks_of t) + 1 = w.2 in
        lock-done a (λ x. w.0 ((bars-exact c t memory ok f).1 x)) (omega arith)

    pub one-held : {o : Open} → (BarsRange c t f o → ⊥) → AllGranted t o f.fid false ((its-range c t memory ok f) ∷ []) (locks_of t) (locks_of t ++ (lock_of f.fid false (its-range c t memory ok f) ∷ []))
    one-held free = grant-then (λ w. free ((bars-exact c t memory ok f).0 w)) none-to-grant

    pub from-lock : {n : Status} → LockStatus c t f n → LockingStatus c t (one_range f 0 1) (its-area c t memory ok f) n
    unfolding one_range ranges_at
    from-lock (lock-not h) = locking-not h
    from-lock (lock-barred a w) = locking-blocked a refl none-to-release (not-past c t memory ok f) (blocked-here ((bars-exact c t memory ok f).1 w))
    from-lock (lock-full a free h) =
        let more = one_more (locks_of t) (lock_of f.fid false (its-range c t memory ok f)) in
        locking-full a refl none-to-release (not-past c t memory ok f) (one-held free) (omega arith)
    from-lock (lock-done a free h) =
        let more = one_more (locks_of t) (lock_of f.fid false (its-range c t memory ok f)) in
        locking-done a refl none-to-release (not-past c t memory ok f) (one-held free) (omega arith)

    pub to-unlock : {n : Status} → LockingStatus c t (one_range f 1 0) (its-area c t memory ok f) n → UnlockStatus c t f n
    unfolding one_range ranges_at
    to-unlock (locking-not h) = unlock-not h
    to-unlock (locking-type a h) = absurd (h refl)
    to-unlock (locking-unnamed a b u) = unlock-unnamed a (λ w. one-names-none (rw (range_back c f) at u) w.lock w.listed w.named)
    to-unlock (locking-past a b r w) = absurd ((none-past c t memory ok f) w)
    to-unlock (locking-blocked a b r low w) = absurd (none-blocked w refl)
    to-unlock (locking-full {left = left} {last} a b r low g h) =
        let few = out-fits t ok (one-released r) in
        let same : last ≡ left = none-granted g refl in
        absurd (let z : ⊥ = omega (arith, ap length same) in z)
    to-unlock (locking-done a b r low g h) = unlock-done a (out_listed (one-released (rw (range_back c f) at r)))

    pub from-unlock : {n : Status} → UnlockStatus c t f n → LockingStatus c t (one_range f 1 0) (its-area c t memory ok f) n
    unfolding one_range ranges_at
    from-unlock (unlock-not h) = locking-not h
    from-unlock (unlock-unnamed a h) = locking-unnamed a refl (rw (range_back c f) (names-none (λ l m n. h (record { lock = l; listed = m; named = n }))))
    from-unlock (unlock-done a w) =
        let q = listed-out w in
        let out : Released f.fid ((its-range c t memory ok f) ∷ []) (locks_of t) q.0 = rw (range_back c f) q.1 in
        locking-done a refl out (none-past c t memory ok f) none-to-grant (out-fits t ok (one-released out))

    -- the status has its reason, and where the reason holds, the status is given
    pub lock-reason : LockStatus c t f (status_in (do_range c t memory f 0 1))
    unfolding do_range one_range
    lock-reason = rw ((core-status c t memory ok) (do_locking c t memory (one_range f 0 1) (its-area c t memory ok f))) (to-lock (locking-reason (one_range f 0 1) (its-area c t memory ok f) (announced c t memory ok f)))

    pub lock-given : {n : Status} → LockStatus c t f n → status_in (do_range c t memory f 0 1) ≡ n
    unfolding do_range one_range
    lock-given r = (core-status c t memory ok) (do_locking c t memory (one_range f 0 1) (its-area c t memory ok f)) ∙ locking-given (one_range f 0 1) (its-area c t memory ok f) (announced c t memory ok f) (from-lock r)

    pub unlock-reason : UnlockStatus c t f (status_in (do_range c t memory f 1 0))
    unfolding do_range one_range
    unlock-reason = rw ((core-status c t memory ok) (do_locking c t memory (one_range f 1 0) (its-area c t memory ok f))) (to-unlock (locking-reason (one_range f 1 0) (its-area c t memory ok f) (announced c t memory ok f)))

    pub unlock-given : {n : Status} → UnlockStatus c t f n → status_in (do_range c t memory f 1 0) ≡ n
    unfolding do_range one_range
    unlock-given r = (core-status c t memory ok) (do_locking c t memory (one_range f 1 0) (its-area c t memory ok f)) ∙ locking-given (one_range f 1 0) (its-area c t memory ok f) (announced c t memory ok f) (from-unlock r)

module _ (c : Caller) (t : Tables) (memory : List ℕ) (ok : sound t ≡ true) where
  -- a command's status is given only for its reason
  pub perform-reason : (b : Body) (area bytes : List ℕ) → Announced b area → Reason c t area b (status_in (perform c t memory b area bytes))
  unfolding Reason Announced perform status_in
  perform-reason (LockingBody f) area bytes h = locking-reason c t memory ok f area (h f refl)
  perform-reason (ReadBody f) area bytes h = read-reason c t memory ok f
  perform-reason (WriteBody f) area bytes h = write-reason c t memory ok f bytes
  perform-reason (Close fid) area bytes h = close-reason c t memory ok fid _ (λ o. refl)
  perform-reason Logoff area bytes h = session-reason c t memory ok _ refl
  perform-reason TreeDisconnect area bytes h = tree-reason c t memory ok _ refl
  perform-reason ProcessExit area bytes h = session-reason c t memory ok _ refl
  perform-reason (CoreReadBody f) area bytes h = rw (core-status c t memory ok (do_read c t memory f)) (read-reason c t memory ok f)
  perform-reason (CoreWriteBody f) area bytes h = core-write-reason c t memory ok f _
  perform-reason (LockByteRange f) area bytes h = lock-reason c t memory ok f
  perform-reason (UnlockByteRange f) area bytes h = unlock-reason c t memory ok f
  perform-reason (OpenBody f) area bytes h = opening-reason c t memory ok f (name_asked area)

  -- "Order: as written": and where the reason holds, its status is given
  pub perform-given : (b : Body) (area bytes : List ℕ) → Announced b area → {n : Status} → Reason c t area b n → status_in (perform c t memory b area bytes) ≡ n
  unfolding Reason Announced perform status_in
  perform-given (LockingBody f) area bytes h r = locking-given c t memory ok f area (h f refl) r
  perform-given (ReadBody f) area bytes h r = read-given c t memory ok f r
  perform-given (WriteBody f) area bytes h r = write-given c t memory ok f bytes r
  perform-given (Close fid) area bytes h r = close-given c t memory ok fid _ (λ o. refl) r
  perform-given Logoff area bytes h r = session-is c t memory ok _ refl r
  perform-given TreeDisconnect area bytes h r = tree_is c t memory ok _ refl r
  perform-given ProcessExit area bytes h r = session-is c t memory ok _ refl r
  perform-given (CoreReadBody f) area bytes h r = core-status c t memory ok (do_read c t memory f) ∙ read-given c t memory ok f r
  perform-given (CoreWriteBody f) area bytes h r = core-write-given c t memory ok f _ r
  perform-given (LockByteRange f) area bytes h r = lock-given c t memory ok f r
  perform-given (UnlockByteRange f) area bytes h r = unlock-given c t memory ok f r
  perform-given (OpenBody f) area bytes h r = opening-given c t memory ok f (name_asked area) r

  -- a command has a status exactly for its reason
  pub perform-exact : (b : Body) (area bytes : List ℕ) → Announced b area → (n : Status) → (status_in (perform c t memory b area bytes) ≡ n) ↔ Reason c t area b n
  perform-exact b area bytes h n = (λ e. rw e at (perform-reason b area bytes h), λ r. perform-given b area bytes h r)

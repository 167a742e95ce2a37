-- The number of each host call's answer and the one reason for it, in plain words (document 01, "What a call returns": the
-- table's rows, and "Order: 2, 4, 7, 6, 8, 9, 5, 1; each is given only for its reason"). A reason names the failure of those
-- before it in that order; the number is given just where its reason holds. Assumes nothing.
use Rattle.std.specs.Prelude.{◌≡◌, ◌⊎◌, true, false, not, ◌||◌, ℕ, ◌≤◌, ◌<◌, length, leb, ltb, eqb}
use Rattle.std.proofs.Common.{sym, ap, ◌∙◌, inl, inr, leb-true, leb-false, ltb-true, ltb-false, eqb-true, eq-eqb, ne_eqb, le-leb, lt-ltb, le-ltb, arith}
use mathlib.Core.List.{List, map, Memᴰ as In}
use Rattle.std.proofs.lemmas.Bool.{not-true, not-false, eqb-false, lt-leb}
use Rattle.std.proofs.Math.Decide.{ℕ_discrete}
use Rattle.lists.specs.Walk.{any}
use Rattle.lists.specs.Truth.{decided, fails, holds-second, both_hold, hold-both, either-holds, neither-holds, not-decided-twice}
use Rattle.lists.specs.Members.{any-one, one-any}
use Rattle.records.specs.declared.Session.{Session}
use Rattle.records.specs.declared.Tree.{Tree}
use Rattle.records.specs.declared.Open.{Open}
use Rattle.records.specs.declared.Name.{Name}
use Rattle.records.specs.declared.Tables.{Tables}
use Rattle.records.specs.Held.{sessions_of, trees_of, opens_of}
use Rattle.numbers.specs.Number.{contains}
use Rattle.numbers.specs.Column.{uid_of, tid_of}
use Rattle.soundness.specs.Sound.{sound, holds_open}
use Rattle.host.specs.HostCall.{refused, done, add_session, add_tree, new_open, add_open, is_of, load_number, load_file, drop_connection}
use Rattle.soundness.specs.Lookup.{is_tree}
use Rattle.host.specs.declared.answer.Returned.{Returned}
use Rattle.invariants.specs.Numbered.{named-one, one-named, numbered-same}
use Rattle.invariants.specs.SoundParts.{sound-says}
use Rattle.invariants.specs.RuleLaws.{holds-says}
use Rattle.claims.specs.SoundPlain.{holds-ok, permits-says}
use Rattle.invariants.specs.HostCases.{by-test}
use Rattle.claims.specs.CataloguePlain.{PlainCatalogue, BrokenRule}
use Rattle.claims.specs.HostAnswer.{load_file-number}

-- ---- the reasons

-- a session has the UID
unfoldable pub HasSession : Tables → ℕ → Type 0
HasSession t uid = (s : Session) × In s (sessions_of t) × (s.uid ≡ uid)

-- a tree has the TID and the UID
unfoldable pub HasTree : Tables → ℕ → ℕ → Type 0
HasTree t tid uid = (r : Tree) × In r (trees_of t) × (r.tid ≡ tid) × (r.uid ≡ uid)

-- one that permits the access: right 1, or access 0
unfoldable pub HasPermitting : Tables → ℕ → ℕ → ℕ → Type 0
HasPermitting t tid uid access = (r : Tree) × In r (trees_of t) × (r.tid ≡ tid) × (r.uid ≡ uid) × (r.right ≡ 0 → access ≡ 0)

-- one that has right 0, read
unfoldable pub HasReadOnly : Tables → ℕ → ℕ → Type 0
HasReadOnly t tid uid = (r : Tree) × In r (trees_of t) × (r.tid ≡ tid) × (r.uid ≡ uid) × (r.right ≡ 0)

-- an open is of the file
unfoldable pub HasOpen : Tables → ℕ → Type 0
HasOpen t file = (o : Open) × In o (opens_of t) × (o.file ≡ file)

-- adding a session: "4 tables not sound", "5 table full"
pub data SessionReason (t : Tables) : ℕ → Type 0 where
  session-unsound : sound t ≡ false → SessionReason t 4
  session-full : sound t ≡ true → t.nsessions ≡ 16 → SessionReason t 5
  session-done : sound t ≡ true → t.nsessions < 16 → SessionReason t 0

-- adding a tree: "4", "7 number out of range (.. right above 1 ..)", "6 no such session", "5"
pub data TreeReason (t : Tables) (uid right : ℕ) : ℕ → Type 0 where
  tree-unsound : sound t ≡ false → TreeReason t uid right 4
  tree-range : sound t ≡ true → 1 < right → TreeReason t uid right 7
  tree-nobody : sound t ≡ true → right ≤ 1 → (HasSession t uid → ⊥) → TreeReason t uid right 6
  tree-full : sound t ≡ true → right ≤ 1 → HasSession t uid → t.ntrees ≡ 32 → TreeReason t uid right 5
  tree-done : sound t ≡ true → right ≤ 1 → HasSession t uid → t.ntrees < 32 → TreeReason t uid right 0

-- adding an open: "4", "7 (file above 15, access above 2 ..)", "6 no such tree of that session", "8 open would exceed its tree's right", "5"
pub data OpenReason (t : Tables) (uid tid file access : ℕ) : ℕ → Type 0 where
  open-unsound : sound t ≡ false → OpenReason t uid tid file access 4
  open-range : sound t ≡ true → (15 < file) ⊎ (2 < access) → OpenReason t uid tid file access 7
  open-nowhere : sound t ≡ true → file ≤ 15 → access ≤ 2 → (HasTree t tid uid → ⊥) → OpenReason t uid tid file access 6
  open-exceeds : sound t ≡ true → file ≤ 15 → access ≤ 2 → HasReadOnly t tid uid → (access ≡ 0 → ⊥) → OpenReason t uid tid file access 8
  open_full : sound t ≡ true → file ≤ 15 → access ≤ 2 → HasPermitting t tid uid access → t.nopens ≡ 64 → OpenReason t uid tid file access 5
  open_done : sound t ≡ true → file ≤ 15 → access ≤ 2 → HasPermitting t tid uid access → t.nopens < 64 → OpenReason t uid tid file access 0

-- loading a file: "2 file memory not 65,536", "4", "7 (file above 15 .. load over 4,096 bytes)", "9 load of a file that has an open"
pub data LoadReason (t : Tables) (file size memory : ℕ) : ℕ → Type 0 where
  load-memory : (memory ≡ 65536 → ⊥) → LoadReason t file size memory 2
  load-unsound : memory ≡ 65536 → sound t ≡ false → LoadReason t file size memory 4
  load-range : memory ≡ 65536 → sound t ≡ true → (15 < file) ⊎ (4096 < size) → LoadReason t file size memory 7
  load-opened : memory ≡ 65536 → sound t ≡ true → file ≤ 15 → size ≤ 4096 → HasOpen t file → LoadReason t file size memory 9
  load-done : memory ≡ 65536 → sound t ≡ true → file ≤ 15 → size ≤ 4096 → (HasOpen t file → ⊥) → LoadReason t file size memory 0

-- dropping a connection: "4"
pub data DropReason (t : Tables) : ℕ → Type 0 where
  drop-unsound : sound t ≡ false → DropReason t 4
  drop-done : sound t ≡ true → DropReason t 0

-- setting the catalogue (document 02, CR 6): "4", and "for the catalogue 7: over 16 names, a name of another length, with a zero byte or doubled, a
-- file above 15"
pub data SetReason (t : Tables) (names : List Name) (count : ℕ) : ℕ → Type 0 where
  set-unsound : sound t ≡ false → SetReason t names count 4
  set-broken : sound t ≡ true → BrokenRule names count → SetReason t names count 7
  set-done : sound t ≡ true → PlainCatalogue names count → SetReason t names count 0

-- ---- the tests behind them

has-session : (t : Tables) (uid : ℕ) → contains uid (map uid_of (sessions_of t)) ≡ true → HasSession t uid
unfolding HasSession
has-session t uid e = named-one uid_of uid (sessions_of t) e

no-session : (t : Tables) (uid : ℕ) → contains uid (map uid_of (sessions_of t)) ≡ false → HasSession t uid → ⊥
unfolding HasSession
no-session t uid e s = not-decided-twice (contains uid (map uid_of (sessions_of t))) (one-named uid_of uid s.1 s.2) e

pub has-tree : (t : Tables) (tid uid : ℕ) → any (is_tree tid uid) (trees_of t) ≡ true → HasTree t tid uid
unfolding HasTree is_tree
has-tree t tid uid e =
    let r = any-one (is_tree tid uid) (trees_of t) e in
    let b = both_hold (eqb r.0.tid tid) (eqb r.0.uid uid) r.2 in
    (r.0, r.1, eqb-true r.0.tid tid b.0, eqb-true r.0.uid uid b.1)

pub no-tree : (t : Tables) (tid uid : ℕ) → any (is_tree tid uid) (trees_of t) ≡ false → HasTree t tid uid → ⊥
unfolding HasTree is_tree
no-tree t tid uid e r =
    not-decided-twice (any (is_tree tid uid) (trees_of t))
    (one-any (is_tree tid uid) r.1
    (hold-both (eqb r.0.tid tid) (eqb r.0.uid uid) (eq-eqb r.0.tid tid r.2) (eq-eqb r.0.uid uid r.3)))
    e

module _ (t : Tables) (uid tid process file access : ℕ) where
  has-permitting : any (holds_open (new_open t uid tid process file access)) (trees_of t) ≡ true → HasPermitting t tid uid access
  unfolding HasPermitting new_open
  has-permitting e =
      let r = any-one (holds_open (new_open t uid tid process file access)) (trees_of t) e in
      let h = holds-says (new_open t uid tid process file access) r.0 r.2 in
      (r.0, r.1, h.tid, h.uid, permits-says r.0.right access h.permitted)

  no-permitting : any (holds_open (new_open t uid tid process file access)) (trees_of t) ≡ false → HasPermitting t tid uid access → ⊥
  unfolding HasPermitting new_open
  no-permitting e r =
      not-decided-twice (any (holds_open (new_open t uid tid process file access)) (trees_of t))
      (one-any (holds_open (new_open t uid tid process file access)) r.1
      (holds-ok (new_open t uid tid process file access) r.0 r.2 r.3 r.4))
      e

-- a tree that does not permit the access has right 0, and the access is not 0
tree-exceeded : (t : Tables) (tid uid access : ℕ) → HasTree t tid uid → (HasPermitting t tid uid access → ⊥) → HasReadOnly t tid uid × (access ≡ 0 → ⊥)
unfolding HasTree HasPermitting HasReadOnly
tree-exceeded t tid uid access r no' =
    elim (ℕ_discrete r.0.right 0) [
      | yes z ↦ ((r.0, r.1, r.2, r.3, z), λ a. no' (r.0, r.1, r.2, r.3, λ e. a))
      | no z ↦ absurd (no' (r.0, r.1, r.2, r.3, λ e. absurd (z e)))
    ]

has-open : (t : Tables) (file : ℕ) → any (is_of file) (opens_of t) ≡ true → HasOpen t file
unfolding HasOpen is_of
has-open t file e =
    let o = any-one (is_of file) (opens_of t) e in
    (o.0, o.1, eqb-true o.0.file file o.2)

no-open : (t : Tables) (file : ℕ) → any (is_of file) (opens_of t) ≡ false → HasOpen t file → ⊥
unfolding HasOpen is_of
no-open t file e o = not-decided-twice (any (is_of file) (opens_of t)) (one-any (is_of file) o.1 (eq-eqb o.0.file file o.2)) e

above : (a b x y : ℕ) → (ltb a x || ltb b y) ≡ true → (a < x) ⊎ (b < y)
above a b x y e =
    elim (either-holds (ltb a x) (ltb b y) e) [ inl h ↦ inl (ltb-true a x h) | inr h ↦ inr (ltb-true b y h) ]

-- ---- "each is given only for its reason"

-- "each is given only for its reason": adding a session
pub add_session-reason : (t : Tables) (connection : ℕ) → SessionReason t (add_session t connection).number
unfolding add_session refused done
add_session-reason t c =
    by-test (λ a. SessionReason t a.number) (not (sound t)) (refused 4 t) _ (λ u. session-unsound (not-true (sound t) u)) λ u.
    let e : sound t ≡ true = not-false (sound t) u in
    let room = (sound-says t e).room in
    by-test (λ a. SessionReason t a.number) (leb 16 t.nsessions) (refused 5 t) _
    (λ v. let full : 16 ≤ t.nsessions = leb-true 16 t.nsessions v in session-full e (omega arith)) λ v.
    session-done e (leb-false 16 t.nsessions v)

-- "each is given only for its reason": adding a tree
pub add_tree-reason : (t : Tables) (uid right : ℕ) → TreeReason t uid right (add_tree t uid right).number
unfolding add_tree refused done
add_tree-reason t uid right =
    by-test (λ a. TreeReason t uid right a.number) (not (sound t)) (refused 4 t) _ (λ u. tree-unsound (not-true (sound t) u)) λ u.
    let e : sound t ≡ true = not-false (sound t) u in
    let room = (sound-says t e).room in
    by-test (λ a. TreeReason t uid right a.number) (ltb 1 right) (refused 7 t) _ (λ v. tree-range e (ltb-true 1 right v)) λ v.
    let low : right ≤ 1 = ltb-false 1 right v in
    by-test (λ a. TreeReason t uid right a.number) (not (contains uid (map uid_of (sessions_of t)))) (refused 6 t) _
    (λ w. tree-nobody e low (no-session t uid (not-true (contains uid (map uid_of (sessions_of t))) w))) λ w.
    let has = has-session t uid (not-false (contains uid (map uid_of (sessions_of t))) w) in
    by-test (λ a. TreeReason t uid right a.number) (leb 32 t.ntrees) (refused 5 t) _
    (λ x. let full : 32 ≤ t.ntrees = leb-true 32 t.ntrees x in tree-full e low has (omega arith)) λ x.
    tree-done e low has (leb-false 32 t.ntrees x)

-- "each is given only for its reason": adding an open
pub add_open-reason : (t : Tables) (uid tid process file access : ℕ)
    → OpenReason t uid tid file access (add_open t uid tid process file access).number
unfolding add_open refused done
add_open-reason t uid tid process file access =
    by-test Given (not (sound t)) (refused 4 t) _ (λ u. open-unsound (not-true (sound t) u)) λ u.
    let e : sound t ≡ true = not-false (sound t) u in
    let room = (sound-says t e).room in
    by-test Given (ltb 15 file || ltb 2 access) (refused 7 t) _ (λ v. open-range e (above 15 2 file access v)) λ v.
    let low = neither-holds (ltb 15 file) (ltb 2 access) v in
    let a : file ≤ 15 = ltb-false 15 file low.0 in
    let b : access ≤ 2 = ltb-false 2 access low.1 in
    by-test Given (not (any (is_tree tid uid) (trees_of t))) (refused 6 t) _
    (λ w. open-nowhere e a b (no-tree t tid uid (not-true (any (is_tree tid uid) (trees_of t)) w))) λ w.
    let has = has-tree t tid uid (not-false (any (is_tree tid uid) (trees_of t)) w) in
    by-test Given (not (any (holds_open (new_open t uid tid process file access)) (trees_of t))) (refused 8 t) _
    (λ x.
    let over = tree-exceeded t tid uid access has
    (no-permitting t uid tid process file access (not-true (any (holds_open (new_open t uid tid process file access)) (trees_of t)) x)) in
    open-exceeds e a b over.0 over.1) λ x.
    let held = has-permitting t uid tid process file access (not-false (any (holds_open (new_open t uid tid process file access)) (trees_of t)) x) in
    by-test Given (leb 64 t.nopens) (refused 5 t) _
    (λ y. let full : 64 ≤ t.nopens = leb-true 64 t.nopens y in open_full e a b held (omega arith)) λ y.
    open_done e a b held (leb-false 64 t.nopens y)
  where
    Given : Returned → Type 0
    Given a = OpenReason t uid tid file access a.number

load-reason : (t : Tables) (file size memory : ℕ) → LoadReason t file size memory (load_number t file size memory)
unfolding load_number
load-reason t file size memory =
    by-test Given (not (eqb memory 65536)) 2 _ (λ u. load-memory (eqb-false memory 65536 (not-true (eqb memory 65536) u))) λ u.
    let whole : memory ≡ 65536 = eqb-true memory 65536 (not-false (eqb memory 65536) u) in
    by-test Given (not (sound t)) 4 _ (λ v. load-unsound whole (not-true (sound t) v)) λ v.
    let e : sound t ≡ true = not-false (sound t) v in
    by-test Given (ltb 15 file || ltb 4096 size) 7 _ (λ w. load-range whole e (above 15 4096 file size w)) λ w.
    let low = neither-holds (ltb 15 file) (ltb 4096 size) w in
    let a : file ≤ 15 = ltb-false 15 file low.0 in
    let b : size ≤ 4096 = ltb-false 4096 size low.1 in
    by-test Given (any (is_of file) (opens_of t)) 9 0 (λ x. load-opened whole e a b (has-open t file x)) (λ x. load-done whole e a b (no-open t file x))
  where
    Given : ℕ → Type 0
    Given n = LoadReason t file size memory n

-- "each is given only for its reason": loading a file
pub load_file-reason : (t : Tables) (file : ℕ) (bytes memory : List ℕ)
    → LoadReason t file (length bytes) (length memory) (load_file t file bytes memory).number
load_file-reason t file bytes memory = rw (load_file-number t file bytes memory) (load-reason t file (length bytes) (length memory))

-- "each is given only for its reason": dropping a connection
pub drop_connection-reason : (t : Tables) (connection : ℕ) → DropReason t (drop_connection t connection).number
unfolding drop_connection refused done
drop_connection-reason t c =
    by-test (λ a. DropReason t a.number) (not (sound t)) (refused 4 t) _ (λ u. drop-unsound (not-true (sound t) u)) (λ u. drop-done (not-false (sound t) u))

-- ---- the other way round: where the reason holds, its number is given

-- "Order: 2, 4, 7, 6, 8, 9, 5, 1": adding a session
pub add_session-given : (t : Tables) (connection : ℕ) {n : ℕ} → SessionReason t n → (add_session t connection).number ≡ n
unfolding add_session refused done
add_session-given t c (session-unsound a) = rw a
add_session-given t c (session-full a b) = let h : 16 ≤ t.nsessions = omega arith in rw (a, le-leb 16 t.nsessions h)
add_session-given t c (session-done a b) = rw (a, lt-leb 16 t.nsessions b)

-- the tests of a session, from the plain words
session-found : (t : Tables) (uid : ℕ) → HasSession t uid → contains uid (map uid_of (sessions_of t)) ≡ true
unfolding HasSession
session-found t uid s = one-named uid_of uid s.1 s.2

session-missing : (t : Tables) (uid : ℕ) → (HasSession t uid → ⊥) → contains uid (map uid_of (sessions_of t)) ≡ false
session-missing t uid h = fails (contains uid (map uid_of (sessions_of t))) (λ e. h (has-session t uid e))

-- "Order: 2, 4, 7, 6, 8, 9, 5, 1": adding a tree
pub add_tree-given : (t : Tables) (uid right : ℕ) {n : ℕ} → TreeReason t uid right n → (add_tree t uid right).number ≡ n
unfolding add_tree refused done
add_tree-given t uid right (tree-unsound a) = rw a
add_tree-given t uid right (tree-range a b) = rw (a, lt-ltb 1 right b)
add_tree-given t uid right (tree-nobody a b c) = rw (a, le-ltb 1 right b, session-missing t uid c)
add_tree-given t uid right (tree-full a b c d) =
    let h : 32 ≤ t.ntrees = omega arith in
    rw (a, le-ltb 1 right b, session-found t uid c, le-leb 32 t.ntrees h)
add_tree-given t uid right (tree-done a b c d) = rw (a, le-ltb 1 right b, session-found t uid c, lt-leb 32 t.ntrees d)

-- the tests of a tree, from the plain words
pub tree-found : (t : Tables) (tid uid : ℕ) → HasTree t tid uid → any (is_tree tid uid) (trees_of t) ≡ true
tree-found t tid uid r =
    elim (decided (any (is_tree tid uid) (trees_of t))) [ inl e ↦ e | inr e ↦ absurd (no-tree t tid uid e r) ]

pub tree-missing : (t : Tables) (tid uid : ℕ) → (HasTree t tid uid → ⊥) → any (is_tree tid uid) (trees_of t) ≡ false
tree-missing t tid uid h = fails (any (is_tree tid uid) (trees_of t)) (λ e. h (has-tree t tid uid e))

read-only-tree : (t : Tables) (tid uid : ℕ) → HasReadOnly t tid uid → HasTree t tid uid
unfolding HasReadOnly HasTree
read-only-tree t tid uid r = (r.0, r.1, r.2, r.3)

permitting-tree : (t : Tables) (tid uid access : ℕ) → HasPermitting t tid uid access → HasTree t tid uid
unfolding HasPermitting HasTree
permitting-tree t tid uid access r = (r.0, r.1, r.2, r.3)

-- TIDs being distinct, a tree of right 0 leaves no other that would permit the access
none-permits : (t : Tables) (tid uid access : ℕ) → sound t ≡ true → HasReadOnly t tid uid → (access ≡ 0 → ⊥) → HasPermitting t tid uid access → ⊥
unfolding HasReadOnly HasPermitting
none-permits t tid uid access e r k q =
    let same : q.0 ≡ r.0 = numbered-same tid_of 32 (trees_of t) (sound-says t e).records.tids q.1 r.1 (q.2 ∙ sym r.2) in
    k (q.4 (ap (λ (x : Tree). x.right) same ∙ r.4))

module _ (t : Tables) (uid tid process file access : ℕ) where
  holder-found : HasPermitting t tid uid access → any (holds_open (new_open t uid tid process file access)) (trees_of t) ≡ true
  holder-found r =
      elim (decided (any (holds_open (new_open t uid tid process file access)) (trees_of t))) [
        | inl e ↦ e
        | inr e ↦ absurd (no-permitting t uid tid process file access e r)
      ]

  holder-missing : (HasPermitting t tid uid access → ⊥) → any (holds_open (new_open t uid tid process file access)) (trees_of t) ≡ false
  holder-missing h =
      fails (any (holds_open (new_open t uid tid process file access)) (trees_of t)) (λ e. h (has-permitting t uid tid process file access e))

-- one of two numbers is above its limit, or neither is
some-above : (a b x y : ℕ) → (a < x) ⊎ (b < y) → (ltb a x || ltb b y) ≡ true
some-above a b x y (inl h) = rw (lt-ltb a x h)
some-above a b x y (inr h) = holds-second (ltb a x) (ltb b y) (lt-ltb b y h)

none_above : (a b x y : ℕ) → x ≤ a → y ≤ b → (ltb a x || ltb b y) ≡ false
none_above a b x y h k = rw (le-ltb a x h, le-ltb b y k)

-- "Order: 2, 4, 7, 6, 8, 9, 5, 1": adding an open
pub add_open-given : (t : Tables) (uid tid process file access : ℕ) {n : ℕ} → OpenReason t uid tid file access n
    → (add_open t uid tid process file access).number ≡ n
unfolding add_open refused done
add_open-given t uid tid process file access (open-unsound a) = rw a
add_open-given t uid tid process file access (open-range a b) = rw (a, some-above 15 2 file access b)
add_open-given t uid tid process file access (open-nowhere a b c d) = rw (a, none_above 15 2 file access b c, tree-missing t tid uid d)
add_open-given t uid tid process file access (open-exceeds a b c d k) =
    rw (
      a,
      none_above 15 2 file access b c,
      tree-found t tid uid (read-only-tree t tid uid d),
      holder-missing t uid tid process file access (none-permits t tid uid access a d k),
    )
add_open-given t uid tid process file access (open_full a b c d k) =
    let h : 64 ≤ t.nopens = omega arith in
    rw (
      a,
      none_above 15 2 file access b c,
      tree-found t tid uid (permitting-tree t tid uid access d),
      holder-found t uid tid process file access d,
      le-leb 64 t.nopens h,
    )
add_open-given t uid tid process file access (open_done a b c d k) =
    rw (
      a,
      none_above 15 2 file access b c,
      tree-found t tid uid (permitting-tree t tid uid access d),
      holder-found t uid tid process file access d,
      lt-leb 64 t.nopens k,
    )

-- the test of an open of the file, from the plain words
open-found : (t : Tables) (file : ℕ) → HasOpen t file → any (is_of file) (opens_of t) ≡ true
open-found t file o = elim (decided (any (is_of file) (opens_of t))) [ inl e ↦ e | inr e ↦ absurd (no-open t file e o) ]

open-missing : (t : Tables) (file : ℕ) → (HasOpen t file → ⊥) → any (is_of file) (opens_of t) ≡ false
open-missing t file h = fails (any (is_of file) (opens_of t)) (λ e. h (has-open t file e))

load_given : (t : Tables) (file size memory : ℕ) {n : ℕ} → LoadReason t file size memory n → load_number t file size memory ≡ n
unfolding load_number
load_given t file size memory (load-memory a) = rw (ne_eqb memory 65536 a)
load_given t file size memory (load-unsound a b) = rw (eq-eqb memory 65536 a, b)
load_given t file size memory (load-range a b c) = rw (eq-eqb memory 65536 a, b, some-above 15 4096 file size c)
load_given t file size memory (load-opened a b c d k) = rw (eq-eqb memory 65536 a, b, none_above 15 4096 file size c d, open-found t file k)
load_given t file size memory (load-done a b c d k) = rw (eq-eqb memory 65536 a, b, none_above 15 4096 file size c d, open-missing t file k)

-- "Order: 2, 4, 7, 6, 8, 9, 5, 1": loading a file
pub load_file-given : (t : Tables) (file : ℕ) (bytes memory : List ℕ) {n : ℕ} → LoadReason t file (length bytes) (length memory) n
    → (load_file t file bytes memory).number ≡ n
load_file-given t file bytes memory r = load_file-number t file bytes memory ∙ load_given t file (length bytes) (length memory) r

-- "Order: 2, 4, 7, 6, 8, 9, 5, 1": dropping a connection
pub drop_connection-given : (t : Tables) (connection : ℕ) {n : ℕ} → DropReason t n → (drop_connection t connection).number ≡ n
unfolding drop_connection refused done
drop_connection-given t c (drop-unsound a) = rw a
drop_connection-given t c (drop-done a) = rw a

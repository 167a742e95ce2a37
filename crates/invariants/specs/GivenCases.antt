-- How to go on from what a command gives, case by case: a claim that holds of each refusal and of what each command leaves
-- holds of what the command gives. Assumes nothing.
use Rattle.std.specs.Prelude.{◌≡◌, ℕ, ◌≤◌, Bool, true, false, cond, List, [], ◌∷◌, ◌++◌, length, get_or, leb, eqb, Option, None, Some}
use Rattle.std.proofs.Math.Path.{refl}
use Rattle.std.proofs.Common.{leb-true}
use Rattle.lists.specs.Walk.{any, found}
use Rattle.records.specs.declared.Open.{Open}
use Rattle.records.specs.declared.Lock.{Lock}
use Rattle.records.specs.declared.Tables.{Tables}
use Rattle.records.specs.Empty.{no_open, no_name}
use Rattle.records.specs.Held.{sessions_of, trees_of, opens_of, names_of, with_opens}
use Rattle.locks.specs.Request.{release_all, Grants, granted, blocked, grant_all, Result, done as done_with, refused as refused_by, after_grants, range_passes, after_releases, request}
use Rattle.locks.specs.declared.types.LockRange.{LockRange}
use Rattle.locks.specs.declared.types.Ask.{Ask}
use Rattle.locks.specs.declared.types.Holder.{Holder}
use Rattle.locks.specs.declared.types.LockRefusal.TheVariants.{NoSuchLock as NoLock, PassesEnd as PastEnd, Conflict as InWay, NoRecord as NoRoom}
use Rattle.catalogue.specs.Name.{is_named}
use Rattle.soundness.specs.Lookup.{is_tree}
use Rattle.soundness.specs.Sound.{holds_open}
use Rattle.chain.specs.declared.block.OpenFields.{OpenFields}
use Rattle.message.specs.declared.caller.Caller.{Caller}
use Rattle.message.specs.Contents.{size_of}
use Rattle.message.specs.Sharing.{kept_out}
use Rattle.message.specs.Command.{Given, refused, done, is_session, with_session, with_tree, is_open, open_at, with_open, unless_barred, barring, writing, codes_served, open_by, opened_said, open_file, open_named, do_open}
use Rattle.message.specs.declared.refusal.Refusal.TheVariants.{NoSession, NoTree, NoOpen, NoAccess, FileLockConflict, NoSpace, OpenMode, BadAccess, NoSuchFile, BadShare, NoFids}

-- of a choice
pub cond-case : {A : Type 0} (P : A → Type 0) (t : Bool) (x y : A) → (t ≡ true → P x) → (t ≡ false → P y) → P (cond t x y)
cond-case P true x y f g = f refl
cond-case P false x y f g = g refl

-- of a LOCKING request's result
module _ (Q : Result → Type 0) (no-lock : Q (refused_by NoLock)) (past : Q (refused_by PastEnd)) (in-way : (h : Holder) → Q (refused_by (InWay h))) (no_room : Q (refused_by NoRoom)) where
  grants-case : (g : Grants) → ((list : List Lock) → g ≡ granted list → length list ≤ 128 → Q (done_with list)) → Q (after_grants g)
  unfolding after_grants
  grants-case (granted list) f =
      cond-case Q (leb (length list) 128) (done_with list) (refused_by NoRoom) (λ e. f list refl (leb-true (length list) 128 e)) (λ _. no_room)
  grants-case (blocked h) f = in-way h

  module _ (file : ℕ → ℕ) (fid : ℕ) (shared : Bool) (locks : List LockRange) where
    releases-case : (o : Option (List Lock))
        → ((left list : List Lock) → o ≡ Some left → any range_passes locks ≡ false → grant_all file fid shared locks left ≡ granted list → length list ≤ 128 → Q (done_with list))
        → Q (after_releases file fid shared locks o)
    unfolding after_releases
    releases-case None f = no-lock
    releases-case (Some left) f =
        cond-case Q (any range_passes locks) (refused_by PastEnd) (after_grants (grant_all file fid shared locks left)) (λ _. past)
        (λ e. grants-case (grant_all file fid shared locks left) (λ list g h. f left list refl e g h))

    pub request-case : (unlocks : List LockRange) (held : List Lock)
        → ((left list : List Lock) → release_all file fid unlocks held ≡ Some left → any range_passes locks ≡ false → grant_all file fid shared locks left ≡ granted list → length list ≤ 128 → Q (done_with list))
        → Q (request file fid shared unlocks locks held)
    unfolding request
    request-case unlocks held f = releases-case (release_all file fid unlocks held) f

-- of the questions who may ask
module _ (P : Given → Type 0) where
  pub session-case : (c : Caller) (t : Tables) (next : Given) → P (refused NoSession) → (any (is_session c) (sessions_of t) ≡ true → P next) → P (with_session c t next)
  unfolding with_session
  session-case c t next bad good = cond-case P (any (is_session c) (sessions_of t)) next (refused NoSession) good (λ _. bad)

  pub tree-case : (c : Caller) (t : Tables) (next : Given) → P (refused NoSession) → P (refused NoTree) → P next → P (with_tree c t next)
  unfolding with_tree
  tree-case c t next no-session bad good =
      session-case c t (cond (any (is_tree c.tid c.uid) (trees_of t)) next (refused NoTree)) no-session
      (λ _. cond-case P (any (is_tree c.tid c.uid) (trees_of t)) next (refused NoTree) (λ _. good) (λ _. bad))

  open-at-case : (f : Option ℕ) (opens : List Open) (next : Open → Given) → P (refused NoOpen) → ((k : ℕ) → f ≡ Some k → P (next (get_or opens k no_open)))
      → P (open_at f opens next)
  unfolding open_at
  open-at-case (Some k) opens next bad good = good k refl
  open-at-case None opens next bad good = bad

  pub open-case : (c : Caller) (t : Tables) (fid : ℕ) (next : Open → Given) → P (refused NoSession) → P (refused NoTree) → P (refused NoOpen)
      → ((k : ℕ) → found (is_open c fid) (opens_of t) ≡ Some k → P (next (get_or (opens_of t) k no_open))) → P (with_open c t fid next)
  unfolding with_open
  open-case c t fid next no-session no-tree bad good =
      tree-case c t (open_at (found (is_open c fid) (opens_of t)) (opens_of t) next) no-session no-tree
      (open-at-case (found (is_open c fid) (opens_of t)) (opens_of t) next bad good)

  pub barred-case : (t : Tables) (f : Option ℕ) (next : Given) → ((h : Holder) → P (refused (FileLockConflict h))) → (f ≡ None → P next) → P (unless_barred t f next)
  unfolding unless_barred
  barred-case t (Some k) next bad good = bad _
  barred-case t None next bad good = good refl

  -- of a write, whatever it asks of the locks and leaves
  pub writing-case : (c : Caller) (t : Tables) (fid : ℕ) (ask : Open → Ask) (past : Bool) (next : Open → Given)
      → P (refused NoSession) → P (refused NoTree) → P (refused NoOpen) → P (refused NoAccess) → ((h : Holder) → P (refused (FileLockConflict h))) → P (refused NoSpace)
      → ((k : ℕ) → found (is_open c fid) (opens_of t) ≡ Some k → past ≡ false → P (next (get_or (opens_of t) k no_open))) → P (writing c t fid ask past next)
  writing-case c t fid ask past next no-session no-tree no-open no_access conflict no-space good =
      open-case c t fid _ no-session no-tree no-open
      (λ k e. cond-case P (eqb (get_or (opens_of t) k no_open).access 0) (refused NoAccess) _ (λ _. no_access)
      (λ _. barred-case t (barring t (ask (get_or (opens_of t) k no_open))) _ conflict (λ _. cond-case P past (refused NoSpace) _ (λ _. no-space) (good k e))))

-- what an OPEN_ANDX that is done has passed
pub record Opening (c : Caller) (t : Tables) (f : OpenFields) (name : List ℕ) (k : ℕ) : Type 0 where
  pub session : any (is_session c) (sessions_of t) ≡ true
  pub tree : any (is_tree c.tid c.uid) (trees_of t) ≡ true
  pub mode : eqb f.mode 1 ≡ true
  pub codes : codes_served f.access f.sharing ≡ true
  pub named : found (is_named name) (names_of t) ≡ Some k
  pub held : any (holds_open (open_by c t f (get_or (names_of t) k no_name).file)) (trees_of t) ≡ true
  pub shared : any (kept_out (get_or (names_of t) k no_name).file f.access f.sharing) (opens_of t) ≡ false
  pub room : leb 64 t.nopens ≡ false

-- of an OPEN_ANDX
module _ (P : Given → Type 0) (c : Caller) (t : Tables) (memory : List ℕ) (f : OpenFields) (name : List ℕ)
    (no-session : P (refused NoSession)) (no-tree : P (refused NoTree)) (mode : P (refused OpenMode)) (codes : P (refused BadAccess)) (no-file : P (refused NoSuchFile))
    (right : P (refused NoAccess)) (share : P (refused BadShare)) (full : P (refused NoFids))
    (good : (k : ℕ) → Opening c t f name k
    → P (done (with_opens t (opens_of t ++ (open_by c t f (get_or (names_of t) k no_name).file ∷ []))) memory
    (opened_said f.full (open_by c t f (get_or (names_of t) k no_name).file).fid (size_of t (get_or (names_of t) k no_name).file) f.access))) where
  named-case : any (is_session c) (sessions_of t) ≡ true → any (is_tree c.tid c.uid) (trees_of t) ≡ true → eqb f.mode 1 ≡ true → codes_served f.access f.sharing ≡ true
      → (o : Option ℕ) → found (is_named name) (names_of t) ≡ o → P (open_named c t memory f o)
  unfolding open_named open_file
  named-case a b m s (Some k) e =
      cond-case P (any (holds_open (open_by c t f (get_or (names_of t) k no_name).file)) (trees_of t)) _ (refused NoAccess)
      (λ h. cond-case P (any (kept_out (get_or (names_of t) k no_name).file f.access f.sharing) (opens_of t)) (refused BadShare) _ (λ _. share)
      (λ q. cond-case P (leb 64 t.nopens) (refused NoFids) _ (λ _. full)
      (λ r. good k (record { session = a; tree = b; mode = m; codes = s; named = e; held = h; shared = q; room = r }))))
      (λ _. right)
  named-case a b m s None e = no-file

  pub opening-case : P (do_open c t memory f name)
  unfolding do_open with_tree
  opening-case =
      session-case P c t _ no-session
      (λ a. cond-case P (any (is_tree c.tid c.uid) (trees_of t)) _ (refused NoTree)
      (λ b. cond-case P (eqb f.mode 1) _ (refused OpenMode)
      (λ m. cond-case P (codes_served f.access f.sharing) _ (refused BadAccess) (λ s. named-case a b m s (found (is_named name) (names_of t)) refl) (λ _. codes)) (λ _. mode))
      (λ _. no-tree))

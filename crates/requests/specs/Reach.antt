-- The open that a command names, or why it names none: the definition's order, as one answer. Assumes nothing.
use Rattle.std.specs.Prelude.{◌≡◌, ℕ, ◌<◌, ◌≤◌, Bool, true, false, cond, List, length, get_or, slice_index_or, Option, Some, None, Result, Ok, Err, ⊤}
use Rattle.std.proofs.Math.Path.{refl, ap, ◌∙◌}
use Rattle.std.proofs.Common.{arith}
use Rattle.lists.specs.Walk.{any, found}
use Rattle.lists.specs.FoundLaws.{found_below}
use Rattle.records.specs.declared.Open.{Open}
use Rattle.records.specs.declared.Tables.{Tables}
use Rattle.records.specs.Empty.{no_open}
use Rattle.records.specs.Held.{sessions_of, trees_of, opens_of}
use Rattle.soundness.specs.Lookup.{is_tree}
use Rattle.invariants.specs.SoundParts.{sound-says}
use Rattle.message.specs.declared.caller.Caller.{Caller}
use Rattle.message.specs.declared.answer.Performed.{Performed}
use Rattle.message.specs.declared.refusal.Refusal.{Refusal}
use Rattle.message.specs.declared.refusal.Refusal.TheVariants.{NoSession, NoTree, NoOpen}
use Rattle.message.specs.Command.{Given, refused, is_session, with_session, with_tree, is_open, open_at, with_open}
use Rattle.message.specs.Given.{Gives}
use Rattle.invariants.specs.Sound.{Good, open-fid, open-file}
use Rattle.requests.specs.Leaves.{refusal, gives-refused}

-- the open and its place, or the refusal
abbrev pub NamedOpen : Type 0
NamedOpen = Result (Open × ℕ) Refusal

unfoldable pub reached_at : Option ℕ → List Open → NamedOpen
reached_at (Some k) opens = Ok (slice_index_or opens k no_open, k)
reached_at None opens = Err NoOpen

-- the session, and the tree behind it
abbrev pub passed : Result ⊤ Refusal
passed = Ok tt

unfoldable pub tree_passed : Bool → Bool → Result ⊤ Refusal
tree_passed b d = cond b (cond d passed (Err NoTree)) (Err NoSession)

unfoldable pub session_reached : Caller → Tables → Result ⊤ Refusal
session_reached c t = cond (any (is_session c) (sessions_of t)) passed (Err NoSession)

unfoldable pub tree_reached : Caller → Tables → Result ⊤ Refusal
tree_reached c t = tree_passed (any (is_session c) (sessions_of t)) (any (is_tree c.tid c.uid) (trees_of t))

unfoldable pub reached : Caller → Tables → ℕ → NamedOpen
reached c t fid =
    cond (any (is_session c) (sessions_of t))
    (cond (any (is_tree c.tid c.uid) (trees_of t)) (reached_at (found (is_open c fid) (opens_of t)) (opens_of t)) (Err NoTree))
    (Err NoSession)

-- what is done once they are reached, and what is refused where they are not
unfoldable pub on_passed : Result ⊤ Refusal → Given → Given
on_passed (Ok x) next = next
on_passed (Err why) next = refused why

session-case : (b : Bool) (next : Given) → cond b next (refused NoSession) ≡ on_passed (cond b passed (Err NoSession)) next
unfolding on_passed
session-case true next = refl
session-case false next = refl

tree-case : (b d : Bool) (next : Given)
    → cond b (cond d next (refused NoTree)) (refused NoSession) ≡ on_passed (tree_passed b d) next
unfolding on_passed tree_passed
tree-case true true next = refl
tree-case true false next = refl
tree-case false d next = refl

pub with-session : (c : Caller) (t : Tables) (next : Given) → with_session c t next ≡ on_passed (session_reached c t) next
unfolding with_session session_reached
with-session c t next = session-case (any (is_session c) (sessions_of t)) next

pub with-tree : (c : Caller) (t : Tables) (next : Given) → with_tree c t next ≡ on_passed (tree_reached c t) next
unfolding with_tree with_session tree_reached
with-tree c t next = tree-case (any (is_session c) (sessions_of t)) (any (is_tree c.tid c.uid) (trees_of t)) next

-- a command on a session or a tree that is not reached, and on one that is
module _ (c : Caller) (t : Tables) (next : Given) where
  pub no-session : (why : Refusal) → session_reached c t ≡ Err why → with_session c t next ≡ refused why
  unfolding on_passed
  no-session why e = with-session c t next ∙ ap (λ r. on_passed r next) e

  pub some-session : (x : ⊤) → session_reached c t ≡ Ok x → with_session c t next ≡ next
  unfolding on_passed
  some-session x e = with-session c t next ∙ ap (λ r. on_passed r next) e

  pub no-tree : (why : Refusal) → tree_reached c t ≡ Err why → with_tree c t next ≡ refused why
  unfolding on_passed
  no-tree why e = with-tree c t next ∙ ap (λ r. on_passed r next) e

  pub some-tree : (x : ⊤) → tree_reached c t ≡ Ok x → with_tree c t next ≡ next
  unfolding on_passed
  some-tree x e = with-tree c t next ∙ ap (λ r. on_passed r next) e

tree-refused : (b d : Bool) (why : Refusal) → cond b passed (Err NoSession) ≡ Err why → tree_passed b d ≡ Err why
unfolding tree_passed
tree-refused true d why e = let never : ◌≡◌ {A = ℕ} 0 1 = cc in absurd (omega arith)
tree-refused false d why e = e

tree-asked : (b d : Bool) (x : ⊤) → cond b passed (Err NoSession) ≡ Ok x → tree_passed b d ≡ cond d passed (Err NoTree)
unfolding tree_passed
tree-asked true d x e = refl
tree-asked false d x e = let never : ◌≡◌ {A = ℕ} 0 1 = cc in absurd (omega arith)

-- the tree is asked for behind the session
module _ (c : Caller) (t : Tables) where
  pub tree-no-session : (why : Refusal) → session_reached c t ≡ Err why → tree_reached c t ≡ Err why
  unfolding session_reached tree_reached
  tree-no-session why e = tree-refused (any (is_session c) (sessions_of t)) (any (is_tree c.tid c.uid) (trees_of t)) why e

  pub tree-behind : (x : ⊤) → session_reached c t ≡ Ok x → tree_reached c t ≡ cond (any (is_tree c.tid c.uid) (trees_of t)) passed (Err NoTree)
  unfolding session_reached tree_reached
  tree-behind x e = tree-asked (any (is_session c) (sessions_of t)) (any (is_tree c.tid c.uid) (trees_of t)) x e

open-refused : (b d : Bool) (y : NamedOpen) (why : Refusal) → tree_passed b d ≡ Err why → cond b (cond d y (Err NoTree)) (Err NoSession) ≡ Err why
unfolding tree_passed
open-refused true true y why e = let never : ◌≡◌ {A = ℕ} 0 1 = cc in absurd (omega arith)
open-refused true false y why e = let same : NoTree ≡ why = cc in ap Err same
open-refused false d y why e = let same : NoSession ≡ why = cc in ap Err same

open-asked : (b d : Bool) (y : NamedOpen) (x : ⊤) → tree_passed b d ≡ Ok x → cond b (cond d y (Err NoTree)) (Err NoSession) ≡ y
unfolding tree_passed
open-asked true true y x e = refl
open-asked true false y x e = let never : ◌≡◌ {A = ℕ} 0 1 = cc in absurd (omega arith)
open-asked false d y x e = let never : ◌≡◌ {A = ℕ} 0 1 = cc in absurd (omega arith)

-- the open is looked for behind both
module _ (c : Caller) (t : Tables) (fid : ℕ) where
  pub open-no-tree : (why : Refusal) → tree_reached c t ≡ Err why → reached c t fid ≡ Err why
  unfolding tree_reached reached
  open-no-tree why e = open-refused (any (is_session c) (sessions_of t)) (any (is_tree c.tid c.uid) (trees_of t)) (reached_at (found (is_open c fid) (opens_of t)) (opens_of t)) why e

  pub open-behind : (x : ⊤) → tree_reached c t ≡ Ok x → reached c t fid ≡ reached_at (found (is_open c fid) (opens_of t)) (opens_of t)
  unfolding tree_reached reached
  open-behind x e = open-asked (any (is_session c) (sessions_of t)) (any (is_tree c.tid c.uid) (trees_of t)) (reached_at (found (is_open c fid) (opens_of t)) (opens_of t)) x e

unfoldable pub on_reached : NamedOpen → (Open → Given) → Given
on_reached (Ok p) next = next p.0
on_reached (Err why) next = refused why

who-case : (b d : Bool) (x : Given) (y : NamedOpen) (next : Open → Given) → x ≡ on_reached y next
    → cond b (cond d x (refused NoTree)) (refused NoSession) ≡ on_reached (cond b (cond d y (Err NoTree)) (Err NoSession)) next
unfolding on_reached
who-case true true x y next e = e
who-case true false x y next e = refl
who-case false d x y next e = refl

at-case : (f : Option ℕ) (opens : List Open) (next : Open → Given) → open_at f opens next ≡ on_reached (reached_at f opens) next
unfolding open_at reached_at on_reached
at-case (Some k) opens next = refl
at-case None opens next = refl

-- a command on an open goes by this answer
pub with-reached : (c : Caller) (t : Tables) (fid : ℕ) (next : Open → Given) → with_open c t fid next ≡ on_reached (reached c t fid) next
unfolding with_open with_tree with_session reached
with-reached c t fid next =
    who-case (any (is_session c) (sessions_of t)) (any (is_tree c.tid c.uid) (trees_of t)) (open_at (found (is_open c fid) (opens_of t)) (opens_of t) next)
    (reached_at (found (is_open c fid) (opens_of t)) (opens_of t)) next (at-case (found (is_open c fid) (opens_of t)) (opens_of t) next)

-- the open stands in use at that place, has that FID, and is of one of the 16 files
pub record Stands (t : Tables) (fid : ℕ) (o : Open) (k : ℕ) : Type 0 where
  pub used : k < length (opens_of t)
  pub is : o ≡ slice_index_or (opens_of t) k no_open
  pub named : o.fid ≡ fid
  pub file : o.file ≤ 15

-- under its own FID too
pub stands-own : {t : Tables} {fid : ℕ} {o : Open} {k : ℕ} → Stands t fid o k → Stands t o.fid o k
stands-own s = record { used = s.used; is = s.is; named = refl; file = s.file }

open_in : NamedOpen → Open
open_in (Ok p) = p.0
open_in (Err why) = no_open

place_in : NamedOpen → ℕ
place_in (Ok p) = p.1
place_in (Err why) = 0

at-stands : (f : Option ℕ) (t : Tables) (fid : ℕ) (o : Open) (k : ℕ) → ((j : ℕ) → f ≡ Some j → Stands t fid (slice_index_or (opens_of t) j no_open) j)
    → reached_at f (opens_of t) ≡ Ok (o, k) → Stands t fid o k
unfolding reached_at open_in place_in
at-stands (Some j) t fid o k h e =
    let place : j ≡ k = ap place_in e in
    let same : get_or (opens_of t) j no_open ≡ o = ap open_in e in
    rw (same, place) at (h j refl)
at-stands None t fid o k h e = let never : ◌≡◌ {A = ℕ} 0 1 = cc in absurd (omega arith)

who-stands : (b d : Bool) (y : NamedOpen) (t : Tables) (fid : ℕ) (o : Open) (k : ℕ) → (y ≡ Ok (o, k) → Stands t fid o k)
    → cond b (cond d y (Err NoTree)) (Err NoSession) ≡ Ok (o, k) → Stands t fid o k
who-stands true true y t fid o k h e = h e
who-stands true false y t fid o k h e = let never : ◌≡◌ {A = ℕ} 0 1 = cc in absurd (omega arith)
who-stands false d y t fid o k h e = let never : ◌≡◌ {A = ℕ} 0 1 = cc in absurd (omega arith)

-- an open that is reached stands so
pub reached-stands : (c : Caller) (t : Tables) (fid : ℕ) (o : Open) (k : ℕ) → Good t → reached c t fid ≡ Ok (o, k) → Stands t fid o k
unfolding reached
reached-stands c t fid o k g e =
    who-stands (any (is_session c) (sessions_of t)) (any (is_tree c.tid c.uid) (trees_of t)) (reached_at (found (is_open c fid) (opens_of t)) (opens_of t)) t fid o k
    (at-stands (found (is_open c fid) (opens_of t)) t fid o k (λ j h.
    record {
      used = found_below (is_open c fid) (opens_of t) j h;
      is = refl;
      named = open-fid c t fid j h;
      file = open-file c t fid j h (sound-says t g.sound);
    }))
    e

-- a command on an open that is not reached, and on one that is
module _ (c : Caller) (t : Tables) (fid : ℕ) (m : List ℕ) (p : Performed) (next : Open → Given) where
  pub not-reached : (why : Refusal) → reached c t fid ≡ Err why → p ≡ refusal why t → Gives (with_open c t fid next) t m p m
  unfolding on_reached
  not-reached why e q = rw (with-reached c t fid next, e) (gives-refused why refl q)

  pub is-reached : (left : List ℕ) (o : Open) (k : ℕ) → reached c t fid ≡ Ok (o, k) → Gives (next o) t m p left → Gives (with_open c t fid next) t m p left
  unfolding on_reached
  is-reached left o k e g = rw (with-reached c t fid next, e) g

-- The status of an OPEN_ANDX and the one reason for it, in plain words (document 02, CR 6: "Refusals, after 2/5: 2/65535 OpenMode, 1/12 access or sharing code, 1/2 name, 1/5 tree
-- right, 1/32 sharing, 1/4 all 64 FIDs in use"). A reason names the failure of those before it in that order; the status is given just where its reason holds. Assumes nothing.
use Rattle.std.specs.Prelude.{◌≡◌, ℕ, ◌≤◌, ◌<◌, Bool, ◌&&◌, leb, eqb, Some}
use Rattle.std.proofs.Math.Path.{refl, sym, ap}
use Rattle.std.proofs.Common.{◌∙◌}
use Rattle.std.proofs.Math.Logic.{inl, inr}
use native.Mathlib.Omega.{arith}
use Rattle.std.proofs.Math.Bool.{true}
use Rattle.std.proofs.lemmas.Bool.{false≢true}
use mathlib.Core.List.{List, [], ◌∷◌, Memᴰ as In}
use Rattle.std.proofs.Math.ListN.{get_or}
use borrow.Author.Tests.{leb-true, leb-false, le-leb, eqb-true, eq-eqb}
use Rattle.lists.specs.Walk.{any, found}
use Rattle.lists.specs.Truth.{both_hold, hold-both, decided}
use Rattle.lists.specs.Members.{any-one, one-any}
use Rattle.records.specs.declared.Tree.{Tree}
use Rattle.records.specs.declared.Name.{Name}
use Rattle.records.specs.declared.Tables.{Tables}
use Rattle.records.specs.Empty.{no_name}
use Rattle.records.specs.Held.{trees_of, names_of}
use Rattle.catalogue.specs.Name.{folded, same_name, name_bytes, is_named}
use Rattle.soundness.specs.Sound.{sound, holds_open, sharing_ok}
use Rattle.invariants.specs.RuleLaws.{holds-says}
use Rattle.invariants.specs.SoundParts.{sound-says}
use Rattle.invariants.specs.FoundFacts.{found-hit}
use Rattle.claims.specs.SoundPlain.{holds-ok, permits-says}
use Rattle.claims.specs.CataloguePlain.{SameName}
use Rattle.claims.proofs.CataloguePlain.{same-name-plain}
use Rattle.claims.specs.HostReasons.{HasTree, HasPermitting, HasReadOnly}
use Rattle.claims.specs.Cases.{status_in}
use Rattle.chain.specs.declared.block.OpenFields.{OpenFields}
use Rattle.message.specs.declared.caller.Caller.{Caller}
use Rattle.message.specs.Refusal.{status}
use Rattle.message.specs.declared.refusal.Status.{Status}
use Rattle.message.specs.Command.{Given, codes_served, open_by, do_open}
use Rattle.demands.specs.Admitted.{SessionHere, no-session, NoTreeFor, before-tree, no-tree}
use Rattle.demands.specs.Sharing.{KeptOut}

-- ---- the plain words

-- "access codes 0 to 2, sharing codes 1 to 4"
pub record CodesOk (f : OpenFields) : Type 0 where
  pub access-code : f.access ≤ 2
  pub some-sharing : 1 ≤ f.sharing
  pub sharing-code : f.sharing ≤ 4

pub data OtherCode (f : OpenFields) : Type 0 where
  access-above : 2 < f.access → OtherCode f
  sharing-none : f.sharing ≡ 0 → OtherCode f
  sharing-above : 4 < f.sharing → OtherCode f

-- a name of the catalogue is the one asked for, "compared with ASCII letters caseless", and has this file
pub record NamesFile (t : Tables) (name : List ℕ) (file : ℕ) : Type 0 where
  pub entry : Name
  pub listed : In entry (names_of t)
  pub same : SameName (name_bytes entry) name
  pub of-file : entry.file ≡ file

-- session, tree, OpenMode and codes are in order
pub record OpenServed (c : Caller) (t : Tables) (f : OpenFields) : Type 0 where
  pub session : SessionHere c t
  pub tree : HasTree t c.tid c.uid
  pub mode : f.mode ≡ 1
  pub codes : CodesOk f

-- and so are the name and the tree's right: all that is tested before sharing
pub record OpenPermitted (c : Caller) (t : Tables) (f : OpenFields) (name : List ℕ) (file : ℕ) : Type 0 where
  pub served : OpenServed c t f
  pub named : NamesFile t name file
  pub permitted : HasPermitting t c.tid c.uid f.access

pub data OpenStatus (c : Caller) (t : Tables) (f : OpenFields) (name : List ℕ) : Status → Type 0 where
  -- 2/91 or 2/5: Admitted.antt
  open-not : {n : Status} → NoTreeFor c t n → OpenStatus c t f name n
  open-mode : SessionHere c t → HasTree t c.tid c.uid → (f.mode ≡ 1 → ⊥) → OpenStatus c t f name (status 2 65535)
  open-codes : SessionHere c t → HasTree t c.tid c.uid → f.mode ≡ 1 → OtherCode f → OpenStatus c t f name (status 1 12)
  open-unnamed : OpenServed c t f → ((file : ℕ) → NamesFile t name file → ⊥) → OpenStatus c t f name (status 1 2)
  open-right : {file : ℕ} → OpenServed c t f → NamesFile t name file → HasReadOnly t c.tid c.uid → (f.access ≡ 0 → ⊥) → OpenStatus c t f name (status 1 5)
  open_shared : {file : ℕ} → OpenPermitted c t f name file → KeptOut t file f.access f.sharing → OpenStatus c t f name (status 1 32)
  open_full : {file : ℕ} → OpenPermitted c t f name file → (KeptOut t file f.access f.sharing → ⊥) → t.nopens ≡ 64 → OpenStatus c t f name (status 1 4)
  open_done : {file : ℕ} → OpenPermitted c t f name file → (KeptOut t file f.access f.sharing → ⊥) → t.nopens < 64 → OpenStatus c t f name (status 0 0)

-- ---- the tests behind them

pub codes-say : (f : OpenFields) → codes_served f.access f.sharing ≡ true → CodesOk f
unfolding codes_served sharing_ok
codes-say f e =
    let a = both_hold (leb f.access 2) (leb 1 f.sharing && leb f.sharing 4) e in
    let b = both_hold (leb 1 f.sharing) (leb f.sharing 4) a.1 in
    record { access-code = leb-true f.access 2 a.0; some-sharing = leb-true 1 f.sharing b.0; sharing-code = leb-true f.sharing 4 b.1 }

pub say-codes : (f : OpenFields) → CodesOk f → codes_served f.access f.sharing ≡ true
unfolding codes_served sharing_ok
say-codes f k =
    hold-both (leb f.access 2) (leb 1 f.sharing && leb f.sharing 4) (le-leb f.access 2 k.access-code)
    (hold-both (leb 1 f.sharing) (leb f.sharing 4) (le-leb 1 f.sharing k.some-sharing) (le-leb f.sharing 4 k.sharing-code))

pub other-code : (f : OpenFields) → OtherCode f → CodesOk f → ⊥
other-code f (access-above h) k = let z = k.access-code in omega arith
other-code f (sharing-none h) k = let z = k.some-sharing in omega arith
other-code f (sharing-above h) k = let z = k.sharing-code in omega arith

pub code_other : (f : OpenFields) → (CodesOk f → ⊥) → OtherCode f
code_other f n =
    elim (decided (leb f.access 2)) [
      | inr a ↦ access-above (leb-false f.access 2 a)
      | inl a ↦ elim (decided (leb 1 f.sharing)) [
        | inr b ↦ let z : f.sharing < 1 = leb-false 1 f.sharing b in let e : f.sharing ≡ 0 = omega arith in sharing-none e
        | inl b ↦ elim (decided (leb f.sharing 4)) [
          | inr d ↦ sharing-above (leb-false f.sharing 4 d)
          | inl d ↦ absurd (n (record { access-code = leb-true f.access 2 a; some-sharing = leb-true 1 f.sharing b; sharing-code = leb-true f.sharing 4 d }))
        ]
      ]
    ]

-- two names that are the same as a third are the same
pub same-through : (xs ys zs : List ℕ) → same_name xs zs ≡ true → same_name ys zs ≡ true → same_name xs ys ≡ true
unfolding same_name
same-through [] [] zs e f = refl
same-through [] (y ∷ ys) [] e f = absurd (false≢true f)
same-through [] (y ∷ ys) (z ∷ zs) e f = absurd (false≢true e)
same-through (x ∷ xs) ys [] e f = absurd (false≢true e)
same-through (x ∷ xs) [] (z ∷ zs) e f = absurd (false≢true f)
same-through (x ∷ xs) (y ∷ ys) (z ∷ zs) e f =
    let a = both_hold (eqb (folded x) (folded z)) (same_name xs zs) e in
    let b = both_hold (eqb (folded y) (folded z)) (same_name ys zs) f in
    hold-both (eqb (folded x) (folded y)) (same_name xs ys)
    (eq-eqb (folded x) (folded y) (eqb-true (folded x) (folded z) a.0 ∙ sym (eqb-true (folded y) (folded z) b.0)))
    (same-through xs ys zs a.1 b.1)

module _ (t : Tables) (name : List ℕ) where
  -- the name that is found
  pub found-names : (k : ℕ) → found (is_named name) (names_of t) ≡ Some k → NamesFile t name (get_or (names_of t) k no_name).file
  unfolding is_named
  found-names k e =
      let h = found-hit (is_named name) (names_of t) k no_name e in
      record { entry = get_or (names_of t) k no_name; listed = h.listed; same = (same-name-plain (name_bytes (get_or (names_of t) k no_name)) name).0 h.passes; of-file = refl }

  pub names-test : {file : ℕ} (n : NamesFile t name file) → is_named name n.entry ≡ true
  unfolding is_named
  names-test n = (same-name-plain (name_bytes n.entry) name).1 n.same

module _ (c : Caller) (t : Tables) (f : OpenFields) (file : ℕ) where
  abbrev pub its_tree : Tree → Bool
  its_tree = holds_open (open_by c t f file)

  pub tree-permits : any its_tree (trees_of t) ≡ true → HasPermitting t c.tid c.uid f.access
  unfolding HasPermitting open_by
  tree-permits e =
      let r = any-one its_tree (trees_of t) e in
      let h = holds-says (open_by c t f file) r.0 r.2 in
      (r.0, r.1, h.tid, h.uid, permits-says r.0.right f.access h.permitted)

  pub permits-tree : HasPermitting t c.tid c.uid f.access → any its_tree (trees_of t) ≡ true
  unfolding HasPermitting open_by
  permits-tree r = one-any its_tree r.1 (holds-ok (open_by c t f file) r.0 r.2 r.3 r.4)

-- ---- the status has its reason

module _ (c : Caller) (t : Tables) (memory : List ℕ) (ok : sound t ≡ true) (f : OpenFields) (name : List ℕ) where
  abbrev pub Its : Given → Type 0
  Its g = OpenStatus c t f name (status_in g)

  pub all-used : 64 ≤ t.nopens → t.nopens ≡ 64
  all-used h = let k = (sound-says t ok).room.opens-fit in omega arith

  -- ---- and where the reason holds, the status is given

  -- ---- one that is done

  -- a status with a code is not 0/0
  pub code-not : {P : Type 0} (n : Status) → n ≡ status 0 0 → (n.code ≡ 0 → ⊥) → P
  unfolding status
  code-not n e h = absurd (h (ap (λ (s : Status). s.code) e))

  pub tree-not-zero : {P : Type 0} {n : Status} → NoTreeFor c t n → n ≡ status 0 0 → P
  unfolding status
  tree-not-zero (before-tree (no-session h)) e = code-not _ e (λ q. omega arith)
  tree-not-zero (no-tree s h) e = code-not _ e (λ q. omega arith)

  -- what it has passed
  pub record OpenPassed : Type 0 where
    pub file : ℕ
    pub passed : OpenPermitted c t f name file
    pub shared : KeptOut t file f.access f.sharing → ⊥
    pub room : t.nopens < 64

  -- ---- the request's sentence

  -- a status is not another
  pub not-both : (x y : Status) → status_in (do_open c t memory f name) ≡ x → status_in (do_open c t memory f name) ≡ y → (x.code ≡ y.code → ⊥) → ⊥
  not-both x y e g n = n (ap (λ (s : Status). s.code) (sym e ∙ g))

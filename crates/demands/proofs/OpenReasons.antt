-- Of specs/OpenReasons.antt: what rests on its other theorems. Assumes nothing.
use Rattle.std.specs.Prelude.{◌≡◌, ◌↔◌, ℕ, ◌≤◌, false, cond, leb, eqb, Option, Some, None}
use Rattle.std.proofs.Math.Path.{refl, sym, ap}
use Rattle.std.proofs.Common.{◌∙◌}
use Rattle.std.proofs.Math.Logic.{inl, inr}
use native.Mathlib.Omega.{arith}
use Rattle.std.proofs.Math.Decide.{ℕ_discrete}
use Rattle.std.proofs.Math.Bool.{true}
use mathlib.Core.List.{List, [], ◌∷◌, ◌++◌}
use Rattle.std.proofs.Math.ListN.{get_or}
use borrow.Author.Tests.{leb-true, leb-false, le-leb, lt-leb, eqb-true, eqb-false, eq-eqb, ne_eqb}
use Rattle.lists.specs.Walk.{any, found}
use Rattle.lists.specs.Truth.{fails, decided, not-decided-twice}
use Rattle.lists.specs.PairLaws.{in_place}
use Rattle.lists.specs.FoundLaws.{found_below}
use Rattle.records.specs.declared.Tree.{Tree}
use Rattle.records.specs.declared.Name.{Name}
use Rattle.records.specs.declared.Tables.{Tables}
use Rattle.records.specs.Empty.{no_name}
use Rattle.records.specs.Held.{trees_of, opens_of, names_of, with_opens}
use Rattle.numbers.specs.Column.{tid_of}
use Rattle.catalogue.specs.Name.{same_name, name_bytes, is_named}
use Rattle.soundness.specs.Sound.{sound}
use Rattle.invariants.specs.Numbered.{numbered-same}
use Rattle.invariants.specs.SoundParts.{sound-says}
use Rattle.invariants.specs.FoundFacts.{found-hit, found-miss}
use Rattle.invariants.specs.GivenCases.{cond-case}
use Rattle.claims.proofs.SoundPlain.{sound-plain}
use Rattle.claims.proofs.CataloguePlain.{same-name-plain}
use Rattle.claims.specs.HostReasons.{HasTree, HasPermitting, HasReadOnly}
use Rattle.claims.specs.Cases.{status_in}
use Rattle.chain.specs.declared.block.OpenFields.{OpenFields}
use Rattle.message.specs.declared.caller.Caller.{Caller}
use Rattle.message.specs.Refusal.{status, forms_of}
use Rattle.message.specs.declared.refusal.Status.{Status}
use Rattle.message.specs.declared.refusal.Refusal.TheVariants.{NoAccess, OpenMode, BadAccess, BadShare, NoFids}
use Rattle.message.specs.Contents.{size_of}
use Rattle.message.specs.Sharing.{kept_out}
use Rattle.message.specs.Command.{refused, done, codes_served, open_by, opened_said, open_file, open_named, do_open}
use Rattle.demands.proofs.Admitted.{tree-or, with-tree, tree-given}
use Rattle.demands.specs.LoneLock.{some_at}
use Rattle.demands.specs.Sharing.{KeptOut}
use Rattle.demands.proofs.Sharing.{kept-out-plain}
use Rattle.demands.specs.OpenReasons.{Its, NamesFile, OpenPassed, OpenPermitted, OpenServed, OpenStatus, all-used, code-not, code_other, codes-say, found-names, its_tree, names-test, not-both, other-code, permits-tree, same-through, say-codes, tree-not-zero, tree-permits}
use Rattle.demands.specs.OpenReasons.{open-codes}
use Rattle.demands.specs.OpenReasons.{open-mode}
use Rattle.demands.specs.OpenReasons.{open-not}
use Rattle.demands.specs.OpenReasons.{open-right}
use Rattle.demands.specs.OpenReasons.{open-unnamed}
use Rattle.demands.specs.OpenReasons.{open_done}
use Rattle.demands.specs.OpenReasons.{open_full}
use Rattle.demands.specs.OpenReasons.{open_shared}

module _ (t : Tables) (name : List ℕ) where
  pub none_found : found (is_named name) (names_of t) ≡ None → (file : ℕ) → NamesFile t name file → ⊥
  none_found e file n = not-decided-twice (is_named name n.entry) ((names-test t name) n) (found-miss (is_named name) n.listed e)

  pub found_none : (x : Option ℕ) → found (is_named name) (names_of t) ≡ x → ((file : ℕ) → NamesFile t name file → ⊥) → x ≡ None
  found_none (Some k) e h = absurd (h _ ((found-names t name) k e))
  found_none None e h = refl

  -- no name being doubled, it is the one meant
  pub names-found : sound t ≡ true → {file : ℕ} → NamesFile t name file → (k : ℕ) × (found (is_named name) (names_of t) ≡ Some k) × ((get_or (names_of t) k no_name).file ≡ file)
  unfolding is_named
  names-found ok {file} n =
      let w = some_at (is_named name) (names_of t) (found (is_named name) (names_of t)) refl n.listed ((names-test t name) n) in
      let h = found-hit (is_named name) (names_of t) w.0 no_name w.1 in
      let p = in_place no_name n.listed in
      let q : same_name (name_bytes (get_or (names_of t) p.0 no_name)) name ≡ true = rw p.2 ((names-test t name) n) in
      let both = same-through (name_bytes (get_or (names_of t) p.0 no_name)) (name_bytes (get_or (names_of t) w.0 no_name)) name q h.passes in
      let same = (same-name-plain (name_bytes (get_or (names_of t) p.0 no_name)) (name_bytes (get_or (names_of t) w.0 no_name))).0 both in
      let one : p.0 ≡ w.0 =
      elim (ℕ_discrete p.0 w.0) [
        | yes e ↦ e
        | no d ↦ absurd (((sound-plain t).0 ok).catalogue.different p.0 w.0 p.1 (found_below (is_named name) (names_of t) w.0 w.1) d same)
      ] in
      (w.0, w.1, ap (λ (k : ℕ). (get_or (names_of t) k no_name).file) (sym one) ∙ ap (λ (e : Name). e.file) p.2 ∙ n.of-file)

module _ (c : Caller) (t : Tables) (f : OpenFields) (file : ℕ) where
  -- a tree that does not permit the access has right 0, and the access is not 0
  pub tree-exceeded : HasTree t c.tid c.uid → any (its_tree c t f file) (trees_of t) ≡ false → HasReadOnly t c.tid c.uid × (f.access ≡ 0 → ⊥)
  unfolding HasTree HasReadOnly HasPermitting
  tree-exceeded r e =
      let none : HasPermitting t c.tid c.uid f.access → ⊥ = λ p. not-decided-twice (any (its_tree c t f file) (trees_of t)) ((permits-tree c t f file) p) e in
      elim (ℕ_discrete r.0.right 0) [
        | yes z ↦ ((r.0, r.1, r.2, r.3, z), λ a. none (r.0, r.1, r.2, r.3, λ _. a))
        | no z ↦ absurd (none (r.0, r.1, r.2, r.3, λ e. absurd (z e)))
      ]

  -- TIDs being distinct, a tree of right 0 leaves no other that would permit the access
  pub exceeded-tree : sound t ≡ true → HasReadOnly t c.tid c.uid → (f.access ≡ 0 → ⊥) → any (its_tree c t f file) (trees_of t) ≡ false
  unfolding HasReadOnly HasPermitting
  exceeded-tree ok r n =
      fails (any (its_tree c t f file) (trees_of t))
      (λ e. let q = (tree-permits c t f file) e in
      let same : q.0 ≡ r.0 = numbered-same tid_of 32 (trees_of t) (sound-says t ok).records.tids q.1 r.1 (q.2 ∙ sym r.2) in
      n (q.4 (ap (λ (x : Tree). x.right) same ∙ r.4)))

module _ (c : Caller) (t : Tables) (memory : List ℕ) (ok : sound t ≡ true) (f : OpenFields) (name : List ℕ) where
  pub file-reason : (file : ℕ) → OpenServed c t f → NamesFile t name file → (Its c t memory ok f name) (open_file c t memory f file)
  unfolding open_file status_in forms_of
  file-reason file served named =
      cond-case (Its c t memory ok f name) (any (its_tree c t f file) (trees_of t)) _ (refused NoAccess)
      (λ h. let passed : OpenPermitted c t f name file = record { served = served; named = named; permitted = tree-permits c t f file h } in
      cond-case (Its c t memory ok f name) (any (kept_out file f.access f.sharing) (opens_of t)) (refused BadShare) _ (λ k. open_shared passed ((kept-out-plain t file f.access f.sharing).0 k))
      (λ k. let free : KeptOut t file f.access f.sharing → ⊥ =
      λ w. not-decided-twice (any (kept_out file f.access f.sharing) (opens_of t)) ((kept-out-plain t file f.access f.sharing).1 w) k in
      cond-case (Its c t memory ok f name) (leb 64 t.nopens) (refused NoFids) _ (λ r. open_full passed free ((all-used c t memory ok f name) (leb-true 64 t.nopens r)))
      (λ r. open_done passed free (leb-false 64 t.nopens r))))
      (λ h. let w = tree-exceeded c t f file served.tree h in open-right served named w.0 w.1)

  pub named-reason : OpenServed c t f → (o : Option ℕ) → found (is_named name) (names_of t) ≡ o → (Its c t memory ok f name) (open_named c t memory f o)
  unfolding open_named status_in forms_of
  named-reason served (Some k) e = file-reason (get_or (names_of t) k no_name).file served (found-names t name k e)
  named-reason served None e = open-unnamed served (none_found t name e)

  -- the status is given only for its reason
  pub opening-reason : OpenStatus c t f name (status_in (do_open c t memory f name))
  unfolding do_open status_in forms_of
  opening-reason =
      elim (tree-or c t) [
        | inl h ↦ rw (tree-given c t _ h.1) (open-not h.1)
        | inr (s, r) ↦ rw (with-tree c t _ s r)
            (cond-case (Its c t memory ok f name) (eqb f.mode 1) _ (refused OpenMode)
            (λ m. cond-case (Its c t memory ok f name) (codes_served f.access f.sharing) _ (refused BadAccess)
            (λ k. named-reason (record { session = s; tree = r; mode = eqb-true f.mode 1 m; codes = codes-say f k }) (found (is_named name) (names_of t)) refl)
            (λ k. open-codes s r (eqb-true f.mode 1 m) (code_other f (λ w. not-decided-twice (codes_served f.access f.sharing) (say-codes f w) k))))
            (λ m. open-mode s r (eqb-false f.mode 1 m)))
      ]

  pub served-is : OpenServed c t f → do_open c t memory f name ≡ open_named c t memory f (found (is_named name) (names_of t))
  unfolding do_open
  served-is v = with-tree c t _ v.session v.tree ∙ rw (eq-eqb f.mode 1 v.mode, say-codes f v.codes)

  pub named-is : {file : ℕ} → OpenServed c t f → NamesFile t name file → do_open c t memory f name ≡ open_file c t memory f file
  unfolding open_named
  named-is v n =
      let w = names-found t name ok n in
      served-is v ∙ rw w.1 (ap (λ (file : ℕ). open_file c t memory f file) w.2)

  pub permitted-is : {file : ℕ} → OpenPermitted c t f name file
      → do_open c t memory f name
      ≡ cond (any (kept_out file f.access f.sharing) (opens_of t)) (refused BadShare)
      (cond (leb 64 t.nopens) (refused NoFids)
      (done (with_opens t (opens_of t ++ (open_by c t f file ∷ []))) memory (opened_said f.full (open_by c t f file).fid (size_of t file) f.access)))
  unfolding open_file
  permitted-is {file} p = named-is p.served p.named ∙ rw (permits-tree c t f file p.permitted)

  pub free-is : {file : ℕ} → OpenPermitted c t f name file → (KeptOut t file f.access f.sharing → ⊥)
      → do_open c t memory f name
      ≡ cond (leb 64 t.nopens) (refused NoFids)
      (done (with_opens t (opens_of t ++ (open_by c t f file ∷ []))) memory (opened_said f.full (open_by c t f file).fid (size_of t file) f.access))
  free-is {file} p n =
      permitted-is p
      ∙ rw (fails (any (kept_out file f.access f.sharing) (opens_of t)) (λ e. n ((kept-out-plain t file f.access f.sharing).0 e)))

  pub opening-given : {n : Status} → OpenStatus c t f name n → status_in (do_open c t memory f name) ≡ n
  unfolding do_open open_named open_file status_in forms_of
  opening-given (open-not h) = tree-given c t _ h
  opening-given (open-mode s r n) = ap status_in (with-tree c t _ s r) ∙ rw (ne_eqb f.mode 1 n)
  opening-given (open-codes s r m k) =
      ap status_in (with-tree c t _ s r)
      ∙ rw (eq-eqb f.mode 1 m, fails (codes_served f.access f.sharing) (λ e. other-code f k (codes-say f e)))
  opening-given (open-unnamed v n) = ap status_in (served-is v) ∙ rw (found_none t name (found (is_named name) (names_of t)) refl n)
  opening-given (open-right {file} v n r a) = ap status_in (named-is v n) ∙ rw (exceeded-tree c t f file ok r a)
  opening-given (open_shared {file} p k) = ap status_in (permitted-is p) ∙ rw ((kept-out-plain t file f.access f.sharing).1 k)
  opening-given (open_full p n h) = let l : 64 ≤ t.nopens = omega arith in ap status_in (free-is p n) ∙ rw (le-leb 64 t.nopens l)
  opening-given (open_done p n h) = ap status_in (free-is p n) ∙ rw (lt-leb 64 t.nopens h)

  pub done-passed : {n : Status} → OpenStatus c t f name n → n ≡ status 0 0 → (OpenPassed c t memory ok f name)
  unfolding status
  done-passed (open-not h) e = (tree-not-zero c t memory ok f name) h e
  done-passed (open-mode s r h) e = (code-not c t memory ok f name) _ e (λ q. omega arith)
  done-passed (open-codes s r m h) e = (code-not c t memory ok f name) _ e (λ q. omega arith)
  done-passed (open-unnamed v h) e = (code-not c t memory ok f name) _ e (λ q. omega arith)
  done-passed (open-right v n r h) e = (code-not c t memory ok f name) _ e (λ q. omega arith)
  done-passed (open_shared p k) e = (code-not c t memory ok f name) _ e (λ q. omega arith)
  done-passed (open_full p k h) e = (code-not c t memory ok f name) _ e (λ q. omega arith)
  done-passed (open_done {file} p k h) e = record { file = file; passed = p; shared = k; room = h }

  pub opened-passed : status_in (do_open c t memory f name) ≡ status 0 0 → (OpenPassed c t memory ok f name)
  opened-passed e = done-passed opening-reason e

  -- and what it comes to
  pub passed_is : (p : (OpenPassed c t memory ok f name)) → do_open c t memory f name
      ≡ done (with_opens t (opens_of t ++ (open_by c t f p.file ∷ []))) memory (opened_said f.full (open_by c t f p.file).fid (size_of t p.file) f.access)
  passed_is p = free-is p.passed p.shared ∙ rw (lt-leb 64 t.nopens p.room)

  pub not-shared : {file : ℕ} → OpenPermitted c t f name file → (KeptOut t file f.access f.sharing → ⊥) → status_in (do_open c t memory f name) ≡ status 1 32 → ⊥
  unfolding status
  not-shared p free e =
      elim (decided (leb 64 t.nopens)) [
        | inl h ↦ (not-both c t memory ok f name) (status 1 4) (status 1 32) (opening-given (open_full p free ((all-used c t memory ok f name) (leb-true 64 t.nopens h)))) e (λ q. omega arith)
        | inr h ↦ (not-both c t memory ok f name) (status 0 0) (status 1 32) (opening-given (open_done p free (leb-false 64 t.nopens h))) e (λ q. omega arith)
      ]

  -- "An open fails if it asks what another open of the file denies or denies what one has": an OPEN_ANDX that passes the tests before is refused 1/32 exactly if it does
  pub shared-exact : {file : ℕ} → OpenPermitted c t f name file → (status_in (do_open c t memory f name) ≡ status 1 32) ↔ KeptOut t file f.access f.sharing
  shared-exact {file} p = (
    λ e. elim (decided (any (kept_out file f.access f.sharing) (opens_of t))) [
      | inl k ↦ (kept-out-plain t file f.access f.sharing).0 k
      | inr k ↦ absurd (not-shared p (λ w. not-decided-twice (any (kept_out file f.access f.sharing) (opens_of t)) ((kept-out-plain t file f.access f.sharing).1 w) k) e)
    ],
    λ k. opening-given (open_shared p k),
  )

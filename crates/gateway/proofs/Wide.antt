-- An argument wider than its field: the call answers as for the largest number that the field holds, which is out of range too, or
-- which no record of sound tables has (document 01, "Tables and room": "numbers .. lie in 1 to 16, 1 to 32 and 1 to 64").
-- Assumes nothing.
use mathlib.Core.Path.{◌≡◌, refl, sym, ap, ◌∙◌}
use mathlib.Core.Logic.{⊎_elim}
use Prim.Native.Nat.{ℕ, min, ◌<◌}
use native.Mathlib.Omega.{arith}
use mathlib.Core.Bool.{true, false, not}
use mathlib.Core.List.{List, map}
use lib.ListN.{length, get_or}
use lib.Dec.{leb, ltb, eqb}
use borrow.Author.Tests.{eqb-true, lt-ltb, leb-true, leb-false}
use Rattle.lists.specs.Truth.{decided, fails, holds-second, both_hold}
use Rattle.lists.specs.Walk.{any, found}
use Rattle.std.specs.Prelude.{Option, Some, None}
use Rattle.lists.specs.Members.{any-one, all-each, in_map}
use Rattle.records.specs.declared.Tables.{Tables}
use Rattle.records.specs.Empty.{no_open}
use Rattle.records.specs.Held.{sessions_of, trees_of, opens_of}
use Rattle.numbers.specs.Number.{contains, numbered}
use Rattle.numbers.specs.Column.{uid_of, tid_of, fid_of}
use Rattle.soundness.specs.Sound.{sound, tree_ok}
use Rattle.soundness.specs.Lookup.{is_tree}
use Rattle.host.specs.declared.ending.One.{One}
use Rattle.host.specs.declared.ending.One.TheVariants.{Session as OneSession, Tree as OneTree, Open as OneOpen}
use Rattle.host.specs.HostCall.{add_tree, add_open, load_number, load_file, load_memory, ask_unchanged, is_there, end_one}
use Rattle.host.specs.OnWords.{load_on_words, memory_on_words}
use Rattle.invariants.specs.FoundFacts.{found-hit}
use Rattle.invariants.specs.GivenCases.{cond-case}
use Rattle.invariants.specs.Numbered.{contains-in, numbered_within}
use Rattle.invariants.specs.RuleLaws.{tree-says}
use Rattle.invariants.specs.SoundParts.{sound-says}
use Rattle.tables.specs.Words.{tables_of}

-- what is the same of every number past a limit as of the limit is the same of the number cut to it
cut : {A : Type 0} (f : ℕ → A) (limit x : ℕ) → (limit < x → f x ≡ f limit) → f x ≡ f (min x limit)
cut f limit x h =
    ⊎_elim (λ e. let small : min x limit ≡ x = (let k = leb-true x limit e in omega arith) in ap f (sym small))
    (λ e. let k : limit < x = leb-false x limit e in let large : min x limit ≡ limit = omega arith in h k ∙ ap f (sym large))
    (decided (leb x limit))

-- a number above the limit of distinct numbers is none of them
above : (limit : ℕ) (xs : List ℕ) (k : ℕ) → numbered limit xs ≡ true → limit < k → contains k xs ≡ false
above limit xs k n h = fails (contains k xs) (λ e. let w = (numbered_within limit (contains-in k xs e) n).1 in omega arith)

module _ (t : Tables) (s : sound t ≡ true) where
  no-session : (k : ℕ) → 16 < k → contains k (map uid_of (sessions_of t)) ≡ false
  no-session k h = above 16 (map uid_of (sessions_of t)) k (sound-says t s).records.uids h

  -- nor does a tree have it as its session's, or as its own
  no-tree-of : (tid k : ℕ) → 16 < k → any (is_tree tid k) (trees_of t) ≡ false
  unfolding is_tree
  no-tree-of tid k h = fails (any (is_tree tid k) (trees_of t)) λ e.
      let r = any-one (is_tree tid k) (trees_of t) e in
      let its : r.0.uid ≡ k = eqb-true r.0.uid k (both_hold (eqb r.0.tid tid) (eqb r.0.uid k) r.2).1 in
      let named = (tree-says (map uid_of (sessions_of t)) r.0 (all-each (tree_ok (map uid_of (sessions_of t))) r.1 (sound-says t s).records.trees_ok)).session in
      let within = (numbered_within 16 (contains-in r.0.uid (map uid_of (sessions_of t)) named) (sound-says t s).records.uids).1 in
      omega arith

  no-tree : (k uid : ℕ) → 32 < k → any (is_tree k uid) (trees_of t) ≡ false
  unfolding is_tree
  no-tree k uid h = fails (any (is_tree k uid) (trees_of t)) λ e.
      let r = any-one (is_tree k uid) (trees_of t) e in
      let its : r.0.tid ≡ k = eqb-true r.0.tid k (both_hold (eqb r.0.tid k) (eqb r.0.uid uid) r.2).0 in
      let within = (numbered_within 32 (in_map tid_of r.1) (sound-says t s).records.tids).1 in
      omega arith

  -- no open has it as its FID
  unnamed : (f : Option ℕ) (k : ℕ) → found (λ o. eqb o.fid k) (opens_of t) ≡ f → 64 < k → f ≡ None
  unnamed (Some j) k e h =
      let hit = found-hit (λ o. eqb o.fid k) (opens_of t) j no_open e in
      let its : (get_or (opens_of t) j no_open).fid ≡ k = eqb-true (get_or (opens_of t) j no_open).fid k hit.passes in
      let within = (numbered_within 64 (in_map fid_of hit.listed) (sound-says t s).records.fids).1 in
      absurd (let no : ⊥ = omega arith in no)
  unnamed None k e h = refl

  no-open : (k : ℕ) → 64 < k → found (λ o. eqb o.fid k) (opens_of t) ≡ None
  no-open k h = unnamed (found (λ o. eqb o.fid k) (opens_of t)) k refl h

-- ---- the calls

module _ (t : Tables) where
  -- a tree: a UID past 65,535 is 6, as 65,535 is; a right past 255 is 7, as 255 is
  tree-uid : (uid right : ℕ) → 65535 < uid → add_tree t uid right ≡ add_tree t 65535 right
  unfolding add_tree
  tree-uid uid right h =
      ⊎_elim (λ s. rw (s, no-session t s uid (omega arith), no-session t s 65535 (omega arith))) (λ e. rw e) (decided (sound t))

  tree-right : (uid right : ℕ) → 255 < right → add_tree t uid right ≡ add_tree t uid 255
  unfolding add_tree
  tree-right uid right h = rw (lt-ltb 1 right (omega arith))

  pub tree-wide : (uid right u r : ℕ) → u ≡ min uid 65535 → r ≡ min right 255 → add_tree t u r ≡ add_tree t uid right
  tree-wide uid right u r a b =
      rw (a, b)
      (sym (cut (λ x. add_tree t x right) 65535 uid (tree-uid uid right) ∙ cut (λ x. add_tree t (min uid 65535) x) 255 right (tree-right (min uid 65535) right)))

  -- an open: a UID or a TID past 65,535 is 6, as 65,535 is; a file or an access past 255 is 7, as 255 is
  module _ (process : ℕ) where
    open-uid : (uid tid file access : ℕ) → 65535 < uid → add_open t uid tid process file access ≡ add_open t 65535 tid process file access
    unfolding add_open
    open-uid uid tid file access h =
        ⊎_elim (λ s. rw (s, no-tree-of t s tid uid (omega arith), no-tree-of t s tid 65535 (omega arith))) (λ e. rw e) (decided (sound t))

    open-tid : (uid tid file access : ℕ) → 65535 < tid → add_open t uid tid process file access ≡ add_open t uid 65535 process file access
    unfolding add_open
    open-tid uid tid file access h =
        ⊎_elim (λ s. rw (s, no-tree t s tid uid (omega arith), no-tree t s 65535 uid (omega arith))) (λ e. rw e) (decided (sound t))

    open-file : (uid tid file access : ℕ) → 255 < file → add_open t uid tid process file access ≡ add_open t uid tid process 255 access
    unfolding add_open
    open-file uid tid file access h = rw (lt-ltb 15 file (omega arith))

    open-access : (uid tid file access : ℕ) → 255 < access → add_open t uid tid process file access ≡ add_open t uid tid process file 255
    unfolding add_open
    open-access uid tid file access h =
        rw (holds-second (ltb 15 file) (ltb 2 access) (lt-ltb 2 access (omega arith)), holds-second (ltb 15 file) (ltb 2 255) refl)

    pub open-wide : (uid tid file access u i f a : ℕ) → u ≡ min uid 65535 → i ≡ min tid 65535 → f ≡ min file 255 → a ≡ min access 255
        → add_open t u i process f a ≡ add_open t uid tid process file access
    open-wide uid tid file access u i f a p q r s =
        rw (p, q, r, s)
        (sym
        (cut (λ x. add_open t x tid process file access) 65535 uid (open-uid uid tid file access)
        ∙ cut (λ x. add_open t (min uid 65535) x process file access) 65535 tid (open-tid (min uid 65535) tid file access)
        ∙ cut (λ x. add_open t (min uid 65535) (min tid 65535) process x access) 255 file (open-file (min uid 65535) (min tid 65535) file access)
        ∙ cut (λ x. add_open t (min uid 65535) (min tid 65535) process (min file 255) x) 255 access (open-access (min uid 65535) (min tid 65535) (min file 255) access)))

  -- a question: a FID past 65,535 is 6, as 65,535 is
  ask-fid : (fid : ℕ) → 65535 < fid → ask_unchanged t fid ≡ ask_unchanged t 65535
  unfolding ask_unchanged
  ask-fid fid h = ⊎_elim (λ s. rw (s, no-open t s fid (omega arith), no-open t s 65535 (omega arith))) (λ e. rw e) (decided (sound t))

  pub ask-wide : (fid f : ℕ) → f ≡ min fid 65535 → ask_unchanged t f ≡ ask_unchanged t fid
  ask-wide fid f e = rw e (sym (cut (ask_unchanged t) 65535 fid (ask-fid fid)))

  -- a record ended: a number past 65,535 is 6, as 65,535 is
  one-missing : (a b : One) → (sound t ≡ true → is_there a t ≡ false) → (sound t ≡ true → is_there b t ≡ false) → end_one t a ≡ end_one t b
  unfolding end_one
  one-missing a b h k = ⊎_elim (λ s. rw (s, h s, k s)) (λ e. rw e) (decided (sound t))

  module _ (number n : ℕ) (e : n ≡ min number 65535) where
    one-wide : (f : ℕ → One) → ((k : ℕ) → 65534 < k → sound t ≡ true → is_there (f k) t ≡ false) → end_one t (f n) ≡ end_one t (f number)
    one-wide f none =
        rw e (sym (cut (λ x. end_one t (f x)) 65535 number (λ h. one-missing (f number) (f 65535) (none number (omega arith)) (none 65535 (omega arith)))))

    pub end-session-wide : end_one t (OneSession n) ≡ end_one t (OneSession number)
    unfolding is_there
    end-session-wide = one-wide OneSession (λ k h s. no-session t s k (omega arith))

    pub end-tree-wide : end_one t (OneTree n) ≡ end_one t (OneTree number)
    unfolding is_there
    end-tree-wide = one-wide OneTree (λ k h s. above 32 (map tid_of (trees_of t)) k (sound-says t s).records.tids (omega arith))

    pub end-open-wide : end_one t (OneOpen n) ≡ end_one t (OneOpen number)
    unfolding is_there
    end-open-wide = one-wide OneOpen (λ k h s. above 64 (map fid_of (opens_of t)) k (sound-says t s).records.fids (omega arith))

-- a load: a file past 255 is 7, as 255 is
module _ (t : Tables) (contents memory : List ℕ) where
  load_same : (file : ℕ) → 255 < file → load_number t file (length contents) (length memory) ≡ load_number t 255 (length contents) (length memory)
  unfolding load_number
  load_same file h = rw (lt-ltb 15 file (omega arith))

  -- and not done
  load-undone : eqb (load_number t 255 (length contents) (length memory)) 0 ≡ false
  unfolding load_number
  load-undone =
      cond-case (λ n. eqb n 0 ≡ false) (not (eqb (length memory) 65536)) 2 _ (λ _. refl)
      λ _. cond-case (λ n. eqb n 0 ≡ false) (not (sound t)) 4 7 (λ _. refl) (λ _. refl)

  load-file : (file : ℕ) → 255 < file → load_file t file contents memory ≡ load_file t 255 contents memory
  unfolding load_file
  load-file file h = rw (load_same file h, load-undone)

  load-memory : (file : ℕ) → 255 < file → load_memory t file contents memory ≡ load_memory t 255 contents memory
  unfolding load_memory
  load-memory file h = rw (load_same file h, load-undone)

module _ (w contents memory : List ℕ) (file f : ℕ) (e : f ≡ min file 255) where
  pub load-wide : load_on_words w f contents memory ≡ load_on_words w file contents memory
  unfolding load_on_words
  load-wide = rw (e, sym (cut (λ x. load_file (tables_of w) x contents memory) 255 file (load-file (tables_of w) contents memory file)))

  pub memory-wide : memory_on_words w f contents memory ≡ memory_on_words w file contents memory
  unfolding memory_on_words
  memory-wide = rw (e, sym (cut (λ x. load_memory (tables_of w) x contents memory) 255 file (load-memory (tables_of w) contents memory file)))

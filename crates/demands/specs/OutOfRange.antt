-- Numbers that the host hands over in 32 bits, past what document 01 lists ("What a call returns", 7 and 6; "Tables and room":
-- "numbers .. lie in 1 to 16, 1 to 32 and 1 to 64"): a right of 256 is 7 and not 0, a UID, TID or FID of 65,537 is 6 and not 1; and a catalogue handed over in words
-- (document 02, CR 6): a length of 257 is 7 and not 1. On words that are ready. Assumes nothing.
use Rattle.std.specs.Prelude.{◌≡◌, refl, ◌⊎◌, ℕ, zero, suc, ◌+◌, ◌*◌, ◌≤◌, ◌<◌, Bool, true, false, length, drop}
use Rattle.std.proofs.Common.{ap, ◌∙◌, get_or-take, get_or-drop}
use Rattle.std.proofs.Math.Logic.{inl, inr, ⊎_elim}
use native.Mathlib.Omega.{arith}
use Rattle.std.proofs.Math.Decide.{ℕ_discrete}
use mathlib.Core.List.{List, map, Memᴰ as In}
use Rattle.std.proofs.Math.Dec.{leb, eqb}
use borrow.Author.Tests.{eq-eqb, eqb-true, leb-true, leb-false}
use Rattle.lists.specs.Walk.{all}
use Rattle.lists.specs.Truth.{decided, both_hold, fails, not-decided-twice}
use Rattle.lists.specs.Members.{in_map, all-each}
use Rattle.lists.specs.PairLaws.{place_in}
use Rattle.records.specs.declared.Open.{Open}
use Rattle.records.specs.declared.Tables.{Tables}
use Rattle.records.specs.Held.{sessions_of, trees_of, opens_of}
use Rattle.numbers.specs.Number.{numbered}
use Rattle.numbers.specs.Column.{uid_of, tid_of, fid_of}
use Rattle.soundness.specs.Sound.{sound}
use Rattle.host.specs.declared.ending.One.TheVariants.{Session as OneSession, Tree as OneTree, Open as OneOpen}
use Rattle.host.specs.declared.answer.Returned.{Returned}
use Rattle.invariants.specs.Numbered.{numbered_within}
use Rattle.invariants.specs.SoundParts.{sound-says}
use Rattle.claims.proofs.SoundPlain.{sound-plain}
use Rattle.claims.specs.AskUnchanged.{ask-unknown, ask-given}
use Rattle.claims.specs.EndOne.{InUse, end-unknown, end_one-given}
use Rattle.claims.specs.HostReasons.{HasSession, HasTree, tree-range, tree-nobody, open-range, open-nowhere, load-range, add_tree-given, add_open-given, load_file-given}
use Rattle.tables.specs.Words.{word, record_at, name_limits, within, records_fit, in_use, table_fits, in_use_fit, tables_of}
use Rattle.tables.specs.RecordLaws.{within-holds, within-told, within-each, each_within}
use Rattle.tables.specs.FitLaws.{all-up_to, up_to-all}
use Rattle.boundary.specs.Boundary.{ready, number_of, tree_added, open_added, file_loaded, load_number_of, unchanged_asked, one_ended}

-- ---- sound tables have no number past the limits

-- distinct numbers up to a limit: none above it is among them
none_within : (limit : ℕ) (xs : List ℕ) (k : ℕ) → numbered limit xs ≡ true → limit < k → In k xs → ⊥
none_within limit xs k n a m = let few = (numbered_within limit m n).1 in omega arith

module _ (t : Tables) (s : sound t ≡ true) where
  no-session : (uid : ℕ) → 16 < uid → HasSession t uid → ⊥
  unfolding HasSession
  no-session uid h (u, m, e) = let most = (numbered_within 16 (in_map uid_of m) (sound-says t s).records.uids).1 in omega arith

  no-tree : (tid uid : ℕ) → (16 < uid) ⊎ (32 < tid) → HasTree t tid uid → ⊥
  unfolding HasTree
  no-tree tid uid h (r, m, i, u) =
      let its = ((sound-plain t).0 s).tree-session r m in
      let few = (numbered_within 16 (in_map uid_of its.1) (sound-says t s).records.uids).1 in
      let most = (numbered_within 32 (in_map tid_of m) (sound-says t s).records.tids).1 in
      let same = its.2 in
      ⊎_elim (λ a. omega arith) (λ a. omega arith) h

  no-open : (fid : ℕ) → 64 < fid → (o : Open) → In o (opens_of t) → o.fid ≡ fid → ⊥
  no-open fid h o m e = let most = (numbered_within 64 (in_map fid_of m) (sound-says t s).records.fids).1 in omega arith

-- ---- the calls

module _ (w : List ℕ) (h : ready w ≡ true) where
  pub ready-says : (in_use_fit w ≡ true) × (sound (tables_of w) ≡ true)
  unfolding ready
  ready-says = both_hold (in_use_fit w) (sound (tables_of w)) h

  pub core-number : (a : Returned) {n : ℕ} → a.number ≡ n → number_of w a ≡ n
  unfolding number_of
  core-number a e = rw ready-says.0 e

  -- `gateway_add_tree`: "right above 1"; "no such session"
  pub tree-right-range : (uid right : ℕ) → 1 < right → number_of w (tree_added w uid right) ≡ 7
  unfolding tree_added
  tree-right-range uid right a = core-number _ (add_tree-given (tables_of w) uid right (tree-range ready-says.1 a))

  pub tree-uid-range : (uid right : ℕ) → right ≤ 1 → 16 < uid → number_of w (tree_added w uid right) ≡ 6
  unfolding tree_added
  tree-uid-range uid right a b =
      core-number _ (add_tree-given (tables_of w) uid right (tree-nobody ready-says.1 a (no-session (tables_of w) ready-says.1 uid b)))

  -- `gateway_add_open`: "file above 15, access above 2"; "no such session, or no such tree of that session"
  module _ (uid tid process file access : ℕ) where
    pub open-file-range : (15 < file) ⊎ (2 < access) → number_of w (open_added w uid tid process file access) ≡ 7
    unfolding open_added
    open-file-range a = core-number _ (add_open-given (tables_of w) uid tid process file access (open-range ready-says.1 a))

    pub open-number-range : file ≤ 15 → access ≤ 2 → (16 < uid) ⊎ (32 < tid) → number_of w (open_added w uid tid process file access) ≡ 6
    unfolding open_added
    open-number-range a b c =
        core-number _
        (add_open-given (tables_of w) uid tid process file access (open-nowhere ready-says.1 a b (no-tree (tables_of w) ready-says.1 tid uid c)))

  -- `gateway_load_file`: "file above 15"
  pub load-file-range : (file : ℕ) (contents memory : List ℕ) → length memory ≡ 65536 → 15 < file → load_number_of w file contents memory ≡ 7
  unfolding load_number_of file_loaded
  load-file-range file contents memory e a =
      rw (eq-eqb (length memory) 65536 e)
      (core-number _ (load_file-given (tables_of w) file contents memory (load-range e ready-says.1 (inl a))))

  -- `gateway_unchanged`: "6 for an unknown FID", which a number that no FID can be is too
  pub unchanged-fid-range : (fid : ℕ) → 64 < fid → number_of w (unchanged_asked w fid) ≡ 6
  unfolding unchanged_asked
  unchanged-fid-range fid a =
      core-number _
      (ask-given (tables_of w) fid
      (ask-unknown ready-says.1 (no-open (tables_of w) ready-says.1 fid a)))

  -- `gateway_end_session`, `gateway_end_tree`, `gateway_end_open`: 6 for a number that no record has, which one past its range is too
  pub end-session-range : (uid : ℕ) → 16 < uid → number_of w (one_ended w (OneSession uid)) ≡ 6
  unfolding one_ended InUse
  end-session-range uid a =
      core-number _
      (end_one-given (tables_of w) (OneSession uid)
      (end-unknown ready-says.1 (none_within 16 (map uid_of (sessions_of (tables_of w))) uid (sound-says (tables_of w) ready-says.1).records.uids a)))

  pub end-tree-range : (tid : ℕ) → 32 < tid → number_of w (one_ended w (OneTree tid)) ≡ 6
  unfolding one_ended InUse
  end-tree-range tid a =
      core-number _
      (end_one-given (tables_of w) (OneTree tid)
      (end-unknown ready-says.1 (none_within 32 (map tid_of (trees_of (tables_of w))) tid (sound-says (tables_of w) ready-says.1).records.tids a)))

  pub end-open-range : (fid : ℕ) → 64 < fid → number_of w (one_ended w (OneOpen fid)) ≡ 6
  unfolding one_ended InUse
  end-open-range fid a =
      core-number _
      (end_one-given (tables_of w) (OneOpen fid)
      (end-unknown ready-says.1 (none_within 64 (map fid_of (opens_of (tables_of w))) fid (sound-says (tables_of w) ready-says.1).records.fids a)))

-- ---- `gateway_set_catalogue`

-- the words given are no catalogue: a word of a name in use (its length, one of its 12 places for bytes, its file) is no byte
pub record NoByte (given : List ℕ) : Type 0 where
  pub place : ℕ
  pub used : place < word given 0
  pub in-room : place < 16
  pub field : ℕ
  pub of-name : field < 14
  pub too_large : 255 < word given (1 + 14 * place + field)

-- all pass below a number, or one fails
all-or-one : (p : ℕ → Bool) (n : ℕ) → ((i : ℕ) → i < n → p i ≡ true) ⊎ ((i : ℕ) × (i < n) × (p i ≡ false))
all-or-one p zero = inl (λ i h. absurd (let z : ⊥ = omega arith in z))
all-or-one p (suc n) =
    elim (all-or-one p n) [
      | inr one ↦ let h : one.0 < n = one.1 in inr (one.0, (let k : one.0 < suc n = omega arith in k), one.2)
      | inl below ↦
          elim (decided (p n)) [
            | inr e ↦ inr (n, (let k : n < suc n = omega arith in k), e)
            | inl e ↦
                inl λ i h.
                elim (ℕ_discrete i n) [
                  | yes same ↦ ap p same ∙ e
                  | no other ↦ let k : i < n = omega arith in below i k
                ]
          ]
    ]

module _ (given : List ℕ) where
  name-word : (i j : ℕ) → j < 14 → word (record_at 14 given i) j ≡ word given (1 + 14 * i + j)
  name-word i j h = get_or-take 14 (drop (1 + 14 * i) given) j 0 h ∙ get_or-drop (1 + 14 * i) given j 0

  name-limit : (j : ℕ) → j < 14 → word name_limits j ≡ 255
  unfolding all
  name-limit j h = eqb-true (word name_limits j) 255 (all-each (λ x. eqb x 255) (place_in 0 name_limits j h) refl)

  -- a word that is no byte does not fit
  pub no-byte-unfit : NoByte given → table_fits name_limits 16 given ≡ false
  unfolding records_fit
  no-byte-unfit b =
      fails (table_fits name_limits 16 given) λ e.
      let h = b.used in
      let k = b.in-room in
      let i : b.place < in_use given 16 = omega arith in
      let one = up_to-all (within name_limits) (record_at 14 given) (in_use given 16) b.place e i in
      let low = each_within name_limits (record_at 14 given b.place) (within-told name_limits (record_at 14 given b.place) one) b.field b.of-name in
      let its = name-word b.place b.field b.of-name in
      let limit = name-limit b.field b.of-name in
      let high = b.too_large in
      let z : ⊥ = omega arith in
      z

  -- and where they do not fit, there is one
  pub unfit-no-byte : table_fits name_limits 16 given ≡ false → NoByte given
  unfolding records_fit
  unfit-no-byte e =
      elim (all-or-one (λ i. within name_limits (record_at 14 given i)) (in_use given 16)) [
        | inl each ↦ absurd (not-decided-twice (table_fits name_limits 16 given) (all-up_to (within name_limits) (record_at 14 given) (in_use given 16) each) e)
        | inr one ↦
            let i = one.0 in
            let h : i < in_use given 16 = one.1 in
            elim (all-or-one (λ j. leb (word given (1 + 14 * i + j)) 255) 14) [
              | inl each ↦
                  absurd
                  (not-decided-twice (within name_limits (record_at 14 given i))
                  (within-holds name_limits (record_at 14 given i)
                  (within-each name_limits (record_at 14 given i) λ j few.
                  let low = leb-true (word given (1 + 14 * i + j)) 255 (each j few) in
                  let its = name-word i j few in
                  let limit = name-limit j few in
                  let fit : word (record_at 14 given i) j ≤ word name_limits j = omega arith in
                  fit))
                  one.2)
              | inr high ↦
                  record {
                    place = i;
                    used = omega arith;
                    in-room = omega arith;
                    field = high.0;
                    of-name = high.1;
                    too_large = leb-false (word given (1 + 14 * i + high.0)) 255 high.2;
                  }
            ]
      ]

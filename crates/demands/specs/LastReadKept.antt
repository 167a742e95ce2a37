-- What an open remembers and what a history tells of its last granted READ agree (document 02, CR 8): of every open that has read, after every call. Assumes nothing.
use Rattle.std.specs.Prelude.{◌≡◌, ◌⊎◌, ℕ, ◌+◌, ◌*◌, ◌≤◌, ◌<◌, cond, ◌||◌, length, get_or, None, Some}
use Rattle.std.proofs.Math.Path.{refl, sym, ap, subst}
use Rattle.std.proofs.Common.{◌∙◌, inl, inr, arith}
use Rattle.std.proofs.Math.Decide.{ℕ_discrete, dec_lt}
use Rattle.std.proofs.Math.Bool.{true, false}
use mathlib.Core.List.Memᴰ.{cases_cons as first-or-later}
use mathlib.Core.List.Memᴰ.{head as here}
use mathlib.Core.List.Memᴰ.{tail as there}
use mathlib.Core.List.{List, [], ◌∷◌, ◌++◌, Memᴰ as In}
use Rattle.std.proofs.Math.Dec.{eqb}
use borrow.Author.Tests.{eq-eqb, ne_eqb}
use Rattle.lists.specs.Truth.{not-decided-twice}
use Rattle.records.specs.declared.Open.{Open}
use Rattle.records.specs.declared.File.{File}
use Rattle.records.specs.declared.Tables.{Tables}
use Rattle.records.specs.Change.{LARGEST, raised, changes_of, open_after, noting, with_read}
use Rattle.records.specs.Empty.{no_file}
use Rattle.records.specs.Held.{opens_of, with_opens}
use Rattle.numbers.specs.Column.{fid_of}
use Rattle.soundness.specs.File.{file_of}
use Rattle.invariants.specs.Numbered.{numbered-same}
use Rattle.invariants.specs.Sound.{Good, changes-most, size-most}
use Rattle.invariants.specs.SoundParts.{sound-says}
use Rattle.claims.specs.SoundPlain.{file_of-one}
use Rattle.claims.proofs.SoundPlain.{sound-plain}
use Rattle.message.specs.Contents.{size_of, contents}
use Rattle.demands.specs.FileBytes.{contents-same, file-inside}
use Rattle.demands.specs.LastRead.{LastRead, Reads, was_read, was-changed, was-opened, read_now, changed_in, after_event}

-- an open's record beside its last granted READ: not changed since, it has the file's number, and the file its size and bytes; changed since, its number is below the file's, or
-- that is the largest
pub record Agrees (t : Tables) (memory : List ℕ) (o : Open) (r : LastRead) : Type 0 where
  pub its-file : r.file ≡ o.file
  pub fresh : r.changed ≡ false → (o.seen ≡ changes_of t o.file) × (r.size ≡ size_of t o.file) × (r.bytes ≡ contents t memory o.file)
  pub stale : r.changed ≡ true → (o.seen < changes_of t o.file) ⊎ (changes_of t o.file ≡ LARGEST)

-- of every open: one that has read agrees with its last granted READ, and of one that has not the history tells none
pub record Kept (t : Tables) (memory : List ℕ) (reads : Reads) : Type 0 where
  pub each : (o : Open) → In o (opens_of t) → o.read ≡ true → (r : LastRead) × (reads o.fid ≡ Some r) × Agrees t memory o r
  pub unread : (o : Open) → In o (opens_of t) → o.read ≡ false → reads o.fid ≡ None

-- ---- the opens, no more than before

agrees-files : {t u : Tables} {memory : List ℕ} {o : Open} {r : LastRead} → u.files ≡ t.files → Agrees t memory o r → Agrees u memory o r
unfolding changes_of size_of contents
agrees-files e a = record { its-file = a.its-file; fresh = rw e a.fresh; stale = rw e a.stale }

pub fewer-kept : {t u : Tables} {memory : List ℕ} {reads : Reads} → u.files ≡ t.files → ((o : Open) → In o (opens_of u) → In o (opens_of t)) → Kept t memory reads → Kept u memory reads
fewer-kept e old k =
    record { each = λ o m h. let w = k.each o (old o m) h in (w.0, w.1, agrees-files e w.2); unread = λ o m h. k.unread o (old o m) h }

-- ---- one more, which has not read

pub snoc-or : {A : Type 0} (x : A) (xs : List A) {o : A} → In o (xs ++ (x ∷ [])) → (In o xs) ⊎ (o ≡ x)
snoc-or x [] m = elim (first-or-later m) [ inl e ↦ inr e | inr n ↦ elim n [ ] ]
snoc-or x (y ∷ ys) m =
    elim (first-or-later m) [
      | inl e ↦ inl (here e)
      | inr n ↦ elim (snoc-or x ys n) [ inl i ↦ inl (there i) | inr e ↦ inr e ]
    ]

pub opened-kept : {t u : Tables} {memory : List ℕ} {reads : Reads} (x : Open) → u.files ≡ t.files → opens_of u ≡ opens_of t ++ (x ∷ []) → x.read ≡ false
    → ((o : Open) → In o (opens_of t) → o.fid ≡ x.fid → ⊥) → Kept t memory reads → Kept u memory (after_event (was-opened x.fid) t memory reads)
unfolding after_event
opened-kept {t} {u} {memory} {reads} x e more not-read new k = record { each = one; unread = none_told }
  where
    old : (o : Open) → o.read ≡ true → In o (opens_of t) → (r : LastRead) × (cond (eqb o.fid x.fid) None (reads o.fid) ≡ Some r) × Agrees u memory o r
    old o h m = let w = k.each o m h in (w.0, rw (ne_eqb o.fid x.fid (new o m)) w.1, agrees-files e w.2)

    one : (o : Open) → In o (opens_of u) → o.read ≡ true → (r : LastRead) × (cond (eqb o.fid x.fid) None (reads o.fid) ≡ Some r) × Agrees u memory o r
    one o m h =
        elim (snoc-or x (opens_of t) (rw more at m)) [
          | inl i ↦ old o h i
          | inr q ↦ absurd (not-decided-twice o.read h (ap (λ (y : Open). y.read) q ∙ not-read))
        ]

    none_told : (o : Open) → In o (opens_of u) → o.read ≡ false → cond (eqb o.fid x.fid) None (reads o.fid) ≡ None
    none_told o m h =
        elim (snoc-or x (opens_of t) (rw more at m)) [
          | inl i ↦ rw (ne_eqb o.fid x.fid (new o i)) (k.unread o i h)
          | inr q ↦ rw (eq-eqb o.fid x.fid (ap (λ (y : Open). y.fid) q))
        ]

-- ---- a file changed

module _ (t u : Tables) (memory left : List ℕ) (file : ℕ) (g : Good t) (opens : opens_of u ≡ opens_of t) (number : changes_of u file ≡ raised (changes_of t file))
    (others : (i : ℕ) → (i ≡ file → ⊥) → get_or u.files i no_file ≡ get_or t.files i no_file)
    (stand : (x : ℕ) → x ≤ 15 → (x ≡ file → ⊥) → contents u left x ≡ contents t memory x) where
  raised-past : (seen : ℕ) → seen ≤ changes_of t file → (seen < changes_of u file) ⊎ (changes_of u file ≡ LARGEST)
  raised-past seen low =
      let most = changes-most t file (sound-says t g.sound) in
      elim (dec_lt (changes_of t file) LARGEST) [
        | yes h ↦ inl (let n = number in omega arith)
        | no h ↦ inr (let n = number in omega arith)
      ]

  changed-agrees : (o : Open) → In o (opens_of t) → (r : LastRead) → Agrees t memory o r
      → Agrees u left o (record { file = r.file; size = r.size; bytes = r.bytes; changed = eqb r.file file || r.changed })
  unfolding changes_of size_of
  changed-agrees o m r a =
      let p = (sound-plain t).0 g.sound in
      elim (ℕ_discrete r.file file) [
        | yes e ↦
            let same : o.file ≡ file = sym a.its-file ∙ e in
            let low : o.seen ≤ (get_or t.files file no_file).changes = rw same at (p.seen o m) in
            rw (eq-eqb r.file file e)
            (record { its-file = a.its-file; fresh = λ q. absurd (not-decided-twice true refl q); stale = λ q. rw same (raised-past o.seen low) })
        | no n ↦
            let apart : o.file ≡ file → ⊥ = λ e. n (a.its-file ∙ e) in
            let stands = stand o.file (p.files o m) apart in
            rw (ne_eqb r.file file n)
            (record {
              its-file = a.its-file;
              fresh = λ q. let f = a.fresh q in
                  (f.0 ∙ sym (ap (λ (x : File). x.changes) (others o.file apart)), f.1 ∙ sym (ap (λ (x : File). x.size) (others o.file apart)), f.2 ∙ sym stands);
              stale = λ q.
                  let same : changes_of u o.file ≡ changes_of t o.file = ap (λ (x : File). x.changes) (others o.file apart) in
                  subst (λ (n : ℕ). (o.seen < n) ⊎ (n ≡ LARGEST)) (sym same) (a.stale q);
            })
      ]

  pub changed-kept : {reads : Reads} → Kept t memory reads → Kept u left (after_event (was-changed file) t memory reads)
  unfolding after_event changed_in
  changed-kept k =
      record {
        each = λ o m h.
            let listed = rw opens at m in
            let w = k.each o listed h in
            (record { file = w.0.file; size = w.0.size; bytes = w.0.bytes; changed = eqb w.0.file file || w.0.changed }, ap (changed_in file) w.1, changed-agrees o listed w.0 w.2);
        unread = λ o m h. ap (changed_in file) (k.unread o (rw opens at m) h);
      }

-- the other files' contents, where their sizes and bytes are as they were
pub others-contents : (t u : Tables) (memory left : List ℕ) (file : ℕ) → Good t → length memory ≡ 65536 → length left ≡ length memory
    → ((i : ℕ) → (i ≡ file → ⊥) → get_or u.files i no_file ≡ get_or t.files i no_file)
    → ((x i : ℕ) → (x ≡ file → ⊥) → i < 4096 → get_or left (x * 4096 + i) 0 ≡ get_or memory (x * 4096 + i) 0)
    → (x : ℕ) → x ≤ 15 → (x ≡ file → ⊥) → contents u left x ≡ contents t memory x
unfolding size_of
others-contents t u memory left file g full long others bytes x low different =
    let most : size_of t x ≤ 4096 = size-most t x (sound-says t g.sound) in
    contents-same t u memory left x (file-inside t memory x g.sound full low) long (ap (λ (f : File). f.size) (others x different)) (λ i few. bytes x i different (omega arith))

-- ---- an open that has read

module _ (t : Tables) (memory : List ℕ) (g : Good t) (through : Open) (listed : In through (opens_of t)) where
  abbrev pub fid : ℕ
  fid = through.fid

  abbrev pub after : Tables
  after = with_read t through.fid (changes_of t through.file)

  -- the open that has read is the one it was granted through
  same-one : (o : Open) → In o (opens_of t) → o.fid ≡ through.fid → o ≡ through
  same-one o m e = numbered-same fid_of 64 (opens_of t) (sound-says t g.sound).records.fids m listed e

  now : Agrees after memory (open_after through (changes_of t through.file)) (read_now t memory (file_of (opens_of t) through.fid))
  unfolding read_now with_opens changes_of size_of contents
  now =
      let its = file_of-one 64 (opens_of t) (sound-says t g.sound).records.fids listed in
      record {
        its-file = its;
        fresh = λ _. (refl, ap (λ (x : ℕ). (get_or t.files x no_file).size) its, ap (λ (x : ℕ). contents t memory x) its);
        stale = λ q. absurd (not-decided-twice false q refl);
      }

  pub noted-kept : {reads : Reads} → Kept t memory reads → (o : Open) → In o (opens_of t) → (noting through.fid (changes_of t through.file) o).read ≡ true
      → (r : LastRead) × (after_event (was_read through.fid) t memory reads (noting through.fid (changes_of t through.file) o).fid ≡ Some r)
      × Agrees after memory (noting through.fid (changes_of t through.file) o) r
  unfolding after_event noting with_opens
  noted-kept {reads} k o m h =
      elim (ℕ_discrete o.fid through.fid) [
        | yes e ↦
            let same = same-one o m e in
            rw (same, eq-eqb through.fid through.fid refl, eq-eqb through.fid through.fid refl) (read_now t memory (file_of (opens_of t) through.fid), refl, now)
        | no n ↦
            let read : o.read ≡ true = rw (ne_eqb o.fid through.fid n) at h in
            let w = k.each o m read in
            rw (ne_eqb o.fid through.fid n, ne_eqb o.fid through.fid n) (w.0, w.1, agrees-files refl w.2)
      ]

  pub noted-unread : {reads : Reads} → Kept t memory reads → (o : Open) → In o (opens_of t) → (noting through.fid (changes_of t through.file) o).read ≡ false
      → after_event (was_read through.fid) t memory reads (noting through.fid (changes_of t through.file) o).fid ≡ None
  unfolding after_event noting
  noted-unread {reads} k o m h =
      elim (ℕ_discrete o.fid through.fid) [
        | yes e ↦ absurd (not-decided-twice true refl (rw (eq-eqb o.fid through.fid e) at h))
        | no n ↦
            let unread : o.read ≡ false = rw (ne_eqb o.fid through.fid n) at h in
            rw (ne_eqb o.fid through.fid n, ne_eqb o.fid through.fid n) (k.unread o m unread)
      ]

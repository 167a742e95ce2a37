-- What a write does to each byte of the file memory and to the file's size, what stands where a file grows, and which bytes a read yields (document 01, "Locks,
-- reads and writes"; document 02, CR 3).
-- Assumes nothing.
use Rattle.std.specs.Prelude.{◌≡◌, ◌⊎◌, true, List, ℕ, min, max, ◌+◌, ◌-◌, ◌*◌, ◌≤◌, ◌<◌, drop, get_or, replicate, ltb}
use Rattle.std.proofs.Math.Path.{refl, sym, ap}
use Rattle.std.proofs.Common.{◌∙◌, inl, inr, length-take-le, get_or-take, get_or-drop, ext_get_or, ltb-true, ltb-false, eq-eqb, ne_eqb}
use Rattle.std.proofs.Math.ListN.{length, length-take, length-drop}
use Rattle.std.proofs.lemmas.List.{length-replicate, get_or-replicate}
use Rattle.std.proofs.Math.Seq.{get_or-set_same, get_or-set_other}
use Rattle.std.proofs.Math.Decide.{ℕ_discrete}
use native.Mathlib.Omega.{arith}
use Rattle.lists.specs.Truth.{decided}
use Rattle.lists.specs.Put.{put}
use Rattle.lists.specs.PutLaws.{length-put, put_front, put-inside, put-behind}
use Rattle.records.specs.Change.{raised, changes_of, file_after, with_change}
use Rattle.records.specs.Empty.{no_file}
use Rattle.records.specs.declared.File.{File}
use Rattle.records.specs.declared.Tables.{Tables}
use Rattle.records.specs.Held.{with_files}
use Rattle.soundness.specs.Sound.{sound}
use Rattle.invariants.specs.SoundParts.{sound-says}
use Rattle.invariants.specs.Shaped.{Shaped}
use Rattle.message.specs.Contents.{size_of, contents, read_bytes, grown, written, resized, sized_to}
use Rattle.invariants.specs.Sound.{size-most}

-- ---- the bytes of a file

-- a byte of a file is the memory's
pub contents-byte : (t : Tables) (memory : List ℕ) (file i : ℕ) → i < size_of t file → get_or (contents t memory file) i 0 ≡ get_or memory (file * 4096 + i) 0
unfolding contents
contents-byte t memory file i inside = get_or-take (size_of t file) (drop (file * 4096) memory) i 0 inside ∙ get_or-drop (file * 4096) memory i 0

-- a byte of a read is one of the file's
pub read-contents : (t : Tables) (memory : List ℕ) (file offset most i : ℕ) → i < most → get_or (read_bytes t memory file offset most) i 0 ≡ get_or (contents t memory file) (offset + i) 0
unfolding read_bytes
read-contents t memory file offset most i few =
    get_or-take most (drop offset (contents t memory file)) i 0 few ∙ get_or-drop offset (contents t memory file) i 0

-- all the bytes below the size are there
pub contents-length : (t : Tables) (memory : List ℕ) (file : ℕ) → file * 4096 + size_of t file ≤ length memory → length (contents t memory file) ≡ size_of t file
unfolding contents
contents-length t memory file inside =
    length-take-le (size_of t file) (drop (file * 4096) memory) (rw (length-drop (file * 4096) memory) (omega arith))

-- a file of the same size with the same bytes is the same
pub contents-same : (t u : Tables) (memory other : List ℕ) (file : ℕ) → file * 4096 + size_of t file ≤ length memory → length other ≡ length memory → size_of u file ≡ size_of t file
    → ((i : ℕ) → i < size_of t file → get_or other (file * 4096 + i) 0 ≡ get_or memory (file * 4096 + i) 0) → contents u other file ≡ contents t memory file
contents-same t u memory other file inside long size bytes =
    let a = contents-length t memory file inside in
    let within : file * 4096 + size_of u file ≤ length other = omega arith in
    let b = contents-length u other file within in
    ext_get_or 0 (contents u other file) (contents t memory file) (b ∙ size ∙ sym a)
    (λ i h. let few : i < size_of u file = omega arith in
    let few' : i < size_of t file = omega arith in
    contents-byte u other file i few ∙ bytes i few' ∙ sym (contents-byte t memory file i few'))

-- a file of sound tables lies in the file memory
pub file-inside : (t : Tables) (memory : List ℕ) (file : ℕ) → sound t ≡ true → length memory ≡ 65536 → file ≤ 15 → file * 4096 + size_of t file ≤ length memory
file-inside t memory file ok full low = let most = size-most t file (sound-says t ok) in omega arith

-- another file's bytes lie in front of a file's 4,096 or behind them
pub beside : (other file i : ℕ) → (other ≡ file → ⊥) → i < 4096 → (other * 4096 + i < file * 4096) ⊎ (file * 4096 + 4096 ≤ other * 4096 + i)
beside other file i different h =
    elim (decided (ltb other file)) [
      | inl e ↦ let l : other < file = ltb-true other file e in inl (omega arith)
      | inr e ↦ elim (decided (ltb file other)) [
        | inl f ↦ let l : file < other = ltb-true file other f in inr (omega arith)
        | inr f ↦ let l : file ≤ other = ltb-false other file e in
            let m : other ≤ file = ltb-false file other f in
            let same : other ≡ file = omega arith in
            absurd (different same)
      ]
    ]

-- ---- zeros where a file grows, and a write

-- the file memory with 0 from the file's size z up to its new end, where that lies further on: every other byte, of that file and of the others, as it was
pub record Grew (file z end : ℕ) (memory after : List ℕ) : Type 0 where
  pub same_length : length after ≡ length memory
  pub the-zeros : (k : ℕ) → file * 4096 + z ≤ k → k < file * 4096 + end → get_or after k 0 ≡ 0
  pub in-front : (k : ℕ) → k < file * 4096 + z → get_or after k 0 ≡ get_or memory k 0
  pub behind : (k : ℕ) → file * 4096 + end ≤ k → get_or after k 0 ≡ get_or memory k 0
  pub other-files : (other i : ℕ) → (other ≡ file → ⊥) → i < 4096 → get_or after (other * 4096 + i) 0 ≡ get_or memory (other * 4096 + i) 0

-- the file memory after a write of those bytes at the offset, the file's size having been z: the bytes, zeros "between the old size and the write", and every
-- other byte, of that file and of the others, as it was
pub record Wrote (file z offset : ℕ) (bytes memory after : List ℕ) : Type 0 where
  pub same_length : length after ≡ length memory
  pub the-bytes : (i : ℕ) → i < length bytes → get_or after (file * 4096 + offset + i) 0 ≡ get_or bytes i 0
  pub the-zeros : (k : ℕ) → file * 4096 + z ≤ k → k < file * 4096 + offset → get_or after k 0 ≡ 0
  pub in-front : (k : ℕ) → k < file * 4096 + z → k < file * 4096 + offset → get_or after k 0 ≡ get_or memory k 0
  pub behind : (k : ℕ) → file * 4096 + offset + length bytes ≤ k → get_or after k 0 ≡ get_or memory k 0
  pub other-files : (other i : ℕ) → (other ≡ file → ⊥) → i < 4096 → get_or after (other * 4096 + i) 0 ≡ get_or memory (other * 4096 + i) 0

module _ (t : Tables) (memory : List ℕ) (file offset : ℕ) (ok : sound t ≡ true) (full : length memory ≡ 65536) (low : file ≤ 15) where
  most : size_of t file ≤ 4096
  most = size-most t file (sound-says t ok)

  -- the zeros up to the offset
  abbrev pub zeros : List ℕ
  zeros = replicate (offset - size_of t file) 0

  module _ (within : offset ≤ 4096) where
    long-zeros : length zeros ≡ offset - size_of t file
    long-zeros = length-replicate (offset - size_of t file) 0

    zeros-fit : file * 4096 + size_of t file + length zeros ≤ length memory
    zeros-fit = let a = most in let b = long-zeros in omega arith

    -- where zeros were put
    grown-zero : (k : ℕ) → file * 4096 + size_of t file ≤ k → k < file * 4096 + offset → get_or (grown t memory file offset) k 0 ≡ 0
    grown-zero k h l =
        let place : k ≡ file * 4096 + size_of t file + (k - (file * 4096 + size_of t file)) = omega arith in
        let n = long-zeros in
        let inside : k - (file * 4096 + size_of t file) < length zeros = omega arith in
        let inside' : k - (file * 4096 + size_of t file) < offset - size_of t file = omega arith in
        ap (λ (j : ℕ). get_or (grown t memory file offset) j 0) place
        ∙ put-inside memory zeros (file * 4096 + size_of t file) zeros-fit (k - (file * 4096 + size_of t file)) 0 inside
        ∙ get_or-replicate (offset - size_of t file) (k - (file * 4096 + size_of t file)) 0 0 inside'

    -- in front of them
    grown-front : (k : ℕ) → k < file * 4096 + size_of t file → get_or (grown t memory file offset) k 0 ≡ get_or memory k 0
    grown-front k h = put_front memory zeros (file * 4096 + size_of t file) zeros-fit k 0 h

    -- behind them, and where there are none
    grown-behind : (k : ℕ) → file * 4096 + offset ≤ k → get_or (grown t memory file offset) k 0 ≡ get_or memory k 0
    grown-behind k h =
        elim (decided (ltb k (file * 4096 + size_of t file))) [
          | inl e ↦ grown-front k (ltb-true k (file * 4096 + size_of t file) e)
          | inr e ↦
              let above : file * 4096 + size_of t file ≤ k = ltb-false k (file * 4096 + size_of t file) e in
              let n = long-zeros in
              put-behind memory zeros (file * 4096 + size_of t file) zeros-fit k 0 (let m : file * 4096 + size_of t file + length zeros ≤ k = omega arith in m)
        ]

    -- document 02, CR 3: "with zeros where it grows"
    pub grown-bytes : Grew file (size_of t file) offset memory (grown t memory file offset)
    grown-bytes =
        record {
          same_length = length-put memory zeros (file * 4096 + size_of t file) zeros-fit;
          the-zeros = grown-zero;
          in-front = grown-front;
          behind = grown-behind;
          other-files = λ other i different h.
              let s = most in
              elim (beside other file i different h) [
                | inl l ↦ grown-front (other * 4096 + i) (omega arith)
                | inr l ↦ grown-behind (other * 4096 + i) (omega arith)
              ];
        }

  module _ (bytes : List ℕ) (some_bytes : 1 ≤ length bytes) (fits : offset + length bytes ≤ 4096) where
    pub written-put : written t memory file offset bytes ≡ put (grown t memory file offset) (file * 4096 + offset) bytes
    unfolding written
    written-put = rw (ne_eqb (length bytes) 0 (λ e. omega arith))

  -- ---- a read

  -- "It yields the file's bytes in the range below its size": so many, none from the size on
  pub read_length : (most : ℕ) → length (read_bytes t memory file offset most) ≡ min most (size_of t file - offset)
  unfolding read_bytes contents
  read_length m =
      let s = most in
      rw (length-take, length-drop, length-take, length-drop) (omega arith)

  -- and byte by byte these
  pub read_byte : (most i : ℕ) → i < length (read_bytes t memory file offset most) → get_or (read_bytes t memory file offset most) i 0 ≡ get_or memory (file * 4096 + offset + i) 0
  read_byte m i h =
      let n = read_length m in
      let few : i < m = omega arith in
      let inside : offset + i < size_of t file = omega arith in
      let place : file * 4096 + (offset + i) ≡ file * 4096 + offset + i = omega arith in
      read-contents t memory file offset m i few ∙ contents-byte t memory file (offset + i) inside ∙ ap (λ (k : ℕ). get_or memory k 0) place

-- "Length 0 writes nothing, changes no size"
pub written-nothing : (t : Tables) (memory : List ℕ) (file offset : ℕ) (bytes : List ℕ) → length bytes ≡ 0 → written t memory file offset bytes ≡ memory
unfolding written
written-nothing t memory file offset bytes e = rw (eq-eqb (length bytes) 0 e)

pub resized-nothing : (t : Tables) (file offset : ℕ) → resized t file offset 0 ≡ t
unfolding resized
resized-nothing t file offset = refl

-- ---- the size and the change number

module _ (t : Tables) (file size : ℕ) where
  -- a file changed: its new size, and its number raised (document 02, CR 8)
  pub change-here : Shaped t → file ≤ 15 → get_or (with_change t file size).files file no_file ≡ record { size = size; changes = raised (changes_of t file) }
  unfolding with_files changes_of
  change-here s low =
      let all16 = s.files16 in
      let inside : file < length t.files = omega arith in
      get_or-set_same t.files file (file_after (get_or t.files file no_file) size) no_file inside

  -- no other is changed
  pub change-others : (i : ℕ) → (i ≡ file → ⊥) → get_or (with_change t file size).files i no_file ≡ get_or t.files i no_file
  unfolding with_files
  change-others i different = get_or-set_other t.files file i (file_after (get_or t.files file no_file) size) no_file different

  -- nor any other table
  pub change-records : with_change t file size ≡ with_files t (with_change t file size).files
  unfolding with_files
  change-records = refl

  -- a size set: the file is changed where that alters the size
  pub sized-changes : (size ≡ size_of t file → ⊥) → sized_to t file size ≡ with_change t file size
  unfolding sized_to
  sized-changes n = rw (ne_eqb (size_of t file) size (λ e. n (sym e)))

  pub sized_same : size ≡ size_of t file → sized_to t file size ≡ t
  unfolding sized_to
  sized_same e = rw (eq-eqb (size_of t file) size (sym e))

  pub sized-size : Shaped t → file ≤ 15 → size_of (sized_to t file size) file ≡ size
  unfolding size_of
  sized-size s low =
      elim (ℕ_discrete size (size_of t file)) [
        | yes e ↦ ap (λ (u : Tables). (get_or u.files file no_file).size) (sized_same e) ∙ sym e
        | no n ↦ ap (λ (u : Tables). (get_or u.files file no_file).size) (sized-changes n) ∙ ap (λ (f : File). f.size) (change-here s low)
      ]

  pub sized-others : (i : ℕ) → (i ≡ file → ⊥) → get_or (sized_to t file size).files i no_file ≡ get_or t.files i no_file
  sized-others i different =
      elim (ℕ_discrete size (size_of t file)) [
        | yes e ↦ ap (λ (u : Tables). get_or u.files i no_file) (sized_same e)
        | no n ↦ ap (λ (u : Tables). get_or u.files i no_file) (sized-changes n) ∙ change-others i different
      ]

  pub sized-records : sized_to t file size ≡ with_files t (sized_to t file size).files
  unfolding with_files
  sized-records =
      elim (ℕ_discrete size (size_of t file)) [
        | yes e ↦ sized_same e ∙ ap (λ (u : Tables). with_files t u.files) (sym (sized_same e))
        | no n ↦ sized-changes n ∙ ap (λ (u : Tables). with_files t u.files) (sym (sized-changes n))
      ]

module _ (t : Tables) (file offset count : ℕ) (some_bytes : 1 ≤ count) where
  -- "and a size below the write's end becomes that end"
  abbrev pub end : ℕ
  end = max (size_of t file) (offset + count)

  pub resized-changes : resized t file offset count ≡ with_change t file (max (size_of t file) (offset + count))
  unfolding resized
  resized-changes = rw (ne_eqb count 0 (λ e. omega arith))

  pub resized-size : Shaped t → file ≤ 15 → size_of (resized t file offset count) file ≡ max (size_of t file) (offset + count)
  unfolding size_of
  resized-size s low = rw resized-changes (ap (λ (f : File). f.size) (change-here t file end s low))

  pub resized-number : Shaped t → file ≤ 15 → changes_of (resized t file offset count) file ≡ raised (changes_of t file)
  unfolding changes_of
  resized-number s low = rw resized-changes (ap (λ (f : File). f.changes) (change-here t file end s low))

  -- and no other
  pub resized-others : (i : ℕ) → (i ≡ file → ⊥) → get_or (resized t file offset count).files i no_file ≡ get_or t.files i no_file
  resized-others i different = rw resized-changes (change-others t file end i different)

  -- nor any other table
  pub resized-records : resized t file offset count ≡ with_files t (resized t file offset count).files
  resized-records = rw resized-changes (change-records t file end)

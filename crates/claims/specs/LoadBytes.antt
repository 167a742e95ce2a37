-- What a load does to the file's size and to each byte of the file memory (document 01, "What a call returns": "A load sets
-- the size and puts zeros after the loaded bytes, up to 4,096"). Assumes nothing.
use Rattle.std.specs.Prelude.{◌≡◌, List, ◌++◌, ℕ, ◌+◌, ◌-◌, ◌*◌, ◌≤◌, ◌<◌, replicate}
use Rattle.std.proofs.Common.{sym, ◌∙◌, length-append, get_or-append-add, get_or-set_same, eq-eqb}
use Rattle.std.proofs.Math.Path.{ap}
use Rattle.std.proofs.Math.ListN.{length, get_or, get_or-append}
use Rattle.std.proofs.lemmas.List.{length-replicate, get_or-replicate}
use Rattle.std.proofs.Math.Seq.{get_or-set_other}
use native.Mathlib.Omega.{arith}
use Rattle.lists.specs.PutLaws.{length-put, put_front, put-inside, put-behind}
use Rattle.lists.specs.Put.{put}
use Rattle.records.specs.Change.{raised, changes_of, file_after, with_change}
use Rattle.records.specs.Empty.{no_file}
use Rattle.records.specs.declared.File.{File}
use Rattle.records.specs.declared.Tables.{Tables}
use Rattle.records.specs.Held.{with_files}
use Rattle.host.specs.HostCall.{done, load_number, load_file, load_memory}
use Rattle.invariants.specs.Shaped.{Shaped}
use Rattle.invariants.specs.HostCases.{LoadPassed, load-passed}
use Rattle.claims.specs.HostAnswer.{load_file-number}

-- the bytes loaded, with zeros up to 4,096
padded : List ℕ → List ℕ
padded bytes = bytes ++ replicate (4096 - length bytes) 0

length-padded : (bytes : List ℕ) → length bytes ≤ 4096 → length (padded bytes) ≡ 4096
unfolding padded
length-padded bytes h = rw (length-append, length-replicate) (omega arith)

padded-byte : (bytes : List ℕ) (i : ℕ) → i < length bytes → get_or (padded bytes) i 0 ≡ get_or bytes i 0
unfolding padded
padded-byte bytes i h = get_or-append bytes (replicate (4096 - length bytes) 0) 0 i h

padded-zero : (bytes : List ℕ) (i : ℕ) → length bytes ≤ i → i < 4096 → get_or (padded bytes) i 0 ≡ 0
unfolding padded
padded-zero bytes i h k =
    let place : i ≡ length bytes + (i - length bytes) = omega arith in
    let inside : i - length bytes < 4096 - length bytes = omega arith in
    ap (λ (n : ℕ). get_or (bytes ++ replicate (4096 - length bytes) 0) n 0) place
    ∙ get_or-append-add bytes (replicate (4096 - length bytes) 0) (i - length bytes) 0
    ∙ get_or-replicate (4096 - length bytes) (i - length bytes) 0 0 inside

-- the file's bytes are those loaded and then zeros, and every other byte is as it was
pub record Loaded (file : ℕ) (bytes memory after : List ℕ) : Type 0 where
  pub same_length : length after ≡ length memory
  pub the-bytes : (i : ℕ) → i < length bytes → get_or after (file * 4096 + i) 0 ≡ get_or bytes i 0
  pub the-zeros : (i : ℕ) → length bytes ≤ i → i < 4096 → get_or after (file * 4096 + i) 0 ≡ 0
  pub in-front : (k : ℕ) → k < file * 4096 → get_or after k 0 ≡ get_or memory k 0
  pub behind : (k : ℕ) → file * 4096 + 4096 ≤ k → get_or after k 0 ≡ get_or memory k 0

module _ (t : Tables) (file : ℕ) (bytes memory : List ℕ) (e : (load_file t file bytes memory).number ≡ 0) where
  passed : LoadPassed t file (length bytes) (length memory)
  passed = load-passed t file (length bytes) (length memory) (sym (load_file-number t file bytes memory) ∙ e)

  memory-put : load_memory t file bytes memory ≡ put memory (file * 4096) (padded bytes)
  unfolding load_memory padded
  memory-put = rw (eq-eqb (load_number t file (length bytes) (length memory)) 0 (sym (load_file-number t file bytes memory) ∙ e))

  memory-fits : file * 4096 + length (padded bytes) ≤ length memory
  memory-fits =
      let p = passed in
      let long : length (padded bytes) ≡ 4096 = length-padded bytes p.size4096 in
      omega arith

  -- "puts zeros after the loaded bytes, up to 4,096"
  pub load_memory-done : Loaded file bytes memory (load_memory t file bytes memory)
  load_memory-done =
      let p = passed in
      let long : length (padded bytes) ≡ 4096 = length-padded bytes p.size4096 in
      rw memory-put
      (record {
        same_length = length-put memory (padded bytes) (file * 4096) memory-fits;
        the-bytes = λ i h.
            put-inside memory (padded bytes) (file * 4096) memory-fits i 0
            (let k : i < length (padded bytes) = (let s = p.size4096 in omega arith) in k)
            ∙ padded-byte bytes i h;
        the-zeros = λ i h k.
            put-inside memory (padded bytes) (file * 4096) memory-fits i 0 (let m : i < length (padded bytes) = omega arith in m)
            ∙ padded-zero bytes i h k;
        in-front = λ k h. put_front memory (padded bytes) (file * 4096) memory-fits k 0 h;
        behind = λ k h. put-behind memory (padded bytes) (file * 4096) memory-fits k 0 (let m : file * 4096 + length (padded bytes) ≤ k = omega arith in m);
      })

  tables-loaded : (load_file t file bytes memory).tables ≡ with_change t file (length bytes)
  unfolding load_file done
  tables-loaded = rw (eq-eqb (load_number t file (length bytes) (length memory)) 0 (sym (load_file-number t file bytes memory) ∙ e))

  -- "A load sets the size"
  pub load_file-size : Shaped t → (get_or (load_file t file bytes memory).tables.files file no_file).size ≡ length bytes
  unfolding with_files
  load_file-size s =
      let p = passed in
      let few = p.file15 in
      let full = s.files16 in
      let inside : file < length t.files = omega arith in
      ap (λ (u : Tables). (get_or u.files file no_file).size) tables-loaded
      ∙ ap (λ (f : File). f.size) (get_or-set_same t.files file (file_after (get_or t.files file no_file) (length bytes)) no_file inside)

  -- and raises the change number (document 02, CR 8)
  pub load_file-changes : Shaped t → changes_of (load_file t file bytes memory).tables file ≡ raised (changes_of t file)
  unfolding with_files changes_of
  load_file-changes s =
      let p = passed in
      let few = p.file15 in
      let full = s.files16 in
      let inside : file < length t.files = omega arith in
      ap (λ (u : Tables). (get_or u.files file no_file).changes) tables-loaded
      ∙ ap (λ (f : File). f.changes) (get_or-set_same t.files file (file_after (get_or t.files file no_file) (length bytes)) no_file inside)

  -- and no other
  pub load_file-others : (i : ℕ) → (i ≡ file → ⊥) → get_or (load_file t file bytes memory).tables.files i no_file ≡ get_or t.files i no_file
  unfolding with_files
  load_file-others i different =
      ap (λ (u : Tables). get_or u.files i no_file) tables-loaded ∙ get_or-set_other t.files file i (file_after (get_or t.files file no_file) (length bytes)) no_file different

  -- nor any other table
  pub load_file-records : (load_file t file bytes memory).tables ≡ with_files t (load_file t file bytes memory).tables.files
  unfolding with_files
  load_file-records = tables-loaded ∙ ap (with_files t) (ap (λ (u : Tables). u.files) (sym tables-loaded))

-- Of specs/OldBytes.antt: what rests on its other theorems. Assumes nothing.
use Rattle.std.specs.Prelude.{◌≡◌, ℕ, ◌+◌, ◌-◌, ◌*◌, ◌≤◌, ◌<◌, List, [], ◌∷◌, get_or, replicate}
use Rattle.std.proofs.Math.Path.{refl, sym, ap}
use Rattle.std.proofs.Common.{◌∙◌, ext_get_or}
use Rattle.std.proofs.Math.Logic.{inl, inr}
use native.Mathlib.Omega.{arith}
use Rattle.std.proofs.Math.Decide.{ℕ_discrete}
use Rattle.std.proofs.Math.ListN.{length}
use Rattle.std.proofs.lemmas.List.{length-replicate, get_or-replicate}
use Rattle.records.specs.declared.File.{File}
use Rattle.records.specs.declared.Tables.{Tables}
use Rattle.records.specs.Empty.{no_file}
use Rattle.host.specs.HostCall.{no_tables, load_file, load_memory}
use Rattle.claims.specs.HostAnswer.{load_file-refused, load_file-number, load_memory-refused}
use Rattle.claims.specs.AskUnchanged.{ask-stands}
use Rattle.claims.specs.LoadBytes.{load_memory-done, load_file-size, load_file-others}
use Rattle.invariants.specs.HostCases.{load-passed}
use Rattle.invariants.specs.Sound.{Good}
use Rattle.invariants.specs.Fit.{Fit, take-message-good}
use Rattle.chain.specs.Layout.{FIRST, first_fid, core_offset}
use Rattle.message.specs.Contents.{size_of, contents, read_bytes}
use Rattle.message.specs.Caller.{caller_of}
use Rattle.demands.specs.FileBytes.{contents-byte, read-contents, beside, read_length}
use Rattle.demands.specs.FileCommands.{WroteFile}
use Rattle.demands.specs.SetSize.{SizeSet, SetSizeDone}
use Rattle.demands.specs.Reached.{call-good, start-good, ReachedLending, lending-start, lending-call, lending-reached}
use Rattle.demands.proofs.Reached.{reached-good}
use Rattle.demands.specs.Shown.{Shown, files-shown}
use Rattle.demands.proofs.Shown.{bytes-shown, file-shown, take-message-alike}
use Rattle.demands.specs.OldBytes.{Asked, Stands, Told, ZeroFrom, asked-call, call-asked, catalogue-stands, drop-stands, end-stands, file, first, history, host_told, left-good, left-whole, left_by, load_same, low, memory_left, message_told, open-stands, second, session-stands, told, tree-stands}
use Rattle.demands.specs.OldBytes.{ask-catalogue}
use Rattle.demands.specs.OldBytes.{ask-drop}
use Rattle.demands.specs.OldBytes.{ask-end}
use Rattle.demands.specs.OldBytes.{ask-load}
use Rattle.demands.specs.OldBytes.{ask-message}
use Rattle.demands.specs.OldBytes.{ask-open}
use Rattle.demands.specs.OldBytes.{ask-session}
use Rattle.demands.specs.OldBytes.{ask-tree}
use Rattle.demands.specs.OldBytes.{ask-unchanged}

module _ (t : Tables) (memory : List ℕ) (file from to : ℕ) (g : Good t) (full : length memory ≡ 65536) (low : file ≤ 15) where
  -- from the bytes of the file memory, where they lie below the file's size
  pub zero-from : to ≤ size_of t file → ((i : ℕ) → from ≤ i → i < to → get_or memory (file * 4096 + i) 0 ≡ 0) → ZeroFrom t memory file from to
  zero-from below zeros =
      let inside : (i : ℕ) → from ≤ i → i < to → get_or (contents t memory file) i 0 ≡ 0 =
      λ i h l. contents-byte t memory file i (omega arith) ∙ zeros i h l in
      let reads : (offset most i : ℕ) → i < most → from ≤ offset + i → offset + i < to → get_or (read_bytes t memory file offset most) i 0 ≡ 0 =
      λ offset most i few h l. read-contents t memory file offset most i few ∙ inside (offset + i) h l in
      let n = read_length t memory file from g.sound full low (to - from) in
      let k : length (replicate {A = ℕ} (to - from) 0) ≡ to - from = length-replicate (to - from) 0 in
      record {
        in_memory = zeros;
        in-contents = inside;
        in-reads = reads;
        all_read =
            ext_get_or 0 (read_bytes t memory file from (to - from)) (replicate (to - from) 0) (omega arith)
            (λ i h. let few : i < to - from = omega arith in reads from (to - from) i few (omega arith) (omega arith) ∙ sym (get_or-replicate (to - from) i 0 0 few));
      }

-- cut to k and then grown by a count of 0 to a size of n: from k up to n there are zeros, whatever stood there
pub cut-then-grown : {t u v : Tables} {file k n : ℕ} {m₀ m₁ m₂ : List ℕ} → SizeSet t u file k m₀ m₁ → SizeSet u v file n m₁ m₂
    → Good v → length m₂ ≡ 65536 → file ≤ 15 → ZeroFrom v m₂ file k n
cut-then-grown {v = v} {file} {k} {n} {m₂ = m₂} cut grows g full low =
    let a = cut.new-size in
    let b = grows.new-size in
    zero-from v m₂ file k n g full low (omega arith) (λ i h l. grows.bytes_left.the-zeros (file * 4096 + i) (omega arith) (omega arith))

-- and then written at an offset of n, WRITE or core WRITE: up to the write there are zeros
pub cut-then-written : {t u v : Tables} {file k n : ℕ} {bytes m₀ m₁ m₂ : List ℕ} → SizeSet t u file k m₀ m₁ → WroteFile u v file n bytes m₁ m₂
    → Good v → length m₂ ≡ 65536 → file ≤ 15 → ZeroFrom v m₂ file k n
cut-then-written {v = v} {file} {k} {n} {m₂ = m₂} cut wrote g full low =
    let a = cut.new-size in
    let b = wrote.size in
    zero-from v m₂ file k n g full low (omega arith) (λ i h l. wrote.bytes_left.the-zeros (file * 4096 + i) (omega arith) (omega arith))

module _ (t : Tables) (memory : List ℕ) (g : Good t) (connection connection' : ℕ) (s s' room room' : List ℕ) (fit : Fit s t memory room) where
  module _ (cut : SetSizeDone (caller_of connection s) t (first_fid s FIRST) (core_offset s FIRST) memory (first t memory g connection connection' s s' room room' fit)) where
    -- the second is one too, through an open of the same file
    pub cut-then-grown-calls : (grows : SetSizeDone (caller_of connection' s') (first t memory g connection connection' s s' room room' fit).tables (first_fid s' FIRST) (core_offset s' FIRST) (first t memory g connection connection' s s' room room' fit).memory (second t memory g connection connection' s s' room room' fit))
        → grows.through.file ≡ (file t memory g connection connection' s s' room room' fit cut) → ZeroFrom (second t memory g connection connection' s s' room room' fit).tables (second t memory g connection connection' s s' room room' fit).memory (file t memory g connection connection' s s' room room' fit cut) (core_offset s FIRST) (core_offset s' FIRST)
    cut-then-grown-calls grows same =
        cut-then-grown cut.sets (rw same at grows.sets) (take-message-good connection' s' (first t memory g connection connection' s s' room room' fit).tables (first t memory g connection connection' s s' room room' fit).memory room' (left-good t memory g connection connection' s s' room room' fit)) (left-whole t memory g connection connection' s s' room room' fit) (low t memory g connection connection' s s' room room' fit cut)

    -- the second is a write of some bytes to that file (WriteDone and CoreWriteDone in Effects.antt)
    pub cut-then-written-calls : {offset : ℕ} {bytes : List ℕ} → WroteFile (first t memory g connection connection' s s' room room' fit).tables (second t memory g connection connection' s s' room room' fit).tables (file t memory g connection connection' s s' room room' fit cut) offset bytes (first t memory g connection connection' s s' room room' fit).memory (second t memory g connection connection' s s' room room' fit).memory
        → ZeroFrom (second t memory g connection connection' s s' room room' fit).tables (second t memory g connection connection' s s' room room' fit).memory (file t memory g connection connection' s s' room room' fit cut) (core_offset s FIRST) offset
    cut-then-written-calls wrote =
        cut-then-written cut.sets wrote (take-message-good connection' s' (first t memory g connection connection' s s' room room' fit).tables (first t memory g connection connection' s s' room room' fit).memory room' (left-good t memory g connection connection' s s' room room' fit)) (left-whole t memory g connection connection' s s' room room' fit) (low t memory g connection connection' s s' room room' fit cut)

module _ (t : Tables) (memory other : List ℕ) (g : Good t) (s : Shown t memory other) where
  pub loaded-shown : (file : ℕ) (bytes : List ℕ) → (load_file t file bytes memory).number ≡ 0
      → Shown (load_file t file bytes memory).tables (load_memory t file bytes memory) (load_memory t file bytes other)
  unfolding size_of
  loaded-shown file bytes e =
      let p = load-passed t file (length bytes) (length memory) (sym (load_file-number t file bytes memory) ∙ e) in
      let e' : (load_file t file bytes other).number ≡ 0 = rw ((load_same t memory other g s) file bytes) at e in
      let a = load_memory-done t file bytes memory e in
      let b = load_memory-done t file bytes other e' in
      let size = load_file-size t file bytes memory e g.shaped in
      let few = p.size4096 in
      file-shown t (load_file t file bytes memory).tables file g s (λ i n. ap (λ (f : File). f.size) (load_file-others t file bytes memory e i n)) p.file15 (omega arith)
      a.same_length b.same_length
      (λ x i n h. elim (beside x file i n h) [ inl l ↦ a.in-front (x * 4096 + i) l | inr l ↦ a.behind (x * 4096 + i) l ])
      (λ x i n h. elim (beside x file i n h) [ inl l ↦ b.in-front (x * 4096 + i) l | inr l ↦ b.behind (x * 4096 + i) l ])
      (λ i h. let inside : i < length bytes = omega arith in a.the-bytes i inside ∙ sym (b.the-bytes i inside))

  pub load-alike : (file : ℕ) (bytes : List ℕ) → Shown (load_file t file bytes memory).tables (load_memory t file bytes memory) (load_memory t file bytes other)
  load-alike file bytes =
      elim (ℕ_discrete (load_file t file bytes memory).number 0) [
        | yes e ↦ loaded-shown file bytes e
        | no n ↦
            let n' : (load_file t file bytes other).number ≡ 0 → ⊥ = rw ((load_same t memory other g s) file bytes) at n in
            rw ((load_file-refused t file bytes memory n).same_tables, load_memory-refused t file bytes memory n, load_memory-refused t file bytes other n') s
      ]

  -- one call: the host is told the same, and what is left shows the same
  pub call-alike : (a : Asked) → (told a t memory ≡ told a t other) × Shown (told a t memory).tables (memory_left a t memory) (memory_left a t other)
  unfolding told host_told message_told memory_left Stands
  call-alike (ask-session connection) = (refl, files-shown (session-stands t connection) s)
  call-alike (ask-tree uid right) = (refl, files-shown (tree-stands t uid right) s)
  call-alike (ask-open uid tid process file access) = (refl, files-shown (open-stands t uid tid process file access) s)
  call-alike (ask-load file bytes) = (ap host_told ((load_same t memory other g s) file bytes), load-alike file bytes)
  call-alike (ask-drop connection) = (refl, files-shown (drop-stands t connection) s)
  call-alike (ask-end one) = (refl, files-shown (end-stands t one) s)
  call-alike (ask-catalogue names count full) = (refl, files-shown (catalogue-stands t names count) s)
  call-alike (ask-unchanged fid) = (refl, files-shown (ap (λ (u : Tables). u.files) (ask-stands t fid)) s)
  call-alike (ask-message connection m room) =
      let r = take-message-alike connection m t memory other room g s in
      (λ i. record { number = r.same_number i; beside = r.same_length i; holder = r.same-holder i; tables = r.same_tables i; room = r.same-room i }, r.shown)

-- file memories that show the same are told apart by no history
pub history-alike : (calls : List Asked) (t : Tables) (memory other : List ℕ) → Good t → Shown t memory other → history calls t memory ≡ history calls t other
unfolding history
history-alike [] t memory other g s = refl
history-alike (a ∷ more) t memory other g s =
    let q = call-alike t memory other g s a in
    let rest = history-alike more (told a t memory).tables (memory_left a t memory) (memory_left a t other) (call-good (asked-call a t memory) g) q.1 in
    rw (← q.0) (ap (λ (l : List Told). told a t memory ∷ l) rest)

pub left-alike : (calls : List Asked) (t : Tables) (memory other : List ℕ) → Good t → Shown t memory other
    → ((left_by calls t memory).0 ≡ (left_by calls t other).0) × Shown (left_by calls t memory).0 (left_by calls t memory).1 (left_by calls t other).1
unfolding left_by
left-alike [] t memory other g s = (refl, s)
left-alike (a ∷ more) t memory other g s =
    let q = call-alike t memory other g s a in
    let rest = left-alike more (told a t memory).tables (memory_left a t memory) (memory_left a t other) (call-good (asked-call a t memory) g) q.1 in
    let same : left_by more (told a t memory).tables (memory_left a t other) ≡ left_by more (told a t other).tables (memory_left a t other) =
    ap (λ (x : Told). left_by more x.tables (memory_left a t other)) q.0 in
    (rest.0 ∙ ap (λ (x : Tables × List ℕ). x.0) same, rw same at rest.1)

-- "old bytes never show": whatever stands in the file memory at or above the files' sizes, no history tells it
pub never-shows : (t : Tables) (memory other : List ℕ) → Good t → length memory ≡ 65536 → length other ≡ 65536
    → ((file i : ℕ) → file ≤ 15 → i < size_of t file → get_or memory (file * 4096 + i) 0 ≡ get_or other (file * 4096 + i) 0)
    → (calls : List Asked) → history calls t memory ≡ history calls t other
never-shows t memory other g full full' bytes calls = history-alike calls t memory other g (bytes-shown t memory other g full full' bytes)

-- nor what stood in the file memory that a host lends first, with the tables to start from
pub start-size : (file : ℕ) → file ≤ 15 → size_of no_tables file ≡ 0
unfolding size_of no_tables
start-size file low = ap (λ (f : File). f.size) (get_or-replicate 16 file no_file no_file (omega arith))

pub start-shown : (memory other : List ℕ) → length memory ≡ 65536 → length other ≡ 65536 → Shown no_tables memory other
start-shown memory other full full' =
    bytes-shown no_tables memory other start-good full full' (λ file i low h. let z = start-size file low in absurd (let no : ⊥ = omega arith in no))

pub first-never-shows : (memory other : List ℕ) → length memory ≡ 65536 → length other ≡ 65536 → (calls : List Asked) → history calls no_tables memory ≡ history calls no_tables other
first-never-shows memory other full full' calls = history-alike calls no_tables memory other start-good (start-shown memory other full full')

-- said of the tables that a host comes to (Reached.antt): lending another file memory first it can come to the same tables, with every file showing the same bytes
pub lending-alike : {lent memory : List ℕ} {t : Tables} (instead : List ℕ) → length lent ≡ 65536 → length instead ≡ 65536 → ReachedLending lent t memory
    → (other : List ℕ) × ReachedLending instead t other × Shown t memory other
lending-alike {lent} instead full full' lending-start = (instead, lending-start, start-shown lent instead full full')
lending-alike instead full full' (lending-call {t} {memory = memory} r call) =
    let w = lending-alike instead full full' r in
    let a = call-asked call in
    let q = call-alike t memory w.0 (reached-good (lending-reached r)) w.2 a.0 in
    let same = ap (λ (x : Told). x.tables) (sym q.0) ∙ a.1 in
    (memory_left a.0 t w.0, rw same at (lending-call w.1 (asked-call a.0 t w.0)), rw (a.1, a.2) at q.1)

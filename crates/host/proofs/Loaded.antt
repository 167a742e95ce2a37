-- The bytes of a load, in their room and in the file memory, and what a load that is not refused is known to be.
-- Assumes nothing.
use mathlib.Core.Path.{◌≡◌, refl, sym, ap, ◌∙◌}
use Prim.Native.Nat.{ℕ, suc, ◌+◌, ◌-◌, ◌*◌, ◌≤◌}
use mathlib.Core.Bool.{Bool, true, false, cond, not, ◌&&◌, ◌||◌}
use mathlib.Core.List.{List, ◌++◌, append-nil}
use lib.ListN.{length, take, drop, replicate, length-append, length-replicate, length-take, length-drop, drop_of_length-le}
use lib.Seq.{take_all, take-length, take_at, drop-drop}
use lib.Dec.{eqb, ltb}
use borrow.Author.Tests.{eq-eqb, ne_eqb, ltb-false}
use native.Mathlib.Omega.{arith}
use Rattle.lists.specs.Put.{put}
use Rattle.lists.specs.Truth.{neither-holds, both_hold, test-cases}
use Rattle.records.specs.Change.{with_change}
use Rattle.records.specs.declared.Tables.{Tables}
use Rattle.soundness.specs.Sound.{sound}
use Rattle.tables.specs.Words.{tables_of, in_use_fit}
use Rattle.host.specs.HostCall.{refused, done, load_number, load_file, load_memory}
use Rattle.host.specs.OnWords.{on_words, load_on_words, memory_on_words}
use Rattle.host.proofs.Leaving.{on-unsound, on-sound}

-- bytes copied to the front of a room, and the part behind them cleared
pub copied-cleared : (s d l e : List ℕ) (n : ℕ) → length s ≤ length d → n ≡ length s → l ≡ take (length s) s ++ drop (length s) d
    → e ≡ replicate (length (take (length l - n) (drop n l))) 0
    → take n l ++ (e ++ drop (length l - n) (drop n l)) ≡ s ++ replicate (length d - length s) 0
copied-cleared s d l e n h q p r =
    let same : l ≡ s ++ drop n d = p ∙ rw (take-length s, q) in
    let long : length l ≡ length d = rw (same, length-append, length-drop) (omega arith) in
    let front : take n l ≡ s = rw same (take_at s (drop n d) n (sym q)) in
    let behind : length (drop n l) ≡ length d - length s = rw (length-drop, long, q) in
    let short : length (drop n l) ≤ length l - n = omega arith in
    let gap : length (take (length l - n) (drop n l)) ≡ length d - length s = ap length (take_all (length l - n) (drop n l) short) ∙ behind in
    rw (front, r, gap, drop_of_length-le (drop n l) short) (ap (λ (t : List ℕ). s ++ t) (append-nil (replicate (length d - length s) 0)))

-- a file's room in the memory, filled
pub filled-memory : (d f s : List ℕ) (from to : ℕ) → to ≡ from + 4096 → to ≤ length d → length s ≤ 4096
    → f ≡ s ++ replicate (length (take (to - from) (drop from d)) - length s) 0
    → take from d ++ (f ++ drop (to - from) (drop from d)) ≡ put d from (s ++ replicate (4096 - length s) 0)
unfolding put
filled-memory d f s from to q h k p =
    let size : to - from ≡ 4096 = omega arith in
    let room : length (take (to - from) (drop from d)) ≡ 4096 = rw (length-take, length-drop) (omega arith) in
    let long : length (s ++ replicate (4096 - length s) 0) ≡ 4096 = rw (length-append, length-replicate) (omega arith) in
    rw (p, room, drop-drop (to - from) from d, size, long)

cond-zero : (b : Bool) (k x : ℕ) → cond b (suc k) x ≡ 0 → (b ≡ false) × (x ≡ 0)
cond-zero true k x e = absurd (let z : ⊥ = omega arith in z)
cond-zero false k x e = (refl, e)

-- what is known of a load that is not refused
pub record Loadable (file size : ℕ) : Type 0 where
  pub known-file : file ≤ 15
  pub fitting : size ≤ 4096

pub loadable : (t : Tables) (file size memory : ℕ) → load_number t file size memory ≡ 0 → Loadable file size
unfolding load_number
loadable t file size memory e =
    let a = cond-zero (not (eqb memory 65536)) 1 _ e in
    let b = cond-zero (not (sound t)) 3 _ a.1 in
    let c = cond-zero (ltb 15 file || ltb 4096 size) 6 _ b.1 in
    let n = neither-holds (ltb 15 file) (ltb 4096 size) c.0 in
    record {
      known-file = ltb-false 15 file n.0;
      fitting = ltb-false 4096 size n.1;
    }

-- a load with a whole file memory, by its refusal
module _ (t : Tables) (file : ℕ) (bytes memory : List ℕ) (k : ℕ) (full : length memory ≡ 65536) (e : k ≡ load_number t file (length bytes) 65536) where
  pub load-refused : (k ≡ 0 → ⊥) → (load_file t file bytes memory ≡ refused k t) × (load_memory t file bytes memory ≡ memory)
  unfolding load_file load_memory
  load-refused n = rw (full, sym e, ne_eqb k 0 n) (refl, refl)

  pub load-done : k ≡ 0
      → (load_file t file bytes memory ≡ done 0 (with_change t file (length bytes)))
      × (load_memory t file bytes memory ≡ put memory (file * 4096) (bytes ++ replicate (4096 - length bytes) 0))
  unfolding load_file load_memory
  load-done z = rw (full, sym e, z) (refl, refl)

-- tables that are not sound
module _ (t : Tables) (file : ℕ) (bytes memory : List ℕ) (full : length memory ≡ 65536) (e : sound t ≡ false) where
  load-not-sound : load_file t file bytes memory ≡ refused 4 t
  unfolding load_file load_number
  load-not-sound = rw (full, e)

  memory-not-sound : load_memory t file bytes memory ≡ memory
  unfolding load_memory load_number
  memory-not-sound = rw (full, e)

cond_same : (b : Bool) (x : List ℕ) → cond b x x ≡ x
cond_same true x = refl
cond_same false x = refl

-- ---- a load on words

module _ (w : List ℕ) (file : ℕ) (bytes memory : List ℕ) where
  pub load-wrong-room : (length memory ≡ 65536 → ⊥)
      → (load_on_words w file bytes memory ≡ refused 2 (tables_of w)) × (memory_on_words w file bytes memory ≡ memory)
  unfolding load_on_words memory_on_words load_memory load_number
  load-wrong-room h =
      let e : eqb (length memory) 65536 ≡ false = ne_eqb (length memory) 65536 h in
      (rw e, rw e (cond_same (in_use_fit w) memory))

  module _ (full : length memory ≡ 65536) where
    whole_room : load_on_words w file bytes memory ≡ on_words w (load_file (tables_of w) file bytes memory)
    unfolding load_on_words
    whole_room = rw (eq-eqb (length memory) 65536 full)

    pub load-unsound : (in_use_fit w && sound (tables_of w)) ≡ false
        → (load_on_words w file bytes memory ≡ refused 4 (tables_of w)) × (memory_on_words w file bytes memory ≡ memory)
    unfolding memory_on_words
    load-unsound e = (
      whole_room ∙ on-unsound w (load_file (tables_of w) file bytes memory) e (load-not-sound (tables_of w) file bytes memory full),
      test-cases (in_use_fit w)
          (λ f. let s : sound (tables_of w) ≡ false = rw f at e in rw f (memory-not-sound (tables_of w) file bytes memory full s))
          (λ f. rw f),
    )

    pub load-on-sound : (in_use_fit w && sound (tables_of w)) ≡ true
        → (load_on_words w file bytes memory ≡ load_file (tables_of w) file bytes memory) × (memory_on_words w file bytes memory ≡ load_memory (tables_of w) file bytes memory)
    unfolding memory_on_words
    load-on-sound e = (
      whole_room ∙ on-sound w (load_file (tables_of w) file bytes memory) e,
      rw (both_hold (in_use_fit w) (sound (tables_of w)) e).0,
    )

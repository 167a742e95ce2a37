-- A table changed by code: its count written, a record added, and what a loop that writes records keeps.
-- Assumes nothing.
use Rattle.std.specs.Prelude.{◌≡◌, refl, ℕ, ◌+◌, ◌*◌, ◌<◌, List, [], ◌∷◌, ◌++◌, take}
use Rattle.std.proofs.Common.{sym, ◌∙◌, arith, get_or-set_same}
use Rattle.std.proofs.Math.Path.{ap}
use Rattle.std.proofs.Math.ListN.{length, set}
use Rattle.lists.specs.Put.{put}
use Rattle.lists.specs.StoredLaws.{stored-add, length-add}
use Rattle.lists.specs.Walk.{all}
use Rattle.tables.specs.Words.{word, record_at, within, records_fit, session_of, tree_of, open_of, lock_of, name_of, session_array, tree_array, open_array, lock_array, name_array}
use Rattle.tables.specs.Written.{Wrote, Holds}
use Rattle.tables.specs.PartLaws.{stores-put, part-behind}
use Rattle.tables.specs.ArrayLaws.{length-array, array_count, up_to-same}

-- ---- each table's array has its room, and the count is no part of it

pub length-session_array : (w : List ℕ) → length (session_array w) ≡ 16
unfolding session_array
length-session_array w = length-array session_of 2 16 w

pub length-tree_array : (w : List ℕ) → length (tree_array w) ≡ 32
unfolding tree_array
length-tree_array w = length-array tree_of 3 32 w

pub length-open_array : (w : List ℕ) → length (open_array w) ≡ 64
unfolding open_array
length-open_array w = length-array open_of 9 64 w

pub length-lock_array : (w : List ℕ) → length (lock_array w) ≡ 128
unfolding lock_array
length-lock_array w = length-array lock_of 5 128 w

pub length-name_array : (w : List ℕ) → length (name_array w) ≡ 16
unfolding name_array
length-name_array w = length-array name_of 14 16 w

module _ (w : List ℕ) (count : ℕ) (h : 0 < length w) where
  pub session_array-count : session_array (set w 0 count) ≡ session_array w
  unfolding session_array
  session_array-count = array_count session_of 2 16 w count h

  pub tree_array-count : tree_array (set w 0 count) ≡ tree_array w
  unfolding tree_array
  tree_array-count = array_count tree_of 3 32 w count h

  pub open_array-count : open_array (set w 0 count) ≡ open_array w
  unfolding open_array
  open_array-count = array_count open_of 9 64 w count h

  pub lock_array-count : lock_array (set w 0 count) ≡ lock_array w
  unfolding lock_array
  lock_array-count = array_count lock_of 5 128 w count h

  pub count_set : word (set w 0 count) 0 ≡ count
  count_set = get_or-set_same w 0 count 0 h

  -- nor do records cease to fit
  pub fit_count : (limits : List ℕ) (m : ℕ) → records_fit limits m (set w 0 count) ≡ records_fit limits m w
  unfolding records_fit
  fit_count limits m =
      let e : set w 0 count ≡ put w 0 (count ∷ []) = stores-put w (count ∷ []) 0 (omega arith) in
      ap (all (within limits))
      (up_to-same (record_at (length limits) w) (record_at (length limits) (set w 0 count))
      (λ j. rw e (part-behind w (count ∷ []) 0 (omega arith) (1 + length limits * j) (length limits) (omega arith))) m)

-- ---- a record added: written behind those in use, and the count one higher

pub holds-add : {A : Type 0} (array_in : List ℕ → List A) (z x : A) (limits before between after : List ℕ)
    → word before 0 < length (array_in before) → Wrote array_in limits before between (word before 0) x → array_in after ≡ array_in between
    → word after 0 ≡ word before 0 + 1 → Holds array_in z before after (take (word before 0) (array_in before) ++ (x ∷ []))
holds-add array_in z x limits before between after room wrote same count =
    record {
      array = same ∙ wrote.array ∙ stored-add z (array_in before) (word before 0) x room;
      count = count ∙ sym (length-add (array_in before) (word before 0) x (omega arith));
    }

-- ---- a loop that writes records: the words stay as many, and their count stays

pub record Sized (long : ℕ) (before after : List ℕ) : Type 0 where
  pub full : length after ≡ long
  pub same : word after 0 ≡ word before 0

pub sized-start : {long : ℕ} {w : List ℕ} → length w ≡ long → Sized long w w
sized-start h = record { full = h; same = refl }

pub sized-wrote : {A : Type 0} {array_in : List ℕ → List A} {limits : List ℕ} {long : ℕ} {w v u : List ℕ} {i : ℕ} {x : A}
    → Sized long w v → Wrote array_in limits v u i x → length u ≡ length v → Sized long w u
sized-wrote s r e = record { full = e ∙ s.full; same = r.count ∙ s.same }

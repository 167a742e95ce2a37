-- Of specs/InWordsLaws.antt: what rests on its other theorems. Assumes nothing.
use Rattle.std.specs.Prelude.{◌≡◌, ℕ, ◌+◌, ◌*◌, ◌≤◌, ◌<◌, true, length}
use Rattle.std.proofs.Common.{arith}
use mathlib.Core.List.{List}
use Rattle.lists.specs.Walk.{all_tails}
use Rattle.tables.specs.Words.{word, record_at}
use Rattle.tables.specs.PartLaws.{part-row}
use Rattle.numbers.specs.ByNumber.{by_number}
use Rattle.soundness.specs.InWords.{tree_stands}
use Rattle.soundness.specs.InWordsLaws.{row_code, row_tid, tree-words, tree_rule}

pub tree-stands : (w : List ℕ) (i : ℕ) (later : List (List ℕ)) (uids codes : List ℕ) → length w ≡ 97 → i < 32 → length uids ≤ 65536
    → all_tails (tree_rule uids) later ≡ true → codes ≡ by_number row_tid row_code 0 33 later
    → tree_stands uids codes (record_at 3 w i) ≡ tree_rule uids (record_at 3 w i) later
tree-stands w i later uids codes long few h e q =
    rw (part-row w (1 + 3 * i) 3 (omega arith))
    (tree-words (word w (1 + 3 * i)) (word w (1 + 3 * i + 1)) (word w (1 + 3 * i + 2)) later uids codes h e q)

-- `tables::open::put_read` meets its contract: two words stored are nine, of which seven are those that stood there. Assumes nothing.
-- the words of an open at `at`, with the last two of another kind
use mathlib.Core.Path.{◌≡◌, refl, sym, ap}
use Prim.Native.Nat.{ℕ, ◌+◌, ◌*◌, ◌≤◌, ◌<◌}
use native.Mathlib.Omega.{arith}
use mathlib.Core.Bool.{true}
use mathlib.Core.List.{List, [], ◌∷◌}
use lib.ListN.{length, get_or, set, length-set}
use lib.Seq.{set-get_or}
use Rattle.records.specs.declared.Open.{Open}
use Rattle.records.specs.Change.{open_after}
use Rattle.records.specs.Empty.{no_open}
use Rattle.tables.specs.Words.{word, within, open_of, open_array, open_limits}
use Rattle.tables.specs.Written.{Renewed}
use Rattle.tables.specs.ArrayLaws.{record-at, renewed}
use Rattle.tables.specs.PartLaws.{row, part-row, stores}
use Rattle.tables.specs.RecordLaws.{within-holds, within-told}
use Rattle.tables.proofs.open.put_read.Goals as goal

noted : List ℕ → ℕ → ℕ → List ℕ
noted w at number =
    word w at ∷ word w (at + 1) ∷ word w (at + 2) ∷ word w (at + 3) ∷ word w (at + 4) ∷ word w (at + 5) ∷ word w (at + 6) ∷ 1 ∷ number ∷ []

stored-two : (w : List ℕ) (at number : ℕ) → set (set w (at + 7) 1) (at + 8) number ≡ stores w at (noted w at number)
unfolding noted
stored-two w at number =
    rw (set-get_or w at 0, set-get_or w (at + 1) 0, set-get_or w (at + 2) 0, set-get_or w (at + 3) 0, set-get_or w (at + 4) 0, set-get_or w (at + 5) 0, set-get_or w (at + 6) 0)

-- they fit if those that stood there did
noted-fits : (w : List ℕ) (at number : ℕ) → number ≤ 18446744073709551615 → within open_limits (row w at 9) ≡ true → within open_limits (noted w at number) ≡ true
unfolding noted
noted-fits w at number small e =
    let h = within-told open_limits (row w at 9) e in
    within-holds open_limits (noted w at number)
    (h.0, (h.1.0, (h.1.1.0, (h.1.1.1.0, (h.1.1.1.1.0, (h.1.1.1.1.1.0, (h.1.1.1.1.1.1.0, (omega arith, (small, tt)))))))))

read-put : (w : List ℕ) (i number : ℕ) → i < 64 → length w ≡ 577 → number ≤ 18446744073709551615
    → Renewed open_array open_limits w (set (set w (1 + 9 * i + 7) 1) (1 + 9 * i + 8) number) i (open_after (get_or (open_array w) i no_open) number)
unfolding open_array open_of noted
read-put w i number h long small =
    rw (stored-two w (1 + 9 * i) number)
    (renewed open_of open_limits 64 w (noted w (1 + 9 * i) number) i (open_after (get_or (open_array w) i no_open) number) h long refl
    (λ e. noted-fits w (1 + 9 * i) number small (rw (part-row w (1 + 9 * i) 9 (omega arith)) at e))
    (ap (λ (o : Open). open_after o number) (sym (record-at open_of 9 64 w i no_open h long))))

pub bounds-words-at-2 : goal.bounds-words-at-2
bounds-words-at-2 c = simp length-set (omega arith)

pub returns : goal.returns
returns c = read-put c.args.words.now c.args.i c.args.number c.requires.1 c.requires.0 (omega arith)

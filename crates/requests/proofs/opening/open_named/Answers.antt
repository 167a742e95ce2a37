-- `requests::opening::open_named` meets its contract: the file is that of the name found.
-- Assumes nothing.
use Rattle.std.specs.Prelude.{◌≡◌, ℕ, length, Option, Some, None, Ok, Err}
use Rattle.std.specs.Option.{ok_or}
use mathlib.Core.Path.{refl, sym, ap, ◌∙◌}
use native.Mathlib.Omega.{arith}
use Rattle.lists.specs.Walk.{found}
use Rattle.tables.specs.PartLaws.{length_part}
use Rattle.tables.specs.WholeLaws.{names_in_lem}
use Rattle.catalogue.specs.Name.{is_named}
use Rattle.message.specs.declared.refusal.Refusal.{Refusal}
use Rattle.message.specs.Command.{open_named}
use Rattle.requests.specs.Leaves.{gives-refused}
use Rattle.requests.specs.OpenPart.{name-place, name-same, name-listed}
use Rattle.requests.proofs.Raised.{raised}
use Rattle.requests.proofs.opening.open_named.Goals as goal

-- what `ok_or` tells of the name looked up
at-some : (o : Option ℕ) (why : Refusal) (k : ℕ) → Ok k ≡ ok_or o why → o ≡ Some k
at-some (Some j) why k e = let same : j ≡ k = cc in ap Some same
at-some None why k e = let never : ◌≡◌ {A = ℕ} 0 1 = cc in absurd (omega arith)

at-none : (o : Option ℕ) (why given : Refusal) → Err given ≡ ok_or o why → (o ≡ None) × (why ≡ given)
at-none (Some j) why given e = let never : ◌≡◌ {A = ℕ} 0 1 = cc in absurd (omega arith)
at-none None why given e = (refl, cc)

pub name_file-file-requires : goal.name_file-file-requires
name_file-file-requires c =
    let args = c.args in
    let w = args.words.now in
    let full : length w ≡ 1605 = c.requires.words_len in
    (length_part w 1380 225 (omega arith), name-place w args.name.now c.in_ok-k.k (sym c.find_name.ensures ∙ at-some _ _ _ c.in_ok-k.ensures.value))

pub open_file-requires-clause-file_bound : goal.open_file-requires-clause-file_bound
open_file-requires-clause-file_bound c =
    let args = c.args in
    rw c.name_file-file.ensures (name-listed args.words.now args.name.now c.in_ok-k.k (sym c.find_name.ensures ∙ at-some _ _ _ c.in_ok-k.ensures.value) c.requires.good)

pub returns-in_err-k-clause-leaves : goal.returns-in_err-k-clause-leaves
unfolding open_named
returns-in_err-k-clause-leaves c =
    let args = c.args in
    let n = at-none _ _ _ c.in_err-k.ensures.value in
    let listed = ap (found (is_named args.name.now)) (names_in_lem args.words.now) ∙ sym c.find_name.ensures ∙ n.0 in
    λ m. gives-refused _ (rw (listed, n.1)) (raised _ _ _ c.from_residual.ensures.1)

pub returns-clause-leaves : goal.returns-clause-leaves
unfolding open_named
returns-clause-leaves c =
    let args = c.args in
    let w = args.words.now in
    let name = args.name.now in
    let e = sym c.find_name.ensures ∙ at-some _ _ _ c.in_ok-k.ensures.value in
    let listed = ap (found (is_named name)) (names_in_lem w) ∙ e in
    λ m. rw listed (rw (c.name_file-file.ensures, name-same w name c.in_ok-k.k e) at (c.open_file.ensures.leaves m))

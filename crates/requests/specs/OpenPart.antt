-- OPEN_ANDX in its parts: what an open by name says and adds, the file of a name, and the words of the opens with one more. Assumes nothing.
use Rattle.std.specs.Prelude.{◌≡◌, ℕ, ◌+◌, ◌<◌, ◌≤◌, min, Bool, true, false, cond, List, [], ◌∷◌, ◌++◌, length, get_or, drop, nat_le, slice_index_or, refl, Some, Ok}
use Rattle.std.proofs.Math.Path.{sym}
use Rattle.std.proofs.Common.{ap, ◌∙◌, get_or-take, get_or-drop, leb-true}
use native.Mathlib.Omega.{arith}
use Rattle.std.proofs.Math.ListN.{length-take}
use Rattle.lists.specs.Walk.{found}
use Rattle.lists.specs.FoundLaws.{found_below}
use Rattle.records.specs.declared.Open.{Open}
use Rattle.records.specs.declared.Tables.{Tables}
use Rattle.records.specs.Empty.{no_open, no_name}
use Rattle.records.specs.Held.{opens_of, names_of, with_opens}
use Rattle.tables.specs.Words.{word, part, open_array, open_limits, name_array, name_of, tables_of, in_use_fit}
use Rattle.tables.specs.Written.{opens_in, names_in}
use Rattle.tables.specs.ArrayLaws.{length-array}
use Rattle.tables.specs.PartLaws.{lent}
use Rattle.tables.specs.WholeLaws.{told_fit, with-opens, fit-opens, names_in_lem}
use Rattle.catalogue.specs.Name.{is_named}
use Rattle.host.specs.OnWords.{Appended}
use Rattle.chain.specs.declared.block.OpenFields.{OpenFields}
use Rattle.message.specs.Contents.{size_of}
use Rattle.message.specs.declared.refusal.Refusal.TheVariants.{NoFids}
use Rattle.message.specs.declared.answer.Answer.{Answer}
use Rattle.message.specs.declared.answer.Answer.TheVariants.{Opened}
use Rattle.message.specs.Command.{Given, refused, done, opened, opened_said}
use Rattle.message.specs.Given.{said_of, bytes_inside, given_of}
use Rattle.invariants.specs.Sound.{Good, named-file}

-- ---- what is said

-- "zero after the FID with the block's Flags bit 0 clear; with it set the size, the access and OpenResults 1"
unfoldable pub open_told : OpenFields → ℕ → ℕ → Answer
open_told f fid size = cond f.full (Opened fid size f.access 1) (Opened fid 0 0 0)

told-case : (full : Bool) (fid size access : ℕ) (m : List ℕ)
    → said_of (cond full (Opened fid size access 1) (Opened fid 0 0 0)) m ≡ cond full (opened fid size access 1) (opened fid 0 0 0)
unfolding said_of
told-case true fid size access m = refl
told-case false fid size access m = refl

pub told-said : (f : OpenFields) (fid size : ℕ) (m : List ℕ) → said_of (open_told f fid size) m ≡ opened_said f.full fid size f.access
unfolding open_told opened_said
told-said f fid size m = told-case f.full fid size f.access m

pub told-given : (f : OpenFields) (fid size : ℕ) (t : Tables) (m : List ℕ) → given_of (Ok (open_told f fid size)) t m ≡ done t m (opened_said f.full fid size f.access)
unfolding given_of
told-given f fid size t m = ap (done t m) (told-said f fid size m)

inside-case : (full : Bool) (fid size access : ℕ) → bytes_inside (cond full (Opened fid size access 1) (Opened fid 0 0 0)) ≡ true
unfolding bytes_inside
inside-case true fid size access = refl
inside-case false fid size access = refl

pub told-inside : (f : OpenFields) (fid size : ℕ) → bytes_inside (open_told f fid size) ≡ true
unfolding open_told
told-inside f fid size = inside-case f.full fid size f.access

-- the first word of a part, as code reads it
pub first_word : (w : List ℕ) (from n : ℕ) → 0 < n → word (part w from n) 0 ≡ word w from
first_word w from n h =
    let here : from + 0 ≡ from = omega arith in
    get_or-take n (drop from w) 0 0 h ∙ get_or-drop from w 0 0 ∙ ap (word w) here

-- ---- what is added

-- the last step: "1/4 all 64 FIDs in use", or the open behind those in use
unfoldable pub open_added : Tables → List ℕ → OpenFields → Open → Given
open_added t memory f o =
    cond (nat_le 64 t.nopens) (refused NoFids)
    (done (with_opens t (opens_of t ++ (o ∷ []))) memory (opened_said f.full o.fid (size_of t o.file) f.access))

-- the count of the opens, as code reads it
pub opens-count : (w : List ℕ) → (tables_of w).nopens ≡ word w 130
unfolding tables_of
opens-count w = first_word w 130 577 (omega arith)

-- one open more in the part that was lent: the tables with it, and words in use that fit where they did
pub opens-more : (w e : List ℕ) → length w ≡ 1605 → (o : Open) → length e ≡ 577 → Appended open_array open_limits 64 no_open (part w 130 577) e o
    → (tables_of (lent w 130 577 e) ≡ with_opens (tables_of w) (opens_of (tables_of w) ++ (o ∷ []))) × (in_use_fit w ≡ true → in_use_fit (lent w 130 577 e) ≡ true)
unfolding tables_of
opens-more w e full o long a = (
  with-opens w e full (opens_in (part w 130 577) ++ (o ∷ [])) long a.holds,
  λ f. fit-opens w e full long f (a.fit (told_fit w f).opens-fit),
)

-- ---- the file of a name

module _ (w name : List ℕ) (k : ℕ) (e : found (is_named name) (names_in (part w 1380 225)) ≡ Some k) where
  listed : k < length (names_in (part w 1380 225))
  listed = found_below (is_named name) (names_in (part w 1380 225)) k e

  pub name-place : k < 16
  unfolding name_array
  name-place =
      let long : length (name_array (part w 1380 225)) ≡ 16 = length-array name_of 14 16 (part w 1380 225) in
      let few : length (names_in (part w 1380 225)) ≡ min (word (part w 1380 225) 0) (length (name_array (part w 1380 225))) = length-take (word (part w 1380 225) 0) (name_array (part w 1380 225)) in
      let here = listed in
      omega arith

  -- the name at that place in the room is the one found among those in use
  pub name-same : get_or (name_array (part w 1380 225)) k no_name ≡ slice_index_or (names_of (tables_of w)) k no_name
  unfolding tables_of
  name-same =
      let few : length (names_in (part w 1380 225)) ≡ min (word (part w 1380 225) 0) (length (name_array (part w 1380 225))) = length-take (word (part w 1380 225) 0) (name_array (part w 1380 225)) in
      let here = listed in
      let used : k < word (part w 1380 225) 0 = omega arith in
      sym (get_or-take (word (part w 1380 225) 0) (name_array (part w 1380 225)) k no_name used)

  pub name-listed : Good (tables_of w) → (get_or (name_array (part w 1380 225)) k no_name).file ≤ 15
  name-listed g = rw name-same (leb-true (get_or (names_of (tables_of w)) k no_name).file 15 (named-file (tables_of w) g k name (ap (found (is_named name)) (names_in_lem w) ∙ e)))

-- The names of the catalogue (document 02, CR 6): "a catalogue, set whole by the host, of up to 16 names of 1 to 12 bytes, each with a file number,
-- compared with ASCII letters caseless". Assumes nothing.
use Rattle.std.specs.Prelude.{ℕ, ◌+◌, Bool, true, false, cond, not, ◌&&◌, List, [], ◌∷◌, take, leb, eqb}
use Rattle.lists.specs.Walk.{all, all_tails}
use Rattle.records.specs.declared.Name.{Name}

-- "ASCII letters caseless": A to Z (65 to 90) are taken for a to z, and nothing else is folded
unfoldable pub folded : ℕ → ℕ
folded b = cond (leb 65 b && leb b 90) (b + 32) b

-- two names are the same: as many bytes, and each the same when folded
unfoldable pub same_name : List ℕ → List ℕ → Bool
same_name [] [] = true
same_name [] (b ∷ bs) = false
same_name (a ∷ rest) [] = false
same_name (a ∷ rest) (b ∷ bs) = eqb (folded a) (folded b) && same_name rest bs

-- the bytes of a name
unfoldable pub name_bytes : Name → List ℕ
name_bytes n = take n.length n.text

-- a catalogue's name is the one asked for
unfoldable pub is_named : List ℕ → Name → Bool
is_named name n = same_name (name_bytes n) name

unfoldable pub not_zero : ℕ → Bool
not_zero b = not (eqb b 0)

-- "names of 1 to 12 bytes", none "with a zero byte", and no "file above 15"
unfoldable pub name_ok : Name → Bool
name_ok n = leb 1 n.length && (leb n.length 12 && (all not_zero (name_bytes n) && leb n.file 15))

-- none is "doubled"
unfoldable pub differ : Name → Name → Bool
differ n m = not (is_named (name_bytes n) m)

unfoldable pub none_doubled : List Name → Bool
none_doubled names = all_tails (λ n later. all (differ n) later) names

-- "up to 16 names", so many being in use of those in the room
unfoldable pub catalogue_ok : List Name → ℕ → Bool
catalogue_ok names count = leb count 16 && (all name_ok (take count names) && none_doubled (take count names))

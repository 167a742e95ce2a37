-- Where the bytes that a read yields stand in the file memory: "It yields the file's bytes in the range below its size."
-- Assumes nothing.
use Rattle.std.specs.Prelude.{◌≡◌, ℕ, zero, suc, ◌+◌, ◌-◌, ◌*◌, ◌<◌, ◌≤◌, min, Bool, true, false, cond, List, [], ◌∷◌, length, take, drop, nat_le, Ok}
use Rattle.std.proofs.Math.Path.{refl}
use Rattle.std.proofs.Common.{sym, ap, arith, length-take, drop_of_length-le, take_all, take-take, drop-drop, leb-true, leb-false, le-leb}
use Rattle.std.proofs.Math.Decide.{dec_le}
use Rattle.std.proofs.Math.Seq.{take-nil}
use Rattle.records.specs.declared.Tables.{Tables}
use Rattle.invariants.specs.SoundParts.{sound-says}
use Rattle.message.specs.declared.answer.Answer.{Answer}
use Rattle.message.specs.declared.answer.Answer.TheVariants.{Read}
use Rattle.message.specs.Contents.{size_of, contents, read_bytes}
use Rattle.message.specs.Command.{done, read}
use Rattle.message.specs.Given.{said_of, bytes_inside, given_of}
use Rattle.invariants.specs.Sound.{Good, size-most}

unfoldable pub read_part : Tables → ℕ → ℕ → ℕ → Answer
read_part t file offset most =
    cond (nat_le (size_of t file) offset) (Read 0 0) (Read (file * 4096 + offset) (min most (size_of t file - offset)))

-- a part of the first elements
pub drop-take : (o n : ℕ) (l : List ℕ) → drop o (take n l) ≡ take (n - o) (drop o l)
drop-take zero n l = let e : n ≡ n - 0 = omega arith in ap (λ (k : ℕ). take k l) e
drop-take (suc o) zero l = let e : 0 - suc o ≡ 0 = omega arith in rw e
drop-take (suc o) (suc n) [] = sym (take-nil (suc n - suc o))
drop-take (suc o) (suc n) (x ∷ l) = let e : suc n - suc o ≡ n - o = omega arith in rw e (drop-take o n l)

take_min : (a b : ℕ) (l : List ℕ) → take a (take b l) ≡ take (min a b) l
take_min a b l =
    elim (dec_le a b) [
      | yes h ↦ let e : min a b ≡ a = omega arith in rw e (take-take a b l h)
      | no h ↦
          let e : min a b ≡ b = omega arith in
          let short : length (take b l) ≤ a = rw length-take (omega arith) in
          rw e (take_all a (take b l) short)
    ]

-- the bytes there are those that the read yields
part-reads : (b : Bool) (t : Tables) (m : List ℕ) (file offset most : ℕ) → nat_le (size_of t file) offset ≡ b
    → said_of (cond b (Read 0 0) (Read (file * 4096 + offset) (min most (size_of t file - offset)))) m ≡ read (read_bytes t m file offset most)
unfolding said_of read_bytes contents
part-reads true t m file offset most e =
    let past : size_of t file ≤ offset = leb-true (size_of t file) offset e in
    let short : length (take (size_of t file) (drop (file * 4096) m)) ≤ offset = rw length-take (omega arith) in
    rw (drop_of_length-le (take (size_of t file) (drop (file * 4096) m)) short, take-nil most)
part-reads false t m file offset most e =
    rw (drop-take offset (size_of t file) (drop (file * 4096) m), drop-drop offset (file * 4096) m, take_min most (size_of t file - offset) (drop (file * 4096 + offset) m))

part-inside : (b : Bool) (t : Tables) (file offset most : ℕ) → Good t → file ≤ 15 → nat_le (size_of t file) offset ≡ b
    → bytes_inside (cond b (Read 0 0) (Read (file * 4096 + offset) (min most (size_of t file - offset)))) ≡ true
unfolding bytes_inside
part-inside true t file offset most g h e = refl
part-inside false t file offset most g h e =
    let low : offset < size_of t file = leb-false (size_of t file) offset e in
    let full : size_of t file ≤ 4096 = size-most t file (sound-says t g.sound) in
    le-leb (file * 4096 + offset + min most (size_of t file - offset)) 65536 (omega arith)

module _ (t : Tables) (file offset most : ℕ) where
  pub part-said : (m : List ℕ) → said_of (read_part t file offset most) m ≡ read (read_bytes t m file offset most)
  unfolding read_part
  part-said m = part-reads (nat_le (size_of t file) offset) t m file offset most refl

  pub part-given : (u : Tables) (m : List ℕ) → given_of (Ok (read_part t file offset most)) u m ≡ done u m (read (read_bytes t m file offset most))
  unfolding given_of
  part-given u m = ap (done u m) (part-said m)

  pub part-within : Good t → file ≤ 15 → bytes_inside (read_part t file offset most) ≡ true
  unfolding read_part
  part-within g h = part-inside (nat_le (size_of t file) offset) t file offset most g h refl

-- The whole listing of a message fits 65,536 bytes, so the lister's program prints all of it.
-- Assumes nothing.
use Rattle.std.specs.Prelude.{◌≡◌, ℕ, suc, ◌+◌, ◌*◌, ◌/◌, ◌%◌, ◌≤◌, ◌<◌, Bool, true, false, List, [], ◌∷◌, ◌++◌, ltb, Option, None, Some, None as End, Some as Whole}
use Rattle.std.proofs.Math.Path.{refl}
use Rattle.std.proofs.Math.Decide.{dec_lt}
use native.Mathlib.Omega.{arith}
use Rattle.std.proofs.Math.ListN.{length, length-append}
use Rattle.lists.specs.Truth.{neither-holds}
use Rattle.std.proofs.Common.{ltb-false}
use Rattle.chain.specs.Layout.{FIRST, header_command, block_end}
use Rattle.chain.specs.Header.{dropped}
use Rattle.chain.specs.Parse.{parse}
use Rattle.chain.proofs.ParseLaws.{placed}
use Rattle.chain.specs.Chain.{blocks_from, blocks}
use Rattle.chain.specs.Next.{Next, Follow}
use Rattle.chain.specs.declared.block.Block.{Block}
use Rattle.text.specs.Digits.{decimal, hex_byte}
use Rattle.listing.specs.Text.{line, end_line, lines_from, not_chain, dropped_line, listed, listing}
use Rattle.text.specs.DigitLaws.{decimal-small, decimal-more}
use Rattle.invariants.specs.BlockParse.{block_at, parse-complete}
use Rattle.invariants.specs.Chained.{Chained, chained-end, chained_more, read-chained}

-- a number below ten has one digit
one-digit : (n : ℕ) → n < 10 → length (decimal n) ≤ 1
one-digit n h = rw (decimal-small n h) (omega arith)

-- and one digit more than its tenth
digit-more : (n m : ℕ) → length (decimal (n / 10)) ≤ m → length (decimal n) ≤ suc m
digit-more n m h = go (dec_lt n 10)
  where
    go : Dec (n < 10) → length (decimal n) ≤ suc m
    go (yes k) = let e = one-digit n k in omega arith
    go (no k) =
        let long : length (decimal (n / 10) ++ ((48 + n % 10) ∷ [])) ≡ length (decimal (n / 10)) + 1 = length-append (decimal (n / 10)) ((48 + n % 10) ∷ []) in
        rw (decimal-more n (omega arith), long) (omega arith)

four-digits : (n : ℕ) → n < 10000 → length (decimal n) ≤ 4
four-digits n h =
    let small : n / 10 / 10 / 10 < 10 = omega arith in
    digit-more n 3 (digit-more (n / 10) 2 (digit-more (n / 10 / 10) 1 (one-digit (n / 10 / 10 / 10) small)))

-- a line has at most 18 bytes
line-few : (k : ℕ) (b : Block) → k < 10000 → b.at < 10000 → b.length < 10000 → length (line k b) ≤ 18
unfolding line hex_byte
line-few k b h i j =
    let x = four-digits k h in
    let y = four-digits b.at i in
    let z = four-digits b.length j in
    simp length-append (omega arith)

module _ (s : List ℕ) (short : length s ≤ 8192) where
  -- what the lines of a chain take, and what its blocks take
  pub record Few (k at : ℕ) (bs : List Block) : Type 0 where
    pub lines : length (lines_from k bs) ≤ 18 * length bs + 4
    pub bytes : at + 3 * length bs ≤ length s

  few-end : (k command at : ℕ) (next : Next) → parse s command at ≡ Whole (block_at s command at next) → k ≤ at → Few k at (block_at s command at next ∷ [])
  unfolding lines_from end_line block_at
  few-end k command at next e h =
      let inside : block_end s at ≤ length s = (placed s at (block_at s command at next) command e).inside in
      let first : length (line k (block_at s command at next)) ≤ 18 = line-few k (block_at s command at next) (omega arith) (omega arith) (omega arith) in
      record { lines = rw length-append (omega arith); bytes = omega arith }

  few-more : (k command at c a : ℕ) (rest : List Block) → parse s command at ≡ Whole (block_at s command at (Follow c a)) → k ≤ at
      → Few (suc k) a rest → Few k at (block_at s command at (Follow c a) ∷ rest)
  unfolding lines_from block_at
  few-more k command at c a rest e h f =
      let inside : block_end s at ≤ length s = (placed s at (block_at s command at (Follow c a)) command e).inside in
      let ahead : block_end s at ≤ a = (placed s at (block_at s command at (Follow c a)) command e).ahead c a refl in
      let first : length (line k (block_at s command at (Follow c a))) ≤ 18 = line-few k (block_at s command at (Follow c a)) (omega arith) (omega arith) (omega arith) in
      let behind = f.lines in
      let left = f.bytes in
      record { lines = rw length-append (omega arith); bytes = omega arith }

  few : (k : ℕ) {command at : ℕ} {bs : List Block} → Chained s command at bs → k ≤ at → Few k at bs
  unfolding block_at
  few k (chained-end {command} {at} h l) m = few-end k command at End (parse-complete s at h l) m
  few k (chained_more {command} {at} {c} {a} {rest} h l r) m =
      let e : parse s command at ≡ Whole (block_at s command at (Follow c a)) = parse-complete s at h l in
      let ahead : block_end s at ≤ a = (placed s at (block_at s command at (Follow c a)) command e).ahead c a refl in
      few-more k command at c a rest e m (few (suc k) r (omega arith))

  listed-fits : (o : Option (List Block)) → blocks_from s (header_command s) FIRST ≡ o → length (listed o) ≤ 65536
  unfolding listed not_chain
  listed-fits None e = omega arith
  listed-fits (Some bs) e =
      let f = few 1 (read-chained s (header_command s) FIRST bs e) (omega arith) in
      let lines = f.lines in
      let bytes = f.bytes in
      omega arith

-- the listing of any message fits
pub listing-fits : (s : List ℕ) → length (listing s) ≤ 65536
unfolding listing dropped_line dropped blocks
listing-fits s = go (dropped s) refl
  where
    go : (d : Bool) → dropped s ≡ d → length (listing s) ≤ 65536
    go true e = rw e (omega arith)
    go false e =
        let a = neither-holds (ltb (length s) 35) _ e in
        let b = neither-holds (ltb 8192 (length s)) _ a.1 in
        let short : length s ≤ 8192 = ltb-false 8192 (length s) b.0 in
        rw e (listed-fits s short (blocks_from s (header_command s) FIRST) refl)

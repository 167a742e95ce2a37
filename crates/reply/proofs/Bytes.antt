-- Bytes as they are written, one by one, are those of the definitions. Assumes nothing.
use mathlib.Core.Path.{◌≡◌, ◌∙◌, sym}
use Prim.Native.Nat.{ℕ, ◌/◌, ◌%◌, ◌<◌}
use native.Mathlib.Omega.{arith}
use mathlib.Core.List.{List, [], ◌∷◌, ◌++◌}
use Rattle.lists.specs.Put.{put}
use Rattle.message.specs.Reply.{two, four, link_words}
use Rattle.chain.specs.Next.{Next}
use Rattle.reply.specs.Links.{link_command, link_place, link-parts}

-- a write of equal bytes
pub laid_as : (d : List ℕ) {e x y : List ℕ} → e ≡ put d 0 x → x ≡ y → e ≡ put d 0 y
laid_as d p q = p ∙ (λ i. put d 0 (q i))

-- a number in two bytes
pub two_bytes : (n : ℕ) {low high : ℕ} → low ≡ n % 256 → high ≡ n / 256 % 256 → low ∷ high ∷ [] ≡ two n
unfolding two
two_bytes n l h = λ i. l i ∷ h i ∷ []

-- one that is a byte
pub one_byte : (n : ℕ) → n < 256 → n ∷ 0 ∷ [] ≡ two n
one_byte n h =
    let low : n ≡ n % 256 = omega arith in
    let high : 0 ≡ n / 256 % 256 = omega arith in
    two_bytes n low high

-- a number in four bytes
pub four_bytes : (n : ℕ) {upper b0 b1 b2 b3 : ℕ} → upper ≡ n / 65536 → b0 ≡ n % 256 → b1 ≡ n / 256 % 256 → b2 ≡ upper % 256 → b3 ≡ upper / 256 % 256
    → b0 ∷ b1 ∷ b2 ∷ b3 ∷ [] ≡ four n
unfolding four
four_bytes n {upper} u e0 e1 e2 e3 = (λ i. two_bytes n e0 e1 i ++ two_bytes upper e2 e3 i) ∙ (λ i. two n ++ two (u i))

-- the AndX words: the command, a zero byte, and the place in two bytes
pub link-bytes : (link : Next) {command place low high : ℕ} → command ≡ link_command link → place ≡ link_place link
    → low ≡ place % 256 → high ≡ place / 256 % 256 → command ∷ 0 ∷ low ∷ high ∷ [] ≡ link_words link
link-bytes link {command} {place} c p l h =
    (λ i. command ∷ 0 ∷ two_bytes place l h i) ∙ (λ i. c i ∷ 0 ∷ two (p i)) ∙ sym (link-parts link)

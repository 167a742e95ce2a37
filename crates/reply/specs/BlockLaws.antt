-- How long the block of an answer is. Assumes nothing.
use Rattle.std.specs.Prelude.{◌≡◌, refl, ℕ, ◌+◌, ◌≤◌, true, List, length, take, drop, Ok, Err}
use Rattle.std.proofs.Common.{ap, ◌∙◌, length-take, length-drop, leb-true, arith}
use Rattle.message.specs.Reply.{reply_size, refused_block}
use Rattle.message.specs.Given.{Answered, said_of, bytes_inside, inside, block_of, done_size, answer_size}
use Rattle.chain.specs.Next.{Next}
use Rattle.message.specs.declared.answer.Answer.{Answer}
use Rattle.message.specs.declared.answer.Answer.TheVariants.{Locked, LoggedOff, Read, Wrote, Plain, CoreRead, CoreWrote, Opened}
use Rattle.invariants.specs.ReplySize.{length-block}

-- the bytes that a READ yields are as many as it says
pub length-yielded : (memory : List ℕ) (at count : ℕ) → at + count ≤ length memory → length (take count (drop at memory)) ≡ count
length-yielded memory at count h = rw (length-take, length-drop) (omega arith)

-- they lie in the file memory
pub read-inside : (a : Answer) (at count : ℕ) → a ≡ Read at count → bytes_inside a ≡ true → at + count ≤ 65536
unfolding bytes_inside
read-inside a at count e i = leb-true (at + count) 65536 (rw e at i)

pub core-inside : (a : Answer) (at count : ℕ) → a ≡ CoreRead at count → bytes_inside a ≡ true → at + count ≤ 65536
unfolding bytes_inside
core-inside a at count e i = leb-true (at + count) 65536 (rw e at i)

-- "Reply blocks": what is said fills the block that it is given
pub length-said : (a : Answer) (memory : List ℕ) → bytes_inside a ≡ true → length memory ≡ 65536 → reply_size (said_of a memory) ≡ done_size a
unfolding said_of done_size reply_size
length-said Locked memory i m = refl
length-said LoggedOff memory i m = refl
length-said (Read at count) memory i m =
    let fits : at + count ≤ 65536 = read-inside (Read at count) at count refl i in
    ap (λ (k : ℕ). 27 + k) (length-yielded memory at count (omega arith))
length-said (Wrote count) memory i m = refl
length-said Plain memory i m = refl
length-said (CoreRead at count) memory i m =
    let fits : at + count ≤ 65536 = core-inside (CoreRead at count) at count refl i in
    ap (λ (k : ℕ). 16 + k) (length-yielded memory at count (omega arith))
length-said (CoreWrote count) memory i m = refl
length-said (Opened fid size access results) memory i m = refl

-- a block's length by the answer alone
pub length-of-block : (a : Answered) (memory : List ℕ) (place : ℕ) (link : Next) → inside a ≡ true → length memory ≡ 65536
    → length (block_of a memory place link) ≡ answer_size a
unfolding inside block_of answer_size refused_block
length-of-block (Err why) memory place link i m = refl
length-of-block (Ok a) memory place link i m = length-block (said_of a memory) place link ∙ length-said a memory i m

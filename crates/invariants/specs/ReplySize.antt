-- How long replies are. Assumes nothing.
use Rattle.std.specs.Prelude.{◌≡◌, refl, ℕ, ◌≤◌, List, length, take, drop, None as none, Some}
use Rattle.std.proofs.Common.{arith, length-take, length-drop}
use Rattle.message.specs.declared.refusal.Forms.{Forms}
use Rattle.message.specs.Command.{Said, locked, logged_off, read, wrote, plain, core_read, core_wrote, opened}
use Rattle.message.specs.Reply.{two, four, reply_header, link_words, reply_block, reply_size}
use Rattle.chain.specs.Next.{Next, Follow}

-- "Reply blocks": a block's length by what it says, whatever it names and wherever it stands
pub length-block : (said : Said) (place : ℕ) (link : Next) → length (reply_block said place link) ≡ reply_size said
unfolding reply_block reply_size link_words two four
length-block locked place none = refl
length-block locked place (Some follower) = refl
length-block logged_off place none = refl
length-block logged_off place (Some follower) = refl
length-block (read bytes) place none = omega arith
length-block (read bytes) place (Some follower) = omega arith
length-block (wrote count) place none = refl
length-block (wrote count) place (Some follower) = refl
length-block plain place link = refl
length-block (core_read bytes) place link = omega arith
length-block (core_wrote count) place link = refl
length-block (opened fid size access results) place none = refl
length-block (opened fid size access results) place (Some follower) = refl

-- "Header": "32 bytes"
pub length-header : (s : List ℕ) (why : Forms) → 32 ≤ length s → length (reply_header s why) ≡ 32
unfolding reply_header two four
length-header s why h =
    let e : length (take 8 (drop 24 s)) ≡ 8 = rw (length-take, length-drop) (omega arith) in
    omega arith

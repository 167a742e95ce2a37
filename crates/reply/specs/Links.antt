-- What the AndX words name, and their parts. Assumes nothing.
use Rattle.std.specs.Prelude.{◌≡◌, refl, ℕ, ◌∷◌, None as End, None as none, Some}
use Rattle.chain.specs.Next.{Next, Follow}
use Rattle.message.specs.Reply.{two, link_words}

-- "AndX names the next block written": by the command that the request's AndX gives, at the place where it is written
unfoldable pub link_for : Next → ℕ → Next
link_for End place = none
link_for (Some follower) place = Follow follower.command place

-- AndXCommand and AndXOffset
unfoldable pub link_command : Next → ℕ
link_command none = 0xFF
link_command (Some follower) = follower.command

unfoldable pub link_place : Next → ℕ
link_place none = 0
link_place (Some follower) = follower.at

-- the AndX words, by these two
pub link-parts : (link : Next) → link_words link ≡ link_command link ∷ 0 ∷ two (link_place link)
unfolding link_words link_command link_place two
link-parts none = refl
link-parts (Some follower) = refl

-- `gateway::byte_stream::state_in` meets its contract: word by word. Assumes nothing.
use borrow.Author.Rules.{rules}
use mathlib.Core.Path.{◌≡◌, refl, sym}
use lib.ListN.{length}
use Rattle.boundary.specs.StreamWords.{state_in}
use Rattle.boundary.specs.StreamWordsLaws.{words-state}
use Rattle.gateway.proofs.byte_stream.state_in.Goals as goal

pub returns : goal.returns
unfolding state_in
returns c =
    let words = c.args.words.now in
    let seven : length words ≡ 7 = search rules in
    record { value = refl; words_value = sym (words-state words seven) }

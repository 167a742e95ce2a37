-- `listing::list_message` meets its contract: one text for each of the three answers.
-- Assumes nothing.
use Rattle.listing.proofs.Lines.{listing-dropped, listing_none, sentence-read, listing-lines}
use Rattle.listing.specs.Text.{dropped_line, not_chain}
use mathlib.Core.Path.{sym, ◌∙◌}
use native.Mathlib.Omega.{arith}
use Rattle.listing.proofs.list_message.Goals as goal

pub returns-then-is_dropped : goal.returns-then-is_dropped
unfolding dropped_line
returns-then-is_dropped c =
    let args = c.args in
    let is-dropped = c.is_dropped in
    rw (listing-dropped args.s.now (sym is-dropped.ensures ∙ c.if-is_dropped.true)) c.put_text.ensures

pub returns-then-not-is_sentence : goal.returns-then-not-is_sentence
unfolding not_chain
returns-then-not-is_sentence c =
    let args = c.args in
    let is-dropped = c.is_dropped in
    let if1 = c.if-is_dropped in
    let byte-at = c.byte_at-command in
    let is-sentence = c.is_sentence in
    rw (listing_none args.s.now byte-at.result byte-at.ensures (sym is-dropped.ensures ∙ if1.false) (sym is-sentence.ensures ∙ c.if-not-is_sentence.true)) c.put_text-then-not-is_sentence.ensures

pub put_blocks-requires : goal.put_blocks-requires
put_blocks-requires c =
    let args = c.args in
    let byte-at = c.byte_at-command in
    record { k_le_place = omega arith; sentence_from = sentence-read args.s.now byte-at.result byte-at.ensures (sym c.is_sentence.ensures ∙ c.if-not-is_sentence.false) }

pub returns : goal.returns
returns c =
    let args = c.args in
    let is-dropped = c.is_dropped in
    let if1 = c.if-is_dropped in
    let byte-at = c.byte_at-command in
    let is-sentence = c.is_sentence in
    rw (listing-lines args.s.now byte-at.result byte-at.ensures (sym is-sentence.ensures ∙ c.if-not-is_sentence.false) (sym is-dropped.ensures ∙ if1.false)) c.put_blocks.ensures

-- Of specs/FreeBytes.antt: what rests on its other theorems. Assumes nothing.
use Rattle.std.specs.Prelude.{◌≡◌, ℕ, ◌+◌, ◌≤◌, ◌<◌, Some, None as End}
use Rattle.std.proofs.Math.Path.{refl, sym, ap}
use Rattle.std.proofs.Common.{◌∙◌, arith}
use mathlib.Core.List.Memᴰ.{head as first}
use mathlib.Core.List.Memᴰ.{tail as later}
use mathlib.Core.List.{List, [], ◌∷◌}
use Rattle.wire.specs.LittleEndian.{le16_at}
use Rattle.chain.specs.Layout.{NO_COMMAND, header_command, word_count, block_end, andx_command, andx_offset, data_offset}
use Rattle.chain.specs.Grammar.{IsBlock, MayFollow, NamedAndx, Span, span_at, ReadingFrom, plain_end, andx-end, andx-next, Reading}
use Rattle.chain.specs.Chain.{before, blocks_from, blocks}
use Rattle.chain.specs.Next.{Next, Follow}
use Rattle.chain.specs.declared.block.Block.{Block}
use Rattle.invariants.specs.BlockParse.{body_at, block_at, Linked, link-plain, link-end, link-next, parse-complete, follow-andx, follow-not-end, write-words, andx-words, block_size}
use Rattle.readings.specs.SameNumbers.{same-16}
use Rattle.readings.specs.Unread.{Unread}
use Rattle.readings.specs.UnreadLaws.{in_words, unread-write, unread-front}
use Rattle.readings.proofs.UnreadLaws.{offset-looked}
use Rattle.chain.specs.ChainLaws.{chain-end}
use Rattle.chain.proofs.ChainLaws.{chain_more}
use Rattle.invariants.specs.ReaderSound.{reader-sound-from}
use Rattle.readings.specs.ReaderComplete.{reader-complete-from}
use Rattle.readings.specs.Moved.{Moved}
use Rattle.readings.proofs.Moved.{moved-block, moved-body, moved-size}
use Rattle.readings.specs.FreeBytes.{Alike, AllAlike, AllStand, byte-same, moved_nowhere, stands_alike}

module _ {s t : List ℕ} {command at : ℕ} (h : IsBlock s at command) (alike : Alike s t (span_at s command at)) where
  -- a number of two such bytes
  pub number_same : (k : ℕ) → k + 2 ≤ block_size s at → ((i : ℕ) → k ≤ i → i < k + 2 → Unread s at command i → ⊥) → le16_at t (at + k) ≡ le16_at s (at + k)
  number_same k l n =
      same-16 s (at + k) t (at + k)
      (λ j b. let e : at + k + j ≡ at + (k + j) = omega arith in rw e ((byte-same h alike) (k + j) (omega arith) (n (k + j) (omega arith) (omega arith))))

  -- it moved nowhere
  pub unmoved : Moved s at t at command
  unfolding span_at
  unmoved =
      record {
        kept = λ k l p. (byte-same h alike) k l p.1;
        inside = alike.inside;
        data-moved = λ e. let w : 12 ≤ word_count s at = write-words h e in
            let o : data_offset t at ≡ data_offset s at =
            number_same 23 (omega arith) (λ i p q u. let v = unread-write e (in_words (λ _ _. omega arith) (omega arith) u) in omega arith) in
            omega arith;
      }

  -- its AndX words too
  pub andx-command-same : NamedAndx command → andx_command t at ≡ andx_command s at
  andx-command-same a =
      let w : 2 ≤ word_count s at = andx-words h a in
      (byte-same h alike) 1 (omega arith) (λ u. let v = unread-front (in_words (λ _ l. omega arith) (omega arith) u) in omega arith)

  -- the offset unless "0xFF ends the chain and the offset is ignored"
  pub andx-offset-same : NamedAndx command → (andx_command s at ≡ NO_COMMAND → ⊥) → andx_offset t at ≡ andx_offset s at
  andx-offset-same a n =
      let w : 2 ≤ word_count s at = andx-words h a in
      number_same 3 (omega arith) (λ i p q. offset-looked a n w p (omega arith))

  -- the same is read of it
  pub block_same : (next : Next) → block_at t command at next ≡ block_at s command at next
  unfolding block_at
  block_same next =
      let e : body_at t command at ≡ body_at s command at = moved-body h unmoved ∙ moved_nowhere at (body_at s command at) in
      let f : block_size t at ≡ block_size s at = moved-size unmoved h in
      rw (e, f)

  pub end_same : block_end t at ≡ block_end s at
  end_same = let e : block_size t at ≡ block_size s at = moved-size unmoved h in omega arith

  -- its link is by the rules again
  pub link-same : {next : Next} → Linked s command at next → Linked t command at next
  link-same (link-plain p) = link-plain p
  link-same (link-end a e) = link-end a (andx-command-same a ∙ e)
  link-same (link-next f g) =
      let c : andx_command t at ≡ andx_command s at = andx-command-same (follow-andx f) in
      let o : andx_offset t at ≡ andx_offset s at = andx-offset-same (follow-andx f) (follow-not-end f) in
      let e : block_end t at ≡ block_end s at = end_same in
      let m : MayFollow command (andx_command t at) = rw c f in
      let l : block_end t at ≤ andx_offset t at = omega arith in
      rw (← c, ← o) (link-next m l)

  -- a last block
  pub same_end : Linked s command at End → blocks_from t command at ≡ blocks_from s command at
  unfolding block_at
  same_end l =
      chain-end t command at (block_at t command at End) (parse-complete t at (moved-block h unmoved) (link-same l)) refl
      ∙ ap (λ (b : Block). Some (b ∷ [])) (block_same End)
      ∙ sym (chain-end s command at (block_at s command at End) (parse-complete s at h l) refl)

  -- one with others behind it
  pub same_more : (c a : ℕ) → Linked s command at (Follow c a) → blocks_from t c a ≡ blocks_from s c a → blocks_from t command at ≡ blocks_from s command at
  unfolding block_at
  same_more c a l e =
      chain_more t command at (block_at t command at (Follow c a)) (parse-complete t at (moved-block h unmoved) (link-same l)) c a refl
      ∙ ap (before (block_at t command at (Follow c a))) e
      ∙ ap (λ (b : Block). before b (blocks_from s c a)) (block_same (Follow c a))
      ∙ sym (chain_more s command at (block_at s command at (Follow c a)) (parse-complete s at h l) c a refl)

-- "unchanged" is more
pub all_alike : {s t : List ℕ} {spans : List Span} → AllStand s t spans → AllAlike s t spans
all_alike stands x i = stands_alike (stands x i)

-- the reader answers the same blocks for both messages, from a place on
pub unread-blocks-from : {s : List ℕ} (t : List ℕ) {command at : ℕ} {spans : List Span} → ReadingFrom s command at spans → AllAlike s t spans
    → blocks_from t command at ≡ blocks_from s command at
unread-blocks-from {s} t (plain_end {command} {at} h p) alike = same_end h (alike (span_at s command at) (first refl)) (link-plain p)
unread-blocks-from {s} t (andx-end {command} {at} h a e) alike = same_end h (alike (span_at s command at) (first refl)) (link-end a e)
unread-blocks-from {s} t (andx-next {command} {at} {rest} h m g r) alike =
    same_more h (alike (span_at s command at) (first refl)) (andx_command s at) (andx_offset s at) (link-next m g)
    (unread-blocks-from t r (λ x i. alike x (later i)))

-- a reading of one is the other's too, from a place on
pub unread-reading-from : {s : List ℕ} (t : List ℕ) {command at : ℕ} {spans : List Span} → ReadingFrom s command at spans → AllAlike s t spans
    → ReadingFrom t command at spans
unread-reading-from {s} t {command} {at} r alike =
    let a = reader-complete-from r in
    rw (← a.same) (reader-sound-from t command at a.bs (unread-blocks-from t r alike ∙ a.answer))

module _ {s : List ℕ} (t : List ℕ) {spans : List Span} (e : header_command t ≡ header_command s) (r : Reading s spans) where
  -- "Timeout fields are not looked at", "0xFF ends the chain and the offset is ignored": of two messages with the same header command, if the blocks of a
  -- reading of one stand at the same places in the other, but for bytes that are not looked at, it is the other's reading too
  pub unread-reading : AllAlike s t spans → Reading t spans
  unread-reading alike = rw e (unread-reading-from t r alike)

  -- with the same fields of every block
  pub unread-blocks : AllAlike s t spans → blocks t ≡ blocks s
  unfolding blocks
  unread-blocks alike = rw e (unread-blocks-from t r alike)

  -- "If the blocks of a reading of one stand unchanged at the same places in the other, it is the other's reading too"
  pub free-reading : AllStand s t spans → Reading t spans
  free-reading stands = unread-reading (all_alike stands)

  -- with the same fields of every block. (That the call then gives the same is `free-taken`, in demands, `Taken.antt`.)
  pub free-blocks : AllStand s t spans → blocks t ≡ blocks s
  free-blocks stands = unread-blocks (all_alike stands)

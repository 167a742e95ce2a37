-- A catalogue written down as one byte for each of its 225 words. Assumes nothing.
use Rattle.std.specs.Prelude.{ℕ, ◌+◌, List}
use Rattle.wire.specs.LittleEndian.{byte_at}
use Rattle.tables.specs.Words.{up_to}

-- the bytes from a place on, word by word
unfoldable pub catalogue_words : List ℕ → ℕ → List ℕ
catalogue_words s at = up_to (λ i. byte_at s (at + i)) 225

-- Of specs/Inside.antt: what rests on its other theorems. Assumes nothing.
use Rattle.std.specs.Prelude.{ℕ, [], ◌∷◌}
use Rattle.chain.specs.Grammar.{ReadingFrom, Reading}
use Rattle.invariants.specs.ReaderSound.{span_of, reader-sound-from, reader-sound}
use Rattle.literals.specs.Inside.{read-inside, read_at, read_behind, write_then_read}

pub stands-inside : (offset : ℕ) → ReadingFrom (write_then_read offset) 0x2E 59 (record { command = 0x2E; place = 59; size = 23 } ∷ [])
unfolding span_of read_at
stands-inside offset = reader-sound-from (write_then_read offset) 0x2E 59 (read_at 59 1 2 ∷ []) (read-inside offset)

pub behind-sentence : Reading (write_then_read 82) (record { command = 0x2F; place = 32; size = 50 } ∷ record { command = 0x2E; place = 82; size = 23 } ∷ [])
unfolding span_of read_at
behind-sentence = reader-sound (write_then_read 82) _ read_behind

-- Of specs/Possible3.antt: what rests on its other theorems. Assumes nothing.
use Rattle.std.specs.Prelude.{◌≡◌, refl, ℕ, List, ◌++◌, replicate, get_or, None as Nobody}
use Rattle.std.proofs.Common.{ap, ◌∙◌, arith}
use Rattle.wire.specs.LittleEndian.{le16_at, le32_at}
use Rattle.records.specs.declared.Tables.{Tables}
use Rattle.chain.specs.Layout.{LOCKING, READ, WRITE, CORE-READ, CORE-WRITE, LOCK_BYTE_RANGE, UNLOCK_BYTE_RANGE}
use Rattle.chain.specs.Parse.{shaped, core_write_fits, answer, parse_core_write, parse}
use Rattle.chain.specs.Chain.{after_block, after_parse, blocks_within, blocks_from, blocks}
use Rattle.message.specs.Message.{answered, Taken, replied}
use Rattle.invariants.specs.Sound.{Good}
use Rattle.invariants.specs.Fit.{fit-answered, take-message-good}
use Rattle.invariants.specs.ReaderSound.{span_of, reader-sound}
use Rattle.literals.specs.State.{memory}
use Rattle.literals.specs.CoreCommands.{core_write as core_write_of, size_to}
use Rattle.demands.proofs.Calls.{status-call}
use Rattle.demands.specs.Reached.{take-message-memory}
use Rattle.demands.specs.DataBlock.{BadCoreWrite, alone, not-marked}
use Rattle.demands.specs.CorePairCases.{sent, core_read, andx_read, core_write, andx_write, core_bytes, andx_locking, short100, PairSent, read-sent, write-sent, lock-sent, unlock-sent, chain-sent}
use Rattle.order.specs.Call.{gives, Answerable, Says}
use Rattle.order.specs.Request3.{AsksSize}
use Rattle.order.proofs.Request3.{request-3}
use Rattle.order.specs.Possible3.{ChainPossible, Given, PairPossible, answerable, asked, bad_block, bench, bench-sound, bench_open, both-sent, call-says, cut, given-here, good, grow, grown, grown-on-it, kept, left_there, lock_then_read, memory-whole, one-write, others, others_hold, own, too_large, valid-open}

-- the file is cut from 6 to 4
pub cut-asked : AsksSize (asked cut (bench others 0)) bench_open
unfolding asked cut sent size_to core_write_of bench_open le16_at
cut-asked =
    record {
      answerable = answerable cut (bench others 0) (good others 0 bench-sound.0) kept.0;
      one = one-write.0;
      count-0 = refl;
      valid = valid-open.0;
      may_write = λ e. let z : ◌≡◌ {A = ℕ} 2 0 = e in omega arith;
    }

pub cut-done : Says (asked cut (bench others 0)) 0 0 × ((gives (asked cut (bench others 0))).length ≡ 37) × ((gives (asked cut (bench others 0))).holder ≡ Nobody)
cut-done = call-says cut (bench others 0) cut-asked.answerable 0 0 5 Nobody given-here.0

-- past 4,096
pub too-large-asked : AsksSize (asked too_large (bench others 0)) bench_open
unfolding asked too_large sent size_to core_write_of bench_open le16_at
too-large-asked =
    record {
      answerable = answerable too_large (bench others 0) (good others 0 bench-sound.0) kept.2;
      one = one-write.1;
      count-0 = refl;
      valid = valid-open.1;
      may_write = λ e. let z : ◌≡◌ {A = ℕ} 2 0 = e in omega arith;
    }

pub too-large-refused : Says (asked too_large (bench others 0)) 3 39 × ((gives (asked too_large (bench others 0))).length ≡ 35)
    × ((gives (asked too_large (bench others 0))).holder ≡ Nobody)
too-large-refused = call-says too_large (bench others 0) too-large-asked.answerable 3 39 3 Nobody given-here.2

-- past 4,096 and over the others' lock on 105 to 124, which is between the sizes: 1/33 stands before 3/39
pub too-large-barred-asked : AsksSize (asked too_large (bench others 1)) bench_open
unfolding asked too_large sent size_to core_write_of bench_open le16_at
too-large-barred-asked =
    record {
      answerable = answerable too_large (bench others 1) (good others 1 bench-sound.1) kept.2;
      one = record { span = one-write.1.span; reading = one-write.1.reading; is = refl };
      count-0 = refl;
      valid = valid-open.2;
      may_write = λ e. let z : ◌≡◌ {A = ℕ} 2 0 = e in omega arith;
    }

pub too-large-barred : Says (asked too_large (bench others 1)) 1 33 × ((gives (asked too_large (bench others 1))).length ≡ 35)
    × ((gives (asked too_large (bench others 1))).holder ≡ others_hold)
too-large-barred = call-says too_large (bench others 1) too-large-barred-asked.answerable 1 33 3 others_hold given-here.9

pub grown-answerable : Answerable grown
unfolding grown asked
grown-answerable =
    let before = cut-asked.answerable in
    let left = take-message-good 5 cut (bench others 0) memory (replicate 12292 0) before.good in
    record {
      fit = record {
        room-enough = before.fit.room-enough;
        memory-whole = take-message-memory 5 cut (bench others 0) memory (replicate 12292 0) before.good ∙ memory-whole;
        tables-sound = left.sound;
        not-dropped = kept.1;
      };
      good = left;
    }

-- what the cut left, as it is computed
pub left-computed : ((gives (asked cut (bench others 0))).tables ≡ (answered 5 cut (bench others 0) memory).tables)
    × ((gives (asked cut (bench others 0))).memory ≡ (answered 5 cut (bench others 0) memory).memory)
unfolding asked replied
left-computed =
    let same = fit-answered 5 cut (bench others 0) memory (replicate 12292 0) cut-asked.answerable.fit in
    (ap (λ (k : Taken). k.tables) same, ap (λ (k : Taken). k.memory) same)

pub grown-asked : AsksSize grown bench_open
unfolding grown grow sent size_to core_write_of bench_open blocks blocks_from blocks_within after_parse after_block parse parse_core_write answer core_write_fits shaped le16_at le32_at span_of
grown-asked =
    record {
      answerable = grown-answerable;
      one = record { span = record { command = CORE-WRITE; place = 32; size = 16 }; reading = reader-sound grow _ refl; is = refl };
      count-0 = refl;
      valid = rw left-computed.0 left_there.0;
      may_write = λ e. let z : ◌≡◌ {A = ℕ} 2 0 = e in omega arith;
    }

pub grown-done : Says grown 0 0
unfolding grown Given
grown-done =
    status-call 5 grow (gives (asked cut (bench others 0))).tables (gives (asked cut (bench others 0))).memory (replicate 12292 0) grown-answerable.fit
    ∙ rw (left-computed.0, left-computed.1) given-here.1.0

-- where A4 stood, which the cut left, there is 0 now
pub old-byte-gone : (get_or (gives (asked cut (bench others 0))).memory 4100 0 ≡ 0xA4) × (get_or (gives grown).memory 4100 0 ≡ 0)
unfolding bench_open asked cut grown grow sent size_to core_write_of le32_at le16_at
old-byte-gone = (
  rw left-computed.1 left_there.1,
  (request-3.old-bytes-never-show.then-grown (asked cut (bench others 0)) grown bench_open bench_open cut-asked cut-done.0 grown-on-it grown-asked grown-done refl).in_memory 4 (omega arith)
      (omega arith),
)

pub pair-possible : (s other : List ℕ) (core counterpart : ℕ) (t : Tables) → Good t → PairSent s other core counterpart → PairPossible s other core counterpart t
unfolding asked
pair-possible s other core counterpart t ok h =
    record {
      instead = both-sent s other t ok h.both;
      of-bytes = h.both.of-bytes;
      one = record { span = h.reading-one.0; reading = h.reading-one.1; is = h.is_one };
      two = record { span = h.reading-other.0; reading = h.reading-other.1; is = h.is-other };
      equal = h.equal;
    }

pub read-possible : PairPossible (sent CORE-READ core_read) (sent READ andx_read) CORE-READ READ (bench others 0)
read-possible = pair-possible _ _ _ _ _ (good others 0 bench-sound.0) read-sent

pub write-possible : PairPossible (sent CORE-WRITE core_write) (sent WRITE andx_write) CORE-WRITE WRITE (bench others 0)
write-possible = pair-possible _ _ _ _ _ (good others 0 bench-sound.0) write-sent

pub lock-possible : PairPossible (sent LOCK_BYTE_RANGE core_bytes) (sent LOCKING (andx_locking 0xFF 0 0 1 10 short100)) LOCK_BYTE_RANGE LOCKING (bench others 1)
lock-possible = pair-possible _ _ _ _ _ (good others 1 bench-sound.1) lock-sent

pub unlock-possible : PairPossible (sent UNLOCK_BYTE_RANGE core_bytes) (sent LOCKING (andx_locking 0xFF 1 1 0 10 short100)) UNLOCK_BYTE_RANGE LOCKING (bench own 1)
unlock-possible = pair-possible _ _ _ _ _ (good own 1 bench-sound.2) unlock-sent

-- the READ, the WRITE and the UNLOCK are done, the LOCK is refused by the others' lock
pub pairs-answered : Says (asked (sent CORE-READ core_read) (bench others 0)) 0 0
    × Says (asked (sent CORE-WRITE core_write) (bench others 0)) 0 0
    × Says (asked (sent LOCK_BYTE_RANGE core_bytes) (bench others 1)) 1 33
    × ((gives (asked (sent LOCK_BYTE_RANGE core_bytes) (bench others 1))).holder ≡ others_hold)
    × Says (asked (sent UNLOCK_BYTE_RANGE core_bytes) (bench own 1)) 0 0
pairs-answered =
    let refused = call-says (sent LOCK_BYTE_RANGE core_bytes) (bench others 1) lock-possible.instead.answerable 1 33 3 others_hold given-here.3 in (
      (call-says (sent CORE-READ core_read) (bench others 0) read-possible.instead.answerable 0 0 19 Nobody given-here.6).0,
      (call-says (sent CORE-WRITE core_write) (bench others 0) write-possible.instead.answerable 0 0 5 Nobody given-here.7).0,
      refused.0,
      refused.2,
      (call-says (sent UNLOCK_BYTE_RANGE core_bytes) (bench own 1) unlock-possible.instead.answerable 0 0 3 Nobody given-here.5).0,
    )

-- an UNLOCK where only the others' lock is
pub unlock-of-nothing : Says (asked (sent UNLOCK_BYTE_RANGE core_bytes) (bench others 1)) 1 158
unlock-of-nothing =
    (call-says (sent UNLOCK_BYTE_RANGE core_bytes) (bench others 1) (answerable _ _ (good others 1 bench-sound.1) unlock-sent.both.kept-one) 1 158 3 Nobody given-here.4).0

pub chain-possible : ChainPossible lock_then_read (sent LOCKING (andx_locking READ 0 0 1 10 short100 ++ andx_read)) CORE-READ READ (bench others 0)
unfolding lock_then_read
chain-possible = record { instead = both-sent _ _ _ (good others 0 bench-sound.0) chain-sent.both; sent-so = chain-sent }

-- both are done: 39 bytes with the LOCKING's block, and 19 more
pub chain-done : Says (asked lock_then_read (bench others 0)) 0 0 × ((gives (asked lock_then_read (bench others 0))).length ≡ 58)
    × ((gives (asked lock_then_read (bench others 0))).holder ≡ Nobody)
chain-done = call-says lock_then_read (bench others 0) chain-possible.instead.answerable 0 0 26 Nobody given-here.8

pub bad-block : Answerable (asked bad_block (bench others 0)) × BadCoreWrite bad_block
unfolding bad_block sent core_write_of
bad-block = (
  answerable bad_block (bench others 0) (good others 0 bench-sound.0) kept.3,
  alone refl (not-marked (λ e. let z : ◌≡◌ {A = ℕ} 2 1 = e in omega arith)),
)

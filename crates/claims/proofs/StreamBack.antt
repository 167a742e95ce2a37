-- Of specs/StreamBack.antt: what rests on its other theorems. Assumes nothing.
use Rattle.std.specs.Prelude.{◌≡◌, ℕ, length}
use mathlib.Core.List.{List, [], flatten, map}
use Rattle.stream.specs.Stream.{begun}
use Rattle.stream.specs.State.{none_begun}
use Rattle.stream.specs.Writer.{framed}
use Rattle.claims.specs.StreamCut.{Same, drained_all, AllBytes}
use Rattle.claims.proofs.StreamCut.{reader-in-one}
use Rattle.claims.specs.StreamBack.{AllShort, carried-back}

-- and a reader that has nothing begun hands out these messages, however the bytes come
pub read_back : {ms : List (List ℕ)} → AllShort ms → (pieces : List (List ℕ)) → AllBytes pieces → flatten pieces ≡ flatten (map framed ms)
    → (buffer : List ℕ) → length buffer ≡ 8192 → Same (drained_all none_begun buffer pieces) (record { messages = ms; left = begun [] })
read_back {ms} short pieces b same buffer room =
    rw (← carried-back short, ← same) (reader-in-one pieces b buffer room)

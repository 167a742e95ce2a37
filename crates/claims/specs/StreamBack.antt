-- "a written message of at most 8,192 bytes is read back by a reader that isn't stopped and has nothing begun", and so is a list of them.
-- Assumes nothing.
use Rattle.std.specs.Prelude.{◌≡◌, refl, ℕ, suc, ◌+◌, ◌≤◌, length, take, drop}
use Rattle.std.proofs.Common.{sym, ap, ◌∙◌, length-append, drop-drop, arith, le-ltb, le-leb}
use mathlib.Core.List.{List, [], ◌∷◌, ◌++◌, flatten, map}
use Rattle.std.proofs.Math.Seq.{take-append_seam, drop-append_seam}
use Rattle.lists.specs.Put.{put}
use Rattle.stream.specs.Stream.{header_of, begins, whole, first_of, first, with_message, carried_by, carried_within, carried, begun}
use Rattle.stream.specs.Writer.{written_of, framed, write}
use Rattle.stream.specs.BeginsLaws.{header-begins}
use Rattle.claims.specs.StreamLaws.{carried_step}

-- ---- what the writer wrote

-- the bytes of the room that a call wrote
unfoldable pub written_in : List ℕ → List ℕ → List ℕ
written_in message room = take (write message room).answer.length (write message room).room

length-framed : (message : List ℕ) → length message + 4 ≡ length (framed message)
unfolding framed header_of
length-framed message = let z : length message + 4 ≡ suc (suc (suc (suc (length message)))) = omega arith in z

pub written-framed : (message room : List ℕ) → length message ≤ 12292 → length message + 4 ≤ length room → written_in message room ≡ framed message
unfolding written_in write written_of put framed header_of
written-framed message room short fits =
    let size : length message + 4 ≡ length (framed message) = length-framed message in
    rw (le-ltb 12292 (length message) short, le-ltb (length room) (length message + 4) fits, size) (take-append_seam (framed message) _)

-- ---- read back

-- a framed message comes first, whole
first-framed : (m s : List ℕ) → length m ≤ 8192 → first (framed m ++ s) ≡ whole m s
unfolding first first_of framed header_of
first-framed m s h =
    let enough : 4 + length m ≤ suc (suc (suc (suc (length (m ++ s))))) = (let n = length-append m s in omega arith) in
    let behind : drop (4 + length m) (header_of (length m) ++ (m ++ s)) ≡ s =
    sym (drop-drop (length m) 4 (header_of (length m) ++ (m ++ s))) ∙ drop-append_seam m s in
    rw (header-begins (length m) (m ++ s) h, le-leb (4 + length m) (suc (suc (suc (suc (length (m ++ s)))))) enough, behind, take-append_seam m s)

pub carried-framed : (m s : List ℕ) → length m ≤ 8192 → carried (framed m ++ s) ≡ with_message m (carried s)
unfolding carried_by
carried-framed m s h = carried_step (framed m ++ s) ∙ rw (first-framed m s h)

-- messages of at most 8,192 bytes each
pub data AllShort : List (List ℕ) → Type 0 where
  no-messages : AllShort []
  short-one : {m : List ℕ} {ms : List (List ℕ)} → length m ≤ 8192 → AllShort ms → AllShort (m ∷ ms)

-- written one behind the other they are carried in that order, and nothing is begun behind them
pub carried-back : {ms : List (List ℕ)} → AllShort ms → carried (flatten (map framed ms)) ≡ record { messages = ms; left = begun [] }
unfolding flatten map with_message carried carried_within carried_by first first_of begins
carried-back no-messages = refl
carried-back (short-one {m} {ms} h more) = carried-framed m (flatten (map framed ms)) h ∙ ap (with_message m) (carried-back more)

-- `soundness::session_words::sessions_marked` meets its contract: each turn puts one session more in front of those that are marked.
-- Assumes nothing.
-- the UID of a session that stands is its word, and has a mark
use mathlib.Core.Path.{◌≡◌, refl, sym, ◌∙◌}
use Prim.Native.Nat.{ℕ, ◌+◌, ◌*◌, ◌-◌, ◌<◌}
use mathlib.Core.Bool.{true}
use mathlib.Core.List.{List}
use lib.ListN.{length}
use Rattle.lists.specs.Truth.{both_hold}
use Rattle.lists.specs.Walk.{rest}
use Rattle.numbers.specs.Column.{uid_of}
use Rattle.tables.specs.Words.{word, up_to, record_at, session_of, session_array, session_limits}
use Rattle.tables.specs.PartLaws.{part-row}
use Rattle.numbers.specs.ByNumber.{entry, by_number, number_free, uncut, marked_start}
use Rattle.soundness.specs.InWords.{rows, session_stands}
use Rattle.soundness.specs.InWordsLaws.{row_uid, session-stands}
use Rattle.soundness.specs.RowWalk.{free-inside, marked-length, row-yes, row-no, told-yes, told-no}
use native.Mathlib.Omega.{arith}
use Rattle.soundness.proofs.session_words.sessions_marked.Goals as goal

session-uid : (w : List ℕ) (i : ℕ) (uids : List ℕ) → length w ≡ 33 → i < 16 → length uids ≡ 17 → session_stands uids (record_at 2 w i) ≡ true
    → (word w (1 + 2 * i) < 17) × (row_uid (record_at 2 w i) ≡ word w (1 + 2 * i))
unfolding session_stands session_of
session-uid w i uids long few size e =
    let same = part-row w (1 + 2 * i) 2 (omega arith) in
    let free = (both_hold (number_free 0 uids (word w (1 + 2 * i))) _ (rw same at e)).0 in
    let small : word w (1 + 2 * i) < 17 = rw size at (free-inside 0 uids (word w (1 + 2 * i)) free) in
    (small, rw same (uncut (word w (1 + 2 * i)) 65535 (omega arith)))

pub loop-i-init : goal.loop-i-init
unfolding by_number up_to entry
loop-i-init c = marked_start (word c.args.words.now 0) _ (omega arith) refl

pub returns-then-not-session_stands : goal.returns-then-not-session_stands
unfolding session_array
returns-then-not-session_stands c =
    let w = c.args.words.now in
    let loop = c.loop-i in
    let pre = c.requires in
    let stands = c.session_stands in
    let fails = session-stands w (loop.i - 1) (rest (rows 2 16 w) (word w 0) loop.i) loop.uids pre.0 (omega arith) loop.invariant.keeps loop.invariant.made in
    told-no session_limits 16 session_of 16 uid_of (λ _. true) (λ _. 1) 0 17 w
    (row-no 2 16 w loop.i loop.uids loop.invariant c.loop-i-test.true (omega arith) (omega arith)
    (sym fails ∙ sym stands.ensures ∙ c.if-not-session_stands.true))

pub bounds-uids-uid : goal.bounds-uids-uid
bounds-uids-uid c =
    let w = c.args.words.now in
    let pre = c.requires in
    let loop = c.loop-i in
    let stands = c.session_stands in
    let small = session-uid w (loop.i - 1) loop.uids pre.0 (omega arith) (marked-length 2 16 w loop.invariant) (sym stands.ensures ∙ c.if-not-session_stands.false) in
    omega arith

pub loop-i-preserved : goal.loop-i-preserved
loop-i-preserved c =
    let w = c.args.words.now in
    let pre = c.requires in
    let loop = c.loop-i in
    let stands = c.session_stands in
    let stood = sym stands.ensures ∙ c.if-not-session_stands.false in
    let u = session-uid w (loop.i - 1) loop.uids pre.0 (omega arith) (marked-length 2 16 w loop.invariant) stood in
    let holds = session-stands w (loop.i - 1) (rest (rows 2 16 w) (word w 0) loop.i) loop.uids pre.0 (omega arith) loop.invariant.keeps loop.invariant.made in
    row-yes 2 16 w loop.i loop.uids loop.invariant c.loop-i-test.true (omega arith) (omega arith) _ 1 (sym holds ∙ stood) u.1 refl u.0

pub returns : goal.returns
unfolding session_array
returns c =
    let w = c.args.words.now in
    let loop = c.loop-i in
    let z : loop.i ≡ 0 = omega arith in
    told-yes session_limits 16 session_of 16 uid_of (λ _. true) (λ _. 1) 0 17 w loop.uids (rw z at loop.invariant)

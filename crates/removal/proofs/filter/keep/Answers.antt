-- `removal::filter::keep` meets its contract: each turn keeps the next record and marks its number, or empties it. Assumes nothing.
use Rattle.std.proofs.Common.{◌≡◌, ◌<◌, length, sym, ◌∙◌, arith}
use Rattle.tables.specs.Words.{word, array_of}
use Rattle.tables.specs.ArrayLaws.{length-array}
use Rattle.removal.proofs.Marking.{marking-none, marking-yes, marking-no, marking-all}
use Rattle.removal.proofs.Filtering.{filtering-none, filtering-next, filtering-no, filtering-yes, filtered}
use Rattle.removal.proofs.filter.keep.Goals as goal
use Rattle.removal.proofs.filter.keep.Goals.{then-stays, else-stays}

pub loop-i-init : goal.loop-i-init
loop-i-init g c =
    let R = g.R.Record in
    let xs = array_of R.of_words (length R.limits) R.ROOM in (
      omega arith,
      λ p told. filtering-none xs R.limits R.EMPTY p c.args.words.now c.in_use-n.result,
      λ p told key numbered none. rw none (marking-none key p (xs c.args.words.now)),
    )

pub move_record-requires : goal.move_record-requires
move_record-requires g c =
    let most = c.in_use-n.ensures in
    let room = c.ROOM.ensures in
    (c.loop-i.auto.words ∙ c.requires.sized, (omega arith, omega arith))

pub overflow_add-count : goal.overflow_add-count
overflow_add-count g c = omega arith

pub loop-i-preserved : goal.loop-i-preserved
loop-i-preserved g c =
    let R = g.R.Record in
    let xs = array_of R.of_words (length R.limits) R.ROOM in
    let w = c.args.words.now in
    let loop = c.loop-i in
    let x = c.read-x.result in
    let full : length (xs w) ≡ R.ROOM = length-array R.of_words (length R.limits) R.ROOM w in
    let below : loop.i < c.in_use-n.result = omega arith in
    let inside : loop.i < length (xs w) = let most = c.in_use-n.ensures in let room = c.ROOM.ensures in omega arith in
    elim c.if-stays.branch [
      | then-stays s ↦ (
        omega arith,
        λ p told. rw (s.words-is, s.count-is) (filtering-yes (loop.invariant.1 p told) x below inside c.read-x.ensures s.move_record.auto.words (sym (told x _ c.stays.ensures) ∙ s.if-stays.true) s.move_record.ensures),
        λ p told key numbered none. marking-yes (loop.invariant.2 p told key numbered none) R.EMPTY x inside (filtering-next (loop.invariant.1 p told) x inside c.read-x.ensures) (sym (told x _ c.stays.ensures) ∙ s.if-stays.true) (s.marks-is ∙ rw (numbered x _ s.number.ensures) at s.mark.ensures),
      )
      | else-stays s ↦ (
        omega arith,
        λ p told. rw (s.words-is, s.count-is) (filtering-no (loop.invariant.1 p told) x below inside c.read-x.ensures s.write.auto.words (sym (told x _ c.stays.ensures) ∙ s.if-stays.false) (rw s.EMPTY.ensures at s.write.ensures)),
        λ p told key numbered none. rw s.marks-is (marking-no (loop.invariant.2 p told key numbered none) R.EMPTY x inside (filtering-next (loop.invariant.1 p told) x inside c.read-x.ensures) (sym (told x _ c.stays.ensures) ∙ s.if-stays.false)),
      )
    ]

pub returns-clause-filtered : goal.returns-clause-filtered
returns-clause-filtered g c =
    let R = g.R.Record in
    let loop = c.loop-i in
    let end : loop.i ≡ c.in_use-n.result = omega arith in
    λ p told. filtered R.of_words R.limits R.ROOM R.EMPTY p c.args.words.now loop.words c.in_use-n.result loop.i loop.count (loop.invariant.1 p told) end (rw c.ROOM.ensures at c.in_use-n.ensures) (let h = c.requires.sized in omega arith)

pub returns-clause-marked : goal.returns-clause-marked
returns-clause-marked g c =
    let R = g.R.Record in
    let w = c.args.words.now in
    let loop = c.loop-i in
    let end : loop.i ≡ c.in_use-n.result = omega arith in
    λ p told key numbered none. marking-all (loop.invariant.2 p told key numbered none) (word w 0) R.ROOM (length-array R.of_words (length R.limits) R.ROOM w) (end ∙ rw c.ROOM.ensures at c.in_use-n.ensures)

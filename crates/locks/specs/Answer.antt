-- What one listed lock means for a lock, a read, a write or an unlock that is asked (document 01, "Locks, reads and
-- writes"). `file` gives the file of a FID. Each test begins with what is cheapest to find false.
-- Assumes nothing.
use Rattle.std.specs.Prelude.{ℕ, Bool, false, not, ◌&&◌, List, get_or, eqb}
use Rattle.locks.specs.Range.{overlaps}
use Rattle.records.specs.declared.Lock.{Lock}
use Rattle.locks.specs.declared.types.Ask.{Ask}
use Rattle.locks.specs.declared.types.Purpose.{Purpose}
use Rattle.locks.specs.declared.types.Purpose.TheVariants.{Grant, Read, Write, Release}

-- the file of a FID, read off a table of 65 entries; a FID past it has none (255)
unfoldable pub file_in : List ℕ → ℕ → ℕ
file_in files fid = get_or files fid 255

-- "An owner is a FID with a process."
unfoldable pub owns : Ask → Lock → Bool
owns q l = eqb l.fid q.fid && eqb l.process q.process

-- a listed lock stands in the way, where it overlaps and is of the same file: of a lock, unless both are shared ("two locks
-- of one file that overlap are both shared"); of a read, if exclusive and another owner's; of a write, save the writer's own exclusive ones
unfoldable pub bars : Purpose → Ask → Lock → Bool
bars (Grant shared) q l = not (l.shared && shared)
bars Read q l = not l.shared && not (owns q l)
bars Write q l = not (not l.shared && owns q l)
bars Release q l = false

unfoldable pub in_way : (ℕ → ℕ) → Ask → Lock → Bool
in_way file q l =
    overlaps l.offset l.length q.offset q.length
    && (bars q.purpose q l && eqb (file l.fid) (file q.fid))

-- the lock that an unlock range names: "equal FID, process, offset and length"
unfoldable pub named : Ask → Lock → Bool
named q l = eqb l.offset q.offset && (eqb l.length q.length && owns q l)

-- the listed lock that answers the question: the one to release, or one that stands in the way
unfoldable pub answers_for : Purpose → (ℕ → ℕ) → Ask → Lock → Bool
answers_for (Grant shared) file q l = in_way file q l
answers_for Read file q l = in_way file q l
answers_for Write file q l = in_way file q l
answers_for Release file q l = named q l

unfoldable pub answers : (ℕ → ℕ) → Ask → Lock → Bool
answers file q l = answers_for q.purpose file q l

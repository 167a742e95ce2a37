-- Laws of soundness: what it says of counts and numbers, and that the table of files serves for the opens themselves.
-- Assumes nothing.
use Rattle.std.specs.Prelude.{◌≡◌, refl, ℕ, ◌≤◌, ◌<◌, Bool, true, false, cond, not, ◌&&◌, ◌||◌, List, [], ◌∷◌, map, length, get_or, leb, eqb}
use Rattle.std.proofs.Common.{sym, ap, ◌∙◌, leb-true, ne_eqb, arith}
use Rattle.std.proofs.Math.Path.{fun_ext}
use Rattle.std.proofs.Math.Bool.{and_comm}
use Rattle.std.proofs.Math.ListN.{get_or-eq_default}
use Rattle.std.proofs.Math.Decide.{dec_lt}
use Rattle.lists.specs.Truth.{both_hold}
use Rattle.lists.specs.Walk.{any, all, all_tails}
use Rattle.locks.specs.Range.{passes_end}
use Rattle.locks.specs.Answer.{file_in}
use Rattle.records.specs.declared.Tree.{Tree}
use Rattle.records.specs.declared.Tables.{Tables}
use Rattle.records.specs.declared.Open.{Open}
use Rattle.records.specs.Held.{sessions_of, trees_of, opens_of, locks_of}
use Rattle.catalogue.specs.Name.{catalogue_ok}
use Rattle.numbers.specs.Number.{contains, number_ok, numbered}
use Rattle.numbers.specs.Column.{fid_of}
use Rattle.soundness.specs.File.{file_of, file_table, file_table-at, length-file_table}
use Rattle.soundness.specs.Sound.{within_room, file_ok, open_ok, lock_ok, sound_records, sound_locks, seen_ok, sound}
use Rattle.soundness.specs.LockFits.{lock_fits}

-- what the test of the counts says
pub record Room (sessions trees opens locks : ℕ) : Type 0 where
  pub sessions-fit : sessions ≤ 16
  pub trees-fit : trees ≤ 32
  pub opens-fit : opens ≤ 64
  pub locks-fit : locks ≤ 128

pub room : (s t o l : ℕ) → within_room s t o l ≡ true → Room s t o l
unfolding within_room
room s t o l e =
    let a = both_hold (leb s 16) (leb t 32 && (leb o 64 && leb l 128)) e in
    let b = both_hold (leb t 32) (leb o 64 && leb l 128) a.1 in
    let c = both_hold (leb o 64) (leb l 128) b.1 in
    record {
      sessions-fit = leb-true s 16 a.0;
      trees-fit = leb-true t 32 b.0;
      opens-fit = leb-true o 64 c.0;
      locks-fit = leb-true l 128 c.1;
    }

-- a FID above the numbers in use has no open
file_of-above : (os : List Open) (fid : ℕ) → numbered 64 (map fid_of os) ≡ true → 64 < fid → file_of os fid ≡ 255
unfolding file_of numbered all_tails number_ok
file_of-above [] fid e h = refl
file_of-above (o ∷ os) fid e h =
    let a = both_hold (number_ok 64 o.fid (map fid_of os)) (numbered 64 (map fid_of os)) e in
    let b = both_hold (leb 1 o.fid) (leb o.fid 64 && not (contains o.fid (map fid_of os))) a.0 in
    let c = both_hold (leb o.fid 64) (not (contains o.fid (map fid_of os))) b.1 in
    let small : o.fid ≤ 64 = leb-true o.fid 64 c.0 in
    rw (ne_eqb o.fid fid (λ q. omega arith)) (file_of-above os fid a.1 h)

-- over numbers in order the table of files says what the opens say
pub table-serves : (os : List Open) → numbered 64 (map fid_of os) ≡ true → file_in (file_table os) ≡ file_of os
unfolding file_in
table-serves os e = fun_ext (λ fid. entry fid (dec_lt fid 65))
  where
    entry : (fid : ℕ) → Dec (fid < 65) → get_or (file_table os) fid 255 ≡ file_of os fid
    entry fid (yes h) = file_table-at os fid 255 h
    entry fid (no h) =
        let past : length (file_table os) ≤ fid = rw (length-file_table os) (omega arith) in
        get_or-eq_default (file_table os) 255 past ∙ sym (file_of-above os fid e (omega arith))

file-stands : (b : Bool) (file : ℕ) (rest : ℕ) (c : Bool) → file ≤ 15 → not (eqb rest 255) ≡ c
    → not (eqb (cond b file rest) 255) ≡ (b || c)
file-stands true file rest c h e = ap not (ne_eqb file 255 (λ q. omega arith))
file-stands false file rest c h e = e

-- a FID has a file exactly if an open has it, where the opens' file numbers are among those listed
has-file : (trees : List Tree) (os : List Open) (fid : ℕ) → all (open_ok trees) os ≡ true → not (eqb (file_of os fid) 255) ≡ contains fid (map fid_of os)
unfolding file_of contains any all open_ok
has-file trees [] fid e = refl
has-file trees (o ∷ os) fid e =
    let a = both_hold (open_ok trees o) (all (open_ok trees) os) e in
    let b = both_hold (leb o.file 15) _ a.0 in
    file-stands (eqb o.fid fid) o.file (file_of os fid) (contains fid (map fid_of os)) (leb-true o.file 15 b.0) (has-file trees os fid a.1)

-- the rule for a lock as it is tested is the rule as it is stated
pub fits-is-ok : (trees : List Tree) (os : List Open) → all (open_ok trees) os ≡ true → lock_fits (file_of os) ≡ lock_ok (map fid_of os)
unfolding lock_fits lock_ok
fits-is-ok trees os e =
    fun_ext
    (λ l.
    ap (λ (b : Bool). not (passes_end l.offset l.length) && b) (has-file trees os l.fid e)
    ∙ and_comm (not (passes_end l.offset l.length)) (contains l.fid (map fid_of os)))

-- sound tables hold no more records than they have room for
pub sound-room : (t : Tables) → sound t ≡ true → Room t.nsessions t.ntrees t.nopens t.nlocks
unfolding sound
sound-room t e =
    room t.nsessions t.ntrees t.nopens t.nlocks
    (both_hold (within_room t.nsessions t.ntrees t.nopens t.nlocks) _ e).0

-- their catalogue keeps its rules
pub sound-catalogue : (t : Tables) → sound t ≡ true → catalogue_ok t.names t.nnames ≡ true
unfolding sound
sound-catalogue t e =
    let a = both_hold (within_room t.nsessions t.ntrees t.nopens t.nlocks) _ e in
    let b = both_hold (all file_ok t.files) _ a.1 in
    let c = both_hold (sound_records (sessions_of t) (trees_of t) (opens_of t)) _ b.1 in
    let d = both_hold (sound_locks (opens_of t) (locks_of t)) _ c.1 in
    (both_hold (catalogue_ok t.names t.nnames) (all (seen_ok t.files) (opens_of t)) d.1).0

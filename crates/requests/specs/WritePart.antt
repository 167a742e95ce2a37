-- What a write leaves in the file memory and in the sizes. Assumes nothing.
use Rattle.std.specs.Prelude.{◌≡◌, ℕ, ◌+◌, ◌-◌, ◌*◌, ◌<◌, ◌≤◌, false, ltb, List, ◌++◌, length, take, drop, replicate, ◌≢◌, nat_lt}
use Rattle.std.proofs.Common.{sym, ◌∙◌, arith, length-take, length-drop, take-append-drop, drop-drop, eq-eqb, ne_eqb, ltb-true, ltb-false, lt-ltb}
use Rattle.std.proofs.lemmas.List.{length-replicate}
use Rattle.lists.specs.Put.{put}
use Rattle.lists.specs.Truth.{same_truth}
use Rattle.records.specs.declared.Tables.{Tables}
use Rattle.chain.specs.declared.block.WriteFields.{WriteFields}
use Rattle.message.specs.Contents.{size_of, grown, written, resized}
use Rattle.message.specs.Command.{done, wrote, ends_past}
use Rattle.requests.specs.Steps.{write_free}

-- the test of the end, without the sum
pub room-left : (o n : ℕ) → o ≤ 4096 → nat_lt (4096 - o) n ≡ nat_lt 4096 (o + n)
room-left o n h =
    same_truth (nat_lt (4096 - o) n) (nat_lt 4096 (o + n))
    (λ e. let k : 4096 - o < n = ltb-true (4096 - o) n e in lt-ltb 4096 (o + n) (omega arith))
    (λ e. let k : 4096 < o + n = ltb-true 4096 (o + n) e in lt-ltb (4096 - o) n (omega arith))

-- a write of some bytes that does not end past its file ends within it
pub fits-room : (o n : ℕ) → (n ≢ 0) → ends_past o n ≡ false → o + n ≤ 4096
unfolding ends_past
fits-room o n h e =
    let past : ltb 4096 (o + n) ≡ false = rw (ne_eqb n 0 h) at e in
    ltb-false 4096 (o + n) past

-- no zeros: nothing changes
pub put-none : (d : List ℕ) (from to : ℕ) → to ≤ from → d ≡ put d from (replicate (to - from) 0)
unfolding put
put-none d from to h =
    let none : to - from ≡ 0 = omega arith in
    let same : from + 0 ≡ from = omega arith in
    rw (none, same) (sym (take-append-drop from d))

-- a part of the room, set to zeros
pub put-zeros : (d x : List ℕ) (from to : ℕ) → from ≤ to → to ≤ length d → x ≡ replicate (length (take (to - from) (drop from d))) 0
    → take from d ++ (x ++ drop (to - from) (drop from d)) ≡ put d from (replicate (to - from) 0)
unfolding put
put-zeros d x from to h k e =
    let long : length (take (to - from) (drop from d)) ≡ to - from = rw (length-take, length-drop) (omega arith) in
    let zeros : length (replicate {A = ℕ} (to - from) 0) ≡ to - from = length-replicate (to - from) 0 in
    rw (e, long, drop-drop (to - from) from d, zeros)

-- zeros from the file's size up to a place
pub put-grown : (t : Tables) (m g : List ℕ) (file end size : ℕ) → size ≡ size_of t file
    → g ≡ put m (file * 4096 + size) (replicate (file * 4096 + end - (file * 4096 + size)) 0) → g ≡ grown t m file end
put-grown t m g file end size q e =
    let gap : file * 4096 + end - (file * 4096 + size) ≡ end - size = omega arith in
    rw (e, gap, q)

-- "Bytes between the old size and the write become 0", then the bytes written
pub put_written : (t : Tables) (m g s : List ℕ) (file offset : ℕ) → 0 < length s → g ≡ grown t m file offset
    → put g (file * 4096 + offset) s ≡ written t m file offset s
unfolding written
put_written t m g s file offset h e = rw (ne_eqb (length s) 0 (λ z. omega arith), e)

-- "Length 0 writes nothing, changes no size"
pub nothing_written : (t : Tables) (m : List ℕ) (f : WriteFields) (file : ℕ) (s : List ℕ) → ends_past f.offset f.count ≡ false → f.count ≡ 0
    → length s ≡ f.count → write_free t m f file s ≡ done t m (wrote 0)
unfolding write_free resized written
nothing_written t m f file s e z l = rw (e, eq-eqb f.count 0 z, eq-eqb (length s) 0 (l ∙ z), z)

-- `soundness::whole::is_sound` meets its contract: the tests table by table, each under what the ones before have shown.
-- Assumes nothing.
use Rattle.std.proofs.Common.{rules}
use Rattle.std.specs.Prelude.{Some}
use mathlib.Core.Path.{◌≡◌, sym, ap, ◌∙◌}
use mathlib.Core.Bool.{Bool, true, false≢true}
use mathlib.Core.List.{List, map}
use Prim.Native.Nat.{ℕ}
use native.Mathlib.Omega.{arith}
use lib.ListN.{length}
use Rattle.lists.specs.Walk.{all}
use Rattle.numbers.specs.ByNumber.{by_number, length-by_number}
use Rattle.numbers.specs.Column.{uid_of, tid_of, fid_of}
use Rattle.tables.specs.Words.{word, part, file_array, session_of, session_limits, tree_of, tree_limits, open_of, open_limits}
use Rattle.tables.specs.Written.{sessions_in, trees_in, opens_in}
use Rattle.tables.specs.PartLaws.{length_part}
use Rattle.soundness.specs.Sound.{within_room, file_ok, tree_ok, open_ok}
use Rattle.soundness.specs.SoundLaws.{Room, room as room_of}
use Rattle.soundness.specs.InWords.{table_in_order, told, tree_code, tree_in, open_in}
use Rattle.soundness.specs.WholeLaws.{counts, sound-words, trees-judged, opens-judged, locks-judged}
use Rattle.soundness.specs.RowWalk.{told-given, told-none}
use Rattle.soundness.proofs.whole.is_sound.Goals as goal
use Rattle.soundness.proofs.whole.is_sound.Goals.{then-locks_ok, else-locks_ok, then-not-within_room-via-then-not-within_room, then-not-within_room-via-else-not-within_room+then-not-files_ok}

-- ---- what is shown once a table is given

module _ (w : List ℕ) where
  abbrev InRoom : Type 0
  InRoom = within_room (word (part w 0 33) 0) (word (part w 33 97) 0) (word (part w 130 577) 0) (word (part w 707 641) 0) ≡ true

  record Sessions (uids : List ℕ) : Type 0 where
    room : InRoom
    sizes : all file_ok (file_array (part w 1348 32)) ≡ true
    sessions : table_in_order session_limits 16 session_of 16 uid_of (λ _. true) (part w 0 33) ≡ true
    marks : uids ≡ by_number uid_of (λ _. 1) 0 17 (sessions_in (part w 0 33))

  record Trees (codes : List ℕ) : Type 0 where
    room : InRoom
    sizes : all file_ok (file_array (part w 1348 32)) ≡ true
    sessions : table_in_order session_limits 16 session_of 16 uid_of (λ _. true) (part w 0 33) ≡ true
    trees : table_in_order tree_limits 32 tree_of 32 tid_of (tree_ok (map uid_of (sessions_in (part w 0 33)))) (part w 33 97) ≡ true
    marks : codes ≡ by_number tid_of tree_code 0 33 (trees_in (part w 33 97))

  record Opens (files : List ℕ) : Type 0 where
    room : InRoom
    sizes : all file_ok (file_array (part w 1348 32)) ≡ true
    sessions : table_in_order session_limits 16 session_of 16 uid_of (λ _. true) (part w 0 33) ≡ true
    trees : table_in_order tree_limits 32 tree_of 32 tid_of (tree_ok (map uid_of (sessions_in (part w 0 33)))) (part w 33 97) ≡ true
    opens : table_in_order open_limits 64 open_of 64 fid_of (open_ok (trees_in (part w 33 97))) (part w 130 577) ≡ true
    marks : files ≡ by_number fid_of (λ o. o.file) 255 65 (opens_in (part w 130 577))

  counted : {b : Bool} → b ≡ within_room (word w 0) (word w 33) (word w 130) (word w 707) → b ≡ true → InRoom
  counted e h = counts w ∙ sym e ∙ h

  fits : InRoom → Room (word (part w 0 33) 0) (word (part w 33 97) 0) (word (part w 130 577) 0) (word (part w 707 641) 0)
  fits e = room_of _ _ _ _ e

  after-sessions : {uids : List ℕ} → InRoom → all file_ok (file_array (part w 1348 32)) ≡ true
      → Some uids ≡ told (table_in_order session_limits 16 session_of 16 uid_of (λ _. true) (part w 0 33)) (by_number uid_of (λ _. 1) 0 17 (sessions_in (part w 0 33)))
      → Sessions uids
  after-sessions r f e = let g = told-given _ _ _ e in record { room = r; sizes = f; sessions = g.holds; marks = g.made }

  after-trees : {uids codes : List ℕ} → Sessions uids
      → Some codes ≡ told (table_in_order tree_limits 32 tree_of 32 tid_of (tree_in uids) (part w 33 97)) (by_number tid_of tree_code 0 33 (trees_in (part w 33 97)))
      → Trees codes
  after-trees {uids} s e =
      let g = told-given _ _ _ e in
      record { room = s.room; sizes = s.sizes; sessions = s.sessions; trees = trees-judged (part w 0 33) (part w 33 97) uids s.sessions s.marks ∙ g.holds; marks = g.made }

  after-opens : {codes files : List ℕ} → Trees codes
      → Some files ≡ told (table_in_order open_limits 64 open_of 64 fid_of (open_in codes) (part w 130 577)) (by_number fid_of (λ o. o.file) 255 65 (opens_in (part w 130 577)))
      → Opens files
  after-opens {codes} t e =
      let g = told-given _ _ _ e in
      record {
        room = t.room;
        sizes = t.sizes;
        sessions = t.sessions;
        trees = t.trees;
        opens = opens-judged (map uid_of (sessions_in (part w 0 33))) (part w 33 97) (part w 130 577) codes t.trees t.marks ∙ g.holds;
        marks = g.made;
      }

-- ---- the answers

pub returns-then-not-within_room : goal.returns-then-not-within_room
returns-then-not-within_room c =
    let w = c.args.words.now in
    elim c.then-not-within_room.branch [
      | then-not-within_room-via-then-not-within_room v ↦ rw (sound-words w, counts w ∙ sym c.within_room.ensures ∙ v.if-not-within_room.true)
      | then-not-within_room-via-else-not-within_room+then-not-files_ok v ↦
          rw (sound-words w, counted w c.within_room.ensures v.if-not-within_room.false, sym v.files_ok.ensures ∙ v.if-not-files_ok.true)
    ]

pub sessions_marked-requires : goal.sessions_marked-requires
sessions_marked-requires c =
    let w = c.args.words.now in
    let fit = fits w (counted w c.within_room.ensures c.if-not-within_room.false) in
    let long = c.requires in
    (length_part w 0 33 (omega arith), fit.sessions-fit)

pub returns-in_default : goal.returns-in_default
returns-in_default c =
    let w = c.args.words.now in
    let room = counted w c.within_room.ensures c.if-not-within_room.false in
    rw (sound-words w, room, sym c.files_ok.ensures ∙ c.if-not-files_ok.false, told-none _ _ (sym c.in_default.is ∙ c.sessions_marked.ensures))

pub trees_marked-requires : goal.trees_marked-requires
trees_marked-requires c =
    let w = c.args.words.now in
    let room = counted w c.within_room.ensures c.if-not-within_room.false in
    let s = after-sessions w room (sym c.files_ok.ensures ∙ c.if-not-files_ok.false) (sym c.in-Some.is ∙ c.sessions_marked.ensures) in
    let fit = fits w room in
    let long = c.requires in
    (ap length s.marks ∙ length-by_number uid_of (λ _. 1) 0 17 (sessions_in (part w 0 33)), (length_part w 33 97 (omega arith), fit.trees-fit))

pub returns-in_default-trees_marked : goal.returns-in_default-trees_marked
returns-in_default-trees_marked c =
    let w = c.args.words.now in
    let room = counted w c.within_room.ensures c.if-not-within_room.false in
    let s = after-sessions w room (sym c.files_ok.ensures ∙ c.if-not-files_ok.false) (sym c.in-Some.is ∙ c.sessions_marked.ensures) in
    let trees = trees-judged (part w 0 33) (part w 33 97) c.in-Some.uids s.sessions s.marks ∙ told-none _ _ (sym c.in_default-trees_marked.is ∙ c.trees_marked.ensures) in
    rw (sound-words w, room, s.sizes, s.sessions, trees)

pub opens_marked-requires : goal.opens_marked-requires
opens_marked-requires c =
    let w = c.args.words.now in
    let room = counted w c.within_room.ensures c.if-not-within_room.false in
    let s = after-sessions w room (sym c.files_ok.ensures ∙ c.if-not-files_ok.false) (sym c.in-Some.is ∙ c.sessions_marked.ensures) in
    let t = after-trees w s (sym c.in-Some-trees_marked.is ∙ c.trees_marked.ensures) in
    let fit = fits w room in
    let long = c.requires in
    (ap length t.marks ∙ length-by_number tid_of tree_code 0 33 (trees_in (part w 33 97)), (length_part w 130 577 (omega arith), fit.opens-fit))

pub returns-in_default-opens_marked : goal.returns-in_default-opens_marked
returns-in_default-opens_marked c =
    let w = c.args.words.now in
    let room = counted w c.within_room.ensures c.if-not-within_room.false in
    let s = after-sessions w room (sym c.files_ok.ensures ∙ c.if-not-files_ok.false) (sym c.in-Some.is ∙ c.sessions_marked.ensures) in
    let t = after-trees w s (sym c.in-Some-trees_marked.is ∙ c.trees_marked.ensures) in
    let opens =
    opens-judged (map uid_of (sessions_in (part w 0 33))) (part w 33 97) (part w 130 577) c.in-Some-trees_marked.codes t.trees t.marks
    ∙ told-none _ _ (sym c.in_default-opens_marked.is ∙ c.opens_marked.ensures)
    in
    rw (sound-words w, room, t.sizes, t.sessions, t.trees, opens)

pub locks_ok-requires : goal.locks_ok-requires
locks_ok-requires c =
    let w = c.args.words.now in
    let room = counted w c.within_room.ensures c.if-not-within_room.false in
    let s = after-sessions w room (sym c.files_ok.ensures ∙ c.if-not-files_ok.false) (sym c.in-Some.is ∙ c.sessions_marked.ensures) in
    let t = after-trees w s (sym c.in-Some-trees_marked.is ∙ c.trees_marked.ensures) in
    let o = after-opens w t (sym c.in-Some-opens_marked.is ∙ c.opens_marked.ensures) in
    let fit = fits w room in
    let long = c.requires in
    (ap length o.marks ∙ length-by_number fid_of (λ o. o.file) 255 65 (opens_in (part w 130 577)), (length_part w 707 641 (omega arith), fit.locks-fit))

pub catalogue_ok-requires : goal.catalogue_ok-requires
catalogue_ok-requires c = let long = c.requires in length_part c.args.words.now 1380 225 (omega arith)

pub all_seen-requires : goal.all_seen-requires
all_seen-requires c =
    let w = c.args.words.now in
    let fit = fits w (counted w c.within_room.ensures c.if-not-within_room.false) in
    let long = c.requires in
    (length_part w 1348 32 (omega arith), (length_part w 130 577 (omega arith), fit.opens-fit))

pub returns-then-catalogue_ok : goal.returns-then-catalogue_ok
returns-then-catalogue_ok c =
    let w = c.args.words.now in
    let room = counted w c.within_room.ensures c.if-not-within_room.false in
    let s = after-sessions w room (sym c.files_ok.ensures ∙ c.if-not-files_ok.false) (sym c.in-Some.is ∙ c.sessions_marked.ensures) in
    let t = after-trees w s (sym c.in-Some-trees_marked.is ∙ c.trees_marked.ensures) in
    let o = after-opens w t (sym c.in-Some-opens_marked.is ∙ c.opens_marked.ensures) in
    elim c.if-locks_ok.branch [
      | then-locks_ok v ↦
          let locks =
          locks-judged (trees_in (part w 33 97)) (part w 130 577) (part w 707 641) c.in-Some-opens_marked.files o.opens o.marks
          ∙ sym c.locks_ok.ensures
          ∙ v.if-locks_ok.true
          in
          let catalogue = sym v.catalogue_ok.ensures ∙ sym v.value-is ∙ c.if-catalogue_ok.true in
          rw (sound-words w, room, o.sizes, o.sessions, o.trees, o.opens, locks, catalogue) c.all_seen.ensures
      | else-locks_ok v ↦ absurd (false≢true (sym v.if-locks_ok.false ∙ sym v.value-is ∙ c.if-catalogue_ok.true))
    ]

pub returns-else-catalogue_ok : goal.returns-else-catalogue_ok
returns-else-catalogue_ok c =
    let w = c.args.words.now in
    let room = counted w c.within_room.ensures c.if-not-within_room.false in
    let s = after-sessions w room (sym c.files_ok.ensures ∙ c.if-not-files_ok.false) (sym c.in-Some.is ∙ c.sessions_marked.ensures) in
    let t = after-trees w s (sym c.in-Some-trees_marked.is ∙ c.trees_marked.ensures) in
    let o = after-opens w t (sym c.in-Some-opens_marked.is ∙ c.opens_marked.ensures) in
    rw (sound-words w, room, o.sizes, o.sessions, o.trees, o.opens, locks-judged (trees_in (part w 33 97)) (part w 130 577) (part w 707 641) c.in-Some-opens_marked.files o.opens o.marks) (search rules)

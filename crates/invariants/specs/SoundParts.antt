-- The rules of sound tables, one by one: what `sound` says, taken apart and put together again.
-- Assumes nothing.
use Rattle.std.specs.Prelude.{◌≡◌, Bool, true, ◌&&◌, List, map, ℕ}
use Rattle.std.proofs.Math.Dec.{leb}
use Rattle.std.proofs.Common.{le-leb}
use Rattle.lists.specs.Walk.{all}
use Rattle.records.specs.declared.Session.{Session}
use Rattle.records.specs.declared.Tree.{Tree}
use Rattle.records.specs.declared.Open.{Open}
use Rattle.records.specs.declared.Lock.{Lock}
use Rattle.records.specs.declared.Tables.{Tables}
use Rattle.records.specs.Held.{sessions_of, trees_of, opens_of, locks_of}
use Rattle.numbers.specs.Number.{numbered}
use Rattle.numbers.specs.Column.{uid_of, tid_of, fid_of}
use Rattle.catalogue.specs.Name.{catalogue_ok}
use Rattle.soundness.specs.File.{file_of}
use Rattle.soundness.specs.SoundLaws.{Room, room}
use Rattle.soundness.specs.Sound.{sound, sound_records, sound_locks, within_room, file_ok, tree_ok, open_ok, lock_ok, agree_all, seen_ok}
use Rattle.lists.specs.Truth.{both_hold, hold-both}

-- the rules for sessions, trees and opens
pub record RecordsOk (ss : List Session) (ts : List Tree) (os : List Open) : Type 0 where
  pub uids : numbered 16 (map uid_of ss) ≡ true
  pub tids : numbered 32 (map tid_of ts) ≡ true
  pub fids : numbered 64 (map fid_of os) ≡ true
  pub trees_ok : all (tree_ok (map uid_of ss)) ts ≡ true
  pub opens_ok : all (open_ok ts) os ≡ true

-- the rules for locks
pub record LocksOk (os : List Open) (ls : List Lock) : Type 0 where
  pub owned : all (lock_ok (map fid_of os)) ls ≡ true
  pub agreed : agree_all (file_of os) ls ≡ true

-- all rules
pub record Sound (t : Tables) : Type 0 where
  pub room : Room t.nsessions t.ntrees t.nopens t.nlocks
  pub sizes : all file_ok t.files ≡ true
  pub records : RecordsOk (sessions_of t) (trees_of t) (opens_of t)
  pub locks : LocksOk (opens_of t) (locks_of t)
  pub catalogue : catalogue_ok t.names t.nnames ≡ true
  pub seen : all (seen_ok t.files) (opens_of t) ≡ true

module _ (a b c d : ℕ) where
  room-ok : Room a b c d → within_room a b c d ≡ true
  unfolding within_room
  room-ok r =
      hold-both (leb a 16) (leb b 32 && (leb c 64 && leb d 128)) (le-leb a 16 r.sessions-fit)
      (hold-both (leb b 32) (leb c 64 && leb d 128) (le-leb b 32 r.trees-fit)
      (hold-both (leb c 64) (leb d 128) (le-leb c 64 r.opens-fit) (le-leb d 128 r.locks-fit)))

module _ (ss : List Session) (ts : List Tree) (os : List Open) where
  abbrev u : Bool
  u = numbered 16 (map uid_of ss)

  abbrev v : Bool
  v = numbered 32 (map tid_of ts)

  abbrev w : Bool
  w = numbered 64 (map fid_of os)

  abbrev x : Bool
  x = all (tree_ok (map uid_of ss)) ts

  abbrev y : Bool
  y = all (open_ok ts) os

  records-says : sound_records ss ts os ≡ true → RecordsOk ss ts os
  unfolding sound_records
  records-says e =
      let f = both_hold u (v && (w && (x && y))) e in
      let g = both_hold v (w && (x && y)) f.1 in
      let h = both_hold w (x && y) g.1 in
      let i = both_hold x y h.1 in
      record { uids = f.0; tids = g.0; fids = h.0; trees_ok = i.0; opens_ok = i.1 }

  records-ok : RecordsOk ss ts os → sound_records ss ts os ≡ true
  unfolding sound_records
  records-ok r =
      hold-both u (v && (w && (x && y))) r.uids
      (hold-both v (w && (x && y)) r.tids (hold-both w (x && y) r.fids (hold-both x y r.trees_ok r.opens_ok)))

module _ (os : List Open) (ls : List Lock) where
  locks-says : sound_locks os ls ≡ true → LocksOk os ls
  unfolding sound_locks
  locks-says e =
      let f = both_hold (all (lock_ok (map fid_of os)) ls) (agree_all (file_of os) ls) e in
      record { owned = f.0; agreed = f.1 }

  locks-ok : LocksOk os ls → sound_locks os ls ≡ true
  unfolding sound_locks
  locks-ok r = hold-both (all (lock_ok (map fid_of os)) ls) (agree_all (file_of os) ls) r.owned r.agreed

module _ (t : Tables) where
  abbrev room_test : Bool
  room_test = within_room t.nsessions t.ntrees t.nopens t.nlocks

  abbrev records_test : Bool
  records_test = sound_records (sessions_of t) (trees_of t) (opens_of t)

  abbrev locks_test : Bool
  locks_test = sound_locks (opens_of t) (locks_of t)

  abbrev catalogue_test : Bool
  catalogue_test = catalogue_ok t.names t.nnames

  abbrev seen_test : Bool
  seen_test = all (seen_ok t.files) (opens_of t)

  -- sound tables obey each rule
  pub sound-says : sound t ≡ true → Sound t
  unfolding sound
  sound-says e =
      let f = both_hold room_test (all file_ok t.files && (records_test && (locks_test && (catalogue_test && seen_test)))) e in
      let g = both_hold (all file_ok t.files) (records_test && (locks_test && (catalogue_test && seen_test))) f.1 in
      let h = both_hold records_test (locks_test && (catalogue_test && seen_test)) g.1 in
      let i = both_hold locks_test (catalogue_test && seen_test) h.1 in
      let j = both_hold catalogue_test seen_test i.1 in
      record {
        room = room t.nsessions t.ntrees t.nopens t.nlocks f.0;
        sizes = g.0;
        records = records-says (sessions_of t) (trees_of t) (opens_of t) h.0;
        locks = locks-says (opens_of t) (locks_of t) i.0;
        catalogue = j.0;
        seen = j.1;
      }

  -- tables that obey each rule are sound
  pub sound-ok : Sound t → sound t ≡ true
  unfolding sound
  sound-ok s =
      hold-both room_test (all file_ok t.files && (records_test && (locks_test && (catalogue_test && seen_test))))
      (room-ok t.nsessions t.ntrees t.nopens t.nlocks s.room)
      (hold-both (all file_ok t.files) (records_test && (locks_test && (catalogue_test && seen_test))) s.sizes
      (hold-both records_test (locks_test && (catalogue_test && seen_test)) (records-ok (sessions_of t) (trees_of t) (opens_of t) s.records)
      (hold-both locks_test (catalogue_test && seen_test) (locks-ok (opens_of t) (locks_of t) s.locks) (hold-both catalogue_test seen_test s.catalogue s.seen))))

  -- the same, of lists that are known to be what the tables hold
  pub sound-lists : (ss : List Session) (ts : List Tree) (os : List Open) (ls : List Lock)
      → sessions_of t ≡ ss → trees_of t ≡ ts → opens_of t ≡ os → locks_of t ≡ ls
      → Room t.nsessions t.ntrees t.nopens t.nlocks → all file_ok t.files ≡ true → RecordsOk ss ts os → LocksOk os ls
      → catalogue_ok t.names t.nnames ≡ true → all (seen_ok t.files) os ≡ true → sound t ≡ true
  sound-lists ss ts os ls a b c d room sizes records locks catalogue seen =
      sound-ok (record { room = room; sizes = sizes; records = rw (a, b, c) records; locks = rw (c, d) locks; catalogue = catalogue; seen = rw c seen })

-- Of specs/SoundPlain.antt: what rests on its other theorems. Assumes nothing.
use Rattle.std.specs.Prelude.{◌≡◌, ◌↔◌, true, ℕ, ◌<◌, leb}
use mathlib.Core.List.{map, Memᴰ as In}
use Rattle.std.proofs.Math.ListN.{length}
use borrow.Author.Tests.{leb-true, le-leb}
use native.Mathlib.Omega.{arith}
use Rattle.lists.specs.Truth.{both_hold, hold-both}
use Rattle.lists.specs.Members.{all-each, each_all}
use Rattle.lists.specs.PairLaws.{place_in}
use Rattle.records.specs.Change.{LARGEST, changes_of}
use Rattle.records.specs.Empty.{no_lock}
use Rattle.records.specs.declared.Open.{Open}
use Rattle.records.specs.declared.Tables.{Tables}
use Rattle.records.specs.Held.{sessions_of, trees_of, opens_of, locks_of}
use Rattle.numbers.specs.Number.{contains}
use Rattle.numbers.specs.Column.{uid_of, tid_of, fid_of}
use Rattle.soundness.specs.File.{file_of}
use Rattle.soundness.specs.Sound.{sound, file_ok, tree_ok, open_ok, lock_ok, seen_ok}
use Rattle.invariants.specs.Numbered.{named-one, one-named}
use Rattle.invariants.specs.SoundParts.{Sound, sound-says, sound-ok}
use Rattle.claims.specs.Distinct.{numbered-says, numbered-ok}
use Rattle.claims.proofs.CataloguePlain.{catalogue-says, catalogue-ok}
use Rattle.claims.specs.SoundPlain.{LocksOverlap, PlainSound, computed-fids, computed-lock, computed-open, computed-tree, ends-says, lock_at, one-file-ok, pairs-ok, pairs-says, plain-lock, plain-open, plain-open-session, plain-open-tree, plain-tree, plain-tree-session, sharing-says}

module _ (t : Tables) (s : Sound t) where
  pub plain : PlainSound t
  unfolding file_ok seen_ok changes_of
  plain =
      record {
        counts = s.room;
        sizes = λ f m. leb-true f.size 4096 (both_hold (leb f.size 4096) (leb f.changes LARGEST) (all-each file_ok m s.sizes)).0;
        changes = λ f m. let most = leb-true f.changes LARGEST (both_hold (leb f.size 4096) (leb f.changes LARGEST) (all-each file_ok m s.sizes)).1 in omega arith;
        uids = numbered-says 16 (map uid_of (sessions_of t)) s.records.uids;
        tids = numbered-says 32 (map tid_of (trees_of t)) s.records.tids;
        fids = numbered-says 64 (map fid_of (opens_of t)) s.records.fids;
        tree-session = (plain-tree-session t s);
        open-session = (plain-open-session t s);
        open-tree = (plain-open-tree t s);
        lock-open = λ l m. named-one fid_of l.fid (opens_of t) ((plain-lock t s) l m).owner;
        rights = λ r m. leb-true r.right 1 ((plain-tree t s) r m).right;
        accesses = λ o m. leb-true o.access 2 ((plain-open t s) o m).access;
        files = λ o m. leb-true o.file 15 ((plain-open t s) o m).file;
        sharings = λ o m. sharing-says o.sharing ((plain-open t s) o m).sharing;
        catalogue = catalogue-says t.names t.nnames s.catalogue;
        seen = λ o m. leb-true o.seen (changes_of t o.file) (all-each (seen_ok t.files) m s.seen);
        lock-ends = λ l m. ends-says l.offset l.length ((plain-lock t s) l m).ends;
        lock-pairs = pairs-says (opens_of t) s.records.fids (locks_of t) s.locks.agreed;
      }

module _ (t : Tables) (p : PlainSound t) where
  pub computed : Sound t
  unfolding file_ok seen_ok changes_of
  computed =
      record {
        room = p.counts;
        sizes = each_all file_ok t.files
            (λ f m. let few = p.changes f m in
            hold-both (leb f.size 4096) (leb f.changes LARGEST) (le-leb f.size 4096 (p.sizes f m)) (le-leb f.changes LARGEST (omega arith)));
        records = record {
          uids = numbered-ok 16 (map uid_of (sessions_of t)) p.uids;
          tids = numbered-ok 32 (map tid_of (trees_of t)) p.tids;
          fids = (computed-fids t p);
          trees_ok = each_all (tree_ok (map uid_of (sessions_of t))) (trees_of t) (computed-tree t p);
          opens_ok = each_all (open_ok (trees_of t)) (opens_of t) (computed-open t p);
        };
        locks = record {
          owned = each_all (lock_ok (map fid_of (opens_of t))) (locks_of t) (computed-lock t p);
          agreed = pairs-ok (opens_of t) (computed-fids t p) (locks_of t) p.lock-open p.lock-pairs;
        };
        catalogue = catalogue-ok t.names t.nnames p.catalogue;
        seen = each_all (seen_ok t.files) (opens_of t) (λ o m. le-leb o.seen (changes_of t o.file) (p.seen o m));
      }

-- "Tables are sound if ..": the computed test holds of just the tables that the words describe
pub sound-plain : (t : Tables) → (sound t ≡ true) ↔ PlainSound t
sound-plain t = (λ e. plain t (sound-says t e), λ p. sound-ok t (computed t p))

-- "each record names records that exist": an open's UID is among the sessions' UIDs
pub open-uid-listed : (t : Tables) → sound t ≡ true → (o : Open) → In o (opens_of t) → contains o.uid (map uid_of (sessions_of t)) ≡ true
open-uid-listed t e o m =
    let u = ((sound-plain t).0 e).open-session o m in
    one-named uid_of o.uid u.1 u.2

-- "two locks of one file that overlap are both shared", the files found through the opens
pub overlapping-shared : (t : Tables) → sound t ≡ true → (i j : ℕ) → i < length (locks_of t) → j < length (locks_of t) → (i ≡ j → ⊥)
    → file_of (opens_of t) (lock_at t i).fid ≡ file_of (opens_of t) (lock_at t j).fid → LocksOverlap (lock_at t i) (lock_at t j)
    → ((lock_at t i).shared ≡ true) × ((lock_at t j).shared ≡ true)
overlapping-shared t e i j a b different same over =
    let s = sound-says t e in
    let p = (sound-plain t).0 e in
    p.lock-pairs i j a b different
    (one-file-ok (opens_of t) s.records.fids (lock_at t i) (lock_at t j)
    (p.lock-open (lock_at t i) (place_in no_lock (locks_of t) i a))
    (p.lock-open (lock_at t j) (place_in no_lock (locks_of t) j b)) same)
    over

-- Records that are kept obey the rules of sound tables, if each kept record's own record is kept (document 01, "Tables and
-- room": "each record names records that exist"). Said of any four filters of the four lists. Assumes nothing.
use Rattle.std.specs.Prelude.{◌≡◌, Bool, true}
use Rattle.std.proofs.Common.{sym, ap, ◌∙◌}
use mathlib.Core.List.{List, map, Memᴰ as In}
use Rattle.lists.specs.Walk.{any, keep}
use Rattle.records.specs.declared.Session.{Session}
use Rattle.records.specs.declared.Tree.{Tree}
use Rattle.records.specs.declared.Open.{Open}
use Rattle.records.specs.declared.Lock.{Lock}
use Rattle.numbers.specs.Number.{contains}
use Rattle.numbers.specs.Column.{uid_of, tid_of, fid_of}
use Rattle.soundness.specs.File.{file_of}
use Rattle.soundness.specs.Sound.{tree_ok, holds_open, open_ok, lock_ok}
use Rattle.lists.specs.Members.{all-each, each_all, any-one, one-any, kept-was}
use Rattle.invariants.specs.Numbered.{named-one, numbered-keep, numbered-same}
use Rattle.invariants.specs.SoundParts.{RecordsOk, LocksOk}
use Rattle.invariants.specs.RuleLaws.{tree-says, tree-ok, holds-says, open-says, open-ok, lock-says, lock-ok, file_of-keep, agree_all-same, agree_all-keep}

-- the four filters, and what they promise: a tree's session stays with it, an open's tree, a lock's open
pub record Filters (ss : List Session) (ts : List Tree) (os : List Open) (a : Session → Bool) (b : Tree → Bool) (c : Open → Bool) (d : Lock → Bool) : Type 0 where
  pub session-stays : (t : Tree) → b t ≡ true → contains t.uid (map uid_of (keep a ss)) ≡ true
  pub tree-stays : (o : Open) → c o ≡ true → contains o.tid (map tid_of (keep b ts)) ≡ true
  pub open_stays : (l : Lock) → d l ≡ true → contains l.fid (map fid_of (keep c os)) ≡ true

module _ {ss : List Session} {ts : List Tree} {os : List Open} {a : Session → Bool} {b : Tree → Bool} {c : Open → Bool} {d : Lock → Bool} (f : Filters ss ts os a b c d) (r : RecordsOk ss ts os) where
  -- a kept tree's session exists
  tree-keep : (t : Tree) → In t (keep b ts) → tree_ok (map uid_of (keep a ss)) t ≡ true
  tree-keep t m =
      let k = kept-was b ts m in
      let old = tree-says (map uid_of ss) t (all-each (tree_ok (map uid_of ss)) k.0 r.trees_ok) in
      tree-ok (map uid_of (keep a ss)) t (record { right = old.right; session = f.session-stays t k.1 })

  -- a kept open's tree is the one that held it, TIDs being distinct
  open-keep : (o : Open) → In o (keep c os) → open_ok (keep b ts) o ≡ true
  open-keep o m =
      let k = kept-was c os m in
      let old = open-says ts o (all-each (open_ok ts) k.0 r.opens_ok) in
      let holder = any-one (holds_open o) ts old.held in
      let stays = named-one tid_of o.tid (keep b ts) (f.tree-stays o k.1) in
      let named : holder.0.tid ≡ o.tid = (holds-says o holder.0 holder.2).tid in
      let same : holder.0 ≡ stays.0 = numbered-same tid_of 32 ts r.tids holder.1 (kept-was b ts stays.1).0 (named ∙ sym stays.2) in
      let held : any (holds_open o) (keep b ts) ≡ true = one-any (holds_open o) stays.1 (ap (holds_open o) (sym same) ∙ holder.2) in
      open-ok (keep b ts) o (record { file = old.file; access = old.access; sharing = old.sharing; held = held })

  -- the records kept obey the rules
  pub records-keep : RecordsOk (keep a ss) (keep b ts) (keep c os)
  records-keep =
      record {
        uids = numbered-keep uid_of 16 a ss r.uids;
        tids = numbered-keep tid_of 32 b ts r.tids;
        fids = numbered-keep fid_of 64 c os r.fids;
        trees_ok = each_all (tree_ok (map uid_of (keep a ss))) (keep b ts) tree-keep;
        opens_ok = each_all (open_ok (keep b ts)) (keep c os) open-keep;
      }

  -- a kept lock's open exists
  lock-keep : (ls : List Lock) → LocksOk os ls → (l : Lock) → In l (keep d ls) → lock_ok (map fid_of (keep c os)) l ≡ true
  lock-keep ls k l m =
      let w = kept-was d ls m in
      let old = lock-says (map fid_of os) l (all-each (lock_ok (map fid_of os)) w.0 k.owned) in
      lock-ok (map fid_of (keep c os)) l (record { owner = f.open_stays l w.1; ends = old.ends })

  -- and has the file that it had
  file-keep : (ls : List Lock) (l : Lock) → In l (keep d ls) → file_of os l.fid ≡ file_of (keep c os) l.fid
  file-keep ls l m = sym (file_of-keep 64 c os l.fid r.fids (f.open_stays l (kept-was d ls m).1))

  -- the locks kept obey the rules
  pub locks-keep : (ls : List Lock) → LocksOk os ls → LocksOk (keep c os) (keep d ls)
  locks-keep ls k =
      record {
        owned = each_all (lock_ok (map fid_of (keep c os))) (keep d ls) (lock-keep ls k);
        agreed = agree_all-same (file_of os) (file_of (keep c os)) (keep d ls) (file-keep ls) (agree_all-keep (file_of os) d ls k.agreed);
      }

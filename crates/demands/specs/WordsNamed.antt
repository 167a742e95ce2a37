-- Which word is which field: the words that the host lends are the struct of include/gateway.h, in its order (docs/HOST.md, "What is
-- lent"; the numbers of the words are those that examples/fields.c reads off the header). Of words in use that fit. Assumes nothing.
use Rattle.std.specs.Prelude.{◌≡◌, true, cond}
use Rattle.std.proofs.Math.Path.{ap}
use Rattle.std.proofs.Common.{◌∙◌, get_or-take, get_or-drop}
use Prim.Native.Nat.{ℕ, ◌+◌, ◌*◌, ◌<◌}
use mathlib.Core.List.{List}
use Rattle.std.proofs.Math.ListN.{length, get_or}
use Rattle.lists.specs.Truth.{both_hold}
use Rattle.records.specs.Empty.{no_session, no_tree, no_open, no_lock, no_file, no_name}
use Rattle.records.specs.declared.Session.{Session}
use Rattle.records.specs.declared.Tree.{Tree}
use Rattle.records.specs.declared.Open.{Open}
use Rattle.records.specs.declared.Lock.{Lock}
use Rattle.records.specs.declared.Name.{Name}
use Rattle.tables.specs.Words.{word, part, record_at, session_limits, tree_limits, open_limits, lock_limits, name_limits, table_fits, in_use_fit, tables_of}

-- ---- the words of a record, by number

pub record SessionNamed (w : List ℕ) (i : ℕ) (s : Session) : Type 0 where
  pub uid : s.uid ≡ word w (1 + 2 * i)
  pub connection : s.connection ≡ word w (2 + 2 * i)

pub record TreeNamed (w : List ℕ) (i : ℕ) (r : Tree) : Type 0 where
  pub tid : r.tid ≡ word w (34 + 3 * i)
  pub uid : r.uid ≡ word w (35 + 3 * i)
  pub right : r.right ≡ word w (36 + 3 * i)

pub record OpenNamed (w : List ℕ) (i : ℕ) (o : Open) : Type 0 where
  pub fid : o.fid ≡ word w (131 + 9 * i)
  pub uid : o.uid ≡ word w (132 + 9 * i)
  pub tid : o.tid ≡ word w (133 + 9 * i)
  pub process : o.process ≡ word w (134 + 9 * i)
  pub file : o.file ≡ word w (135 + 9 * i)
  pub access : o.access ≡ word w (136 + 9 * i)
  pub sharing : o.sharing ≡ word w (137 + 9 * i)
  pub read : cond o.read 1 0 ≡ word w (138 + 9 * i)
  pub seen : o.seen ≡ word w (139 + 9 * i)

pub record LockNamed (w : List ℕ) (i : ℕ) (l : Lock) : Type 0 where
  pub fid : l.fid ≡ word w (708 + 5 * i)
  pub process : l.process ≡ word w (709 + 5 * i)
  pub offset : l.offset ≡ word w (710 + 5 * i)
  pub length : l.length ≡ word w (711 + 5 * i)
  pub shared : cond l.shared 1 0 ≡ word w (712 + 5 * i)

-- document 02, CR 6: a name of the catalogue
pub record NameNamed (w : List ℕ) (i : ℕ) (n : Name) : Type 0 where
  pub length : n.length ≡ word w (1381 + 14 * i)
  pub text : (j : ℕ) → j < 12 → get_or n.text j 0 ≡ word w (1382 + j + 14 * i)
  pub file : n.file ≡ word w (1394 + 14 * i)

-- the tables that the words hold: each count, each record in use, each size and each change number
pub record Named (w : List ℕ) : Type 0 where
  pub session-count : (tables_of w).nsessions ≡ word w 0
  pub sessions : (i : ℕ) → i < word w 0 → i < 16 → SessionNamed w i (get_or (tables_of w).sessions i no_session)
  pub tree-count : (tables_of w).ntrees ≡ word w 33
  pub trees : (i : ℕ) → i < word w 33 → i < 32 → TreeNamed w i (get_or (tables_of w).trees i no_tree)
  pub open-count : (tables_of w).nopens ≡ word w 130
  pub opens : (i : ℕ) → i < word w 130 → i < 64 → OpenNamed w i (get_or (tables_of w).opens i no_open)
  pub lock-count : (tables_of w).nlocks ≡ word w 707
  pub locks : (i : ℕ) → i < word w 707 → i < 128 → LockNamed w i (get_or (tables_of w).locks i no_lock)
  pub sizes : (i : ℕ) → i < 16 → (get_or (tables_of w).files i no_file).size ≡ word w (1348 + 2 * i)
  pub changes : (i : ℕ) → i < 16 → (get_or (tables_of w).files i no_file).changes ≡ word w (1349 + 2 * i)
  pub name-count : (tables_of w).nnames ≡ word w 1380
  pub names : (i : ℕ) → i < word w 1380 → i < 16 → NameNamed w i (get_or (tables_of w).names i no_name)

-- ---- a word of a part, and of a record of a part

module _ (w : List ℕ) (from n : ℕ) where
  pub of_part : (k at : ℕ) → k < n → from + k ≡ at → word (part w from n) k ≡ word w at
  of_part k at h e = get_or-take n _ k 0 h ∙ get_or-drop from w k 0 ∙ ap (word w) e

  pub of-record : (k i j at : ℕ) → j < k → 1 + k * i + j < n → from + (1 + k * i + j) ≡ at → word (record_at k (part w from n) i) j ≡ word w at
  of-record k i j at below inside e =
      get_or-take k _ j 0 below ∙ get_or-drop (1 + k * i) (part w from n) j 0 ∙ of_part (1 + k * i + j) at inside e

module _ (w : List ℕ) (long : length w ≡ 1605) (e : in_use_fit w ≡ true) where
  -- the four tables and the catalogue fit
  pub fits : (table_fits session_limits 16 (part w 0 33) ≡ true) × (table_fits tree_limits 32 (part w 33 97) ≡ true)
      × (table_fits open_limits 64 (part w 130 577) ≡ true) × (table_fits lock_limits 128 (part w 707 641) ≡ true)
      × (table_fits name_limits 16 (part w 1380 225) ≡ true)
  unfolding in_use_fit
  fits =
      let a = both_hold (table_fits session_limits 16 (part w 0 33)) _ e in
      let b = both_hold (table_fits tree_limits 32 (part w 33 97)) _ a.1 in
      let c = both_hold (table_fits open_limits 64 (part w 130 577)) _ b.1 in
      let d = both_hold (table_fits lock_limits 128 (part w 707 641)) (table_fits name_limits 16 (part w 1380 225)) c.1 in
      (a.0, b.0, c.0, d.0, d.1)

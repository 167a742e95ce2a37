-- The host calls (document 01, "What a call returns"; document 02, CR 6): adding a session, a tree or an open, loading a file, dropping a
-- connection, setting the catalogue, asking whether a file has changed (CR 8), ending one session, tree or open by its number. Each refusal is tested in document 01's order 2, 4, 7, 6, 8, 9, 5; a refusal changes nothing, and the number
-- beside it is 0. Assumes nothing.
use Rattle.std.specs.Prelude.{ℕ, ◌-◌, ◌*◌, Bool, cond, not, ◌&&◌, ◌||◌, List, [], ◌∷◌, ◌++◌, map, length, replicate, get_or, leb, ltb, eqb, Option, Some, None}
use Rattle.lists.specs.Walk.{any, found}
use Rattle.lists.specs.Put.{put}
use Rattle.records.specs.declared.Session.{Session}
use Rattle.records.specs.declared.Tree.{Tree}
use Rattle.records.specs.declared.Open.{Open}
use Rattle.records.specs.declared.Name.{Name}
use Rattle.records.specs.declared.Tables.{Tables}
use Rattle.records.specs.Empty.{no_session, no_tree, no_open, no_lock, no_file, no_name}
use Rattle.records.specs.Change.{LARGEST, changes_of, with_change}
use Rattle.records.specs.Held.{sessions_of, trees_of, opens_of, with_sessions, with_trees, with_opens, with_catalogue}
use Rattle.numbers.specs.Number.{contains, smallest_free}
use Rattle.numbers.specs.Column.{uid_of, tid_of, fid_of}
use Rattle.numbers.specs.NewOpen.{open_with}
use Rattle.catalogue.specs.Name.{catalogue_ok}
use Rattle.soundness.specs.Lookup.{is_tree}
use Rattle.soundness.specs.Sound.{sound, holds_open}
use Rattle.removal.specs.Removal.{remove}
use Rattle.host.specs.declared.answer.Returned.{Returned}
use Rattle.host.specs.declared.ending.One.{One}
use Rattle.host.specs.declared.ending.One.TheVariants.{Session as OneSession, Tree as OneTree, Open as OneOpen}
use Rattle.removal.specs.declared.Gone.{Gone}
use Rattle.removal.specs.declared.Gone.TheVariants.{Connection, Session as UserGone, Tree as TreeGone, Open as OpenGone}

-- tables with no record in use and every file empty
unfoldable pub no_tables : Tables
no_tables =
    record {
      sessions = replicate 16 no_session;
      nsessions = 0;
      trees = replicate 32 no_tree;
      ntrees = 0;
      opens = replicate 64 no_open;
      nopens = 0;
      locks = replicate 128 no_lock;
      nlocks = 0;
      files = replicate 16 no_file;
      names = replicate 16 no_name;
      nnames = 0;
    }

-- refused with that number: the tables stay
unfoldable pub refused : ℕ → Tables → Returned
refused number t = record { number = number; id = 0; tables = t }

-- done, with the new number where one was given out, or the answer
unfoldable pub done : ℕ → Tables → Returned
done id t = record { number = 0; id = id; tables = t }

-- ---- adding a session

unfoldable pub new_session : Tables → ℕ → Session
new_session t connection = record { uid = smallest_free (map uid_of (sessions_of t)); connection = connection }

unfoldable pub add_session : Tables → ℕ → Returned
add_session t connection =
    cond (not (sound t)) (refused 4 t)
    (cond (leb 16 t.nsessions) (refused 5 t)
    (done (new_session t connection).uid (with_sessions t (sessions_of t ++ (new_session t connection ∷ [])))))

-- ---- adding a tree

unfoldable pub new_tree : Tables → ℕ → ℕ → Tree
new_tree t uid right = record { tid = smallest_free (map tid_of (trees_of t)); uid = uid; right = right }

unfoldable pub add_tree : Tables → ℕ → ℕ → Returned
add_tree t uid right =
    cond (not (sound t)) (refused 4 t)
    (cond (ltb 1 right) (refused 7 t)
    (cond (not (contains uid (map uid_of (sessions_of t)))) (refused 6 t)
    (cond (leb 32 t.ntrees) (refused 5 t)
    (done (new_tree t uid right).tid (with_trees t (trees_of t ++ (new_tree t uid right ∷ [])))))))

-- ---- adding an open: "opens by the host deny nothing" (document 02, CR 6), sharing code 4

unfoldable pub new_open : Tables → ℕ → ℕ → ℕ → ℕ → ℕ → Open
new_open t uid tid process file access = open_with t uid tid process file access 4

unfoldable pub add_open : Tables → ℕ → ℕ → ℕ → ℕ → ℕ → Returned
add_open t uid tid process file access =
    cond (not (sound t)) (refused 4 t)
    (cond (ltb 15 file || ltb 2 access) (refused 7 t)
    (cond (not (any (is_tree tid uid) (trees_of t))) (refused 6 t)
    (cond (not (any (holds_open (new_open t uid tid process file access)) (trees_of t))) (refused 8 t)
    (cond (leb 64 t.nopens) (refused 5 t)
    (done (new_open t uid tid process file access).fid (with_opens t (opens_of t ++ (new_open t uid tid process file access ∷ []))))))))

-- ---- loading a file

-- the open is of that file
unfoldable pub is_of : ℕ → Open → Bool
is_of file o = eqb o.file file

-- the refusal of a load, 0 where there is none
unfoldable pub load_number : Tables → ℕ → ℕ → ℕ → ℕ
load_number t file size memory =
    cond (not (eqb memory 65536)) 2
    (cond (not (sound t)) 4
    (cond (ltb 15 file || ltb 4096 size) 7
    (cond (any (is_of file) (opens_of t)) 9 0)))

-- "A load sets the size", and raises the change number (document 02, CR 8)
unfoldable pub load_file : Tables → ℕ → List ℕ → List ℕ → Returned
load_file t file bytes memory =
    cond (eqb (load_number t file (length bytes) (length memory)) 0) (done 0 (with_change t file (length bytes)))
    (refused (load_number t file (length bytes) (length memory)) t)

-- "and puts zeros after the loaded bytes, up to 4,096"
unfoldable pub load_memory : Tables → ℕ → List ℕ → List ℕ → List ℕ
load_memory t file bytes memory =
    cond (eqb (load_number t file (length bytes) (length memory)) 0)
    (put memory (file * 4096) (bytes ++ replicate (4096 - length bytes) 0))
    memory

-- ---- dropping a connection

unfoldable pub drop_connection : Tables → ℕ → Returned
drop_connection t connection = cond (not (sound t)) (refused 4 t) (done 0 (remove (Connection connection) t))

-- ---- setting the catalogue (document 02, CR 6): "7: over 16 names, a name of another length, with a zero byte or doubled, a file above 15"; the
-- old one is kept. It looks at no open.

unfoldable pub set_catalogue : Tables → List Name → ℕ → Returned
set_catalogue t names count =
    cond (not (sound t)) (refused 4 t)
    (cond (not (catalogue_ok names count)) (refused 7 t) (done 0 (with_catalogue t names count)))

-- ---- asking whether a file has changed since an open read it (document 02, CR 8): by FID alone. It changes nothing.

-- "unchanged" exactly if the open has read, the numbers are equal and below the largest; otherwise "changed"
unfoldable pub is_unchanged : Tables → Open → Bool
is_unchanged t o = o.read && (eqb o.seen (changes_of t o.file) && ltb (changes_of t o.file) LARGEST)

-- 1 for "unchanged", 0 for "changed"; so the 0 beside a refusal never says "unchanged"
unfoldable pub unchanged_at : Tables → Option ℕ → Returned
unchanged_at t (Some k) = done (cond (is_unchanged t (get_or (opens_of t) k no_open)) 1 0) t
unchanged_at t None = refused 6 t

-- "6 for an unknown FID, after 4"
unfoldable pub ask_unchanged : Tables → ℕ → Returned
ask_unchanged t fid = cond (not (sound t)) (refused 4 t) (unchanged_at t (found (λ o. eqb o.fid fid) (opens_of t)))

-- ---- ending one session, tree or open by its number: the host's side of LOGOFF, TREE_DISCONNECT and CLOSE

-- a record in use has the number
unfoldable pub is_there : One → Tables → Bool
is_there (OneSession uid) t = contains uid (map uid_of (sessions_of t))
is_there (OneTree tid) t = contains tid (map tid_of (trees_of t))
is_there (OneOpen fid) t = contains fid (map fid_of (opens_of t))

-- what goes, with all that hangs on it
unfoldable pub gone_with : One → Gone
gone_with (OneSession uid) = UserGone uid
gone_with (OneTree tid) = TreeGone tid
gone_with (OneOpen fid) = OpenGone fid

-- 4, then 6 for a number that no record in use has
unfoldable pub end_one : Tables → One → Returned
end_one t one =
    cond (not (sound t)) (refused 4 t)
    (cond (not (is_there one t)) (refused 6 t) (done 0 (remove (gone_with one) t)))

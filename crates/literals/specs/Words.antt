-- The words of include/gateway.h's structs, a second time, as numbers: each word of the tables is its own place. Assumes nothing.
use Rattle.std.specs.Prelude.{◌≡◌, refl, ℕ, ◌+◌, Bool, true, false, not, ◌&&◌, List, [], ◌∷◌, ◌++◌, length, get_or, set, replicate, None as Nobody, Some as held_by}
use Rattle.lists.specs.Walk.{all}
use Rattle.records.specs.declared.Tables.{Tables}
use Rattle.records.specs.Empty.{no_session, no_tree, no_open, no_lock, no_file, no_name}
use Rattle.tables.specs.Words.{up_to, session_of, tree_of, open_of, lock_of, name_of, array_of, session_array, tree_array, open_array, lock_array, name_array, file_array, tables_of, within, records_fit, in_use_fit}
use Rattle.boundary.specs.Boundary.{holder_words}
use Rattle.literals.specs.Counting.{count_from}

-- 1605 words, the word at each place the place itself; but the last open's file (702), access (703) and sharing (704), which fit up to 255, are 216, 217 and 218,
-- of the first open and the last, read (138, 705) is 1 and 0, and so is shared of the first lock and the last (712, 1347). A name's words are cut to a byte: 1381 is 101.
unfoldable pub own_words : List ℕ
own_words = set (set (set (set (set (set (set (count_from 0 1605) 702 216) 703 217) 704 218) 138 1) 705 0) 712 1) 1347 0

unfoldable pub taken : Tables
taken = tables_of own_words

-- session_count, tree_count, open_count, lock_count and the catalogue's count
pub counts : (taken.nsessions ≡ 0) × (taken.ntrees ≡ 33) × (taken.nopens ≡ 130) × (taken.nlocks ≡ 707) × (taken.nnames ≡ 1380)
unfolding taken own_words count_from tables_of
counts = (refl, refl, refl, refl, refl)

-- how many records there are, in use or not: "Sessions 16 ..; trees 32 ..; opens 64 ..; locks 128 ..; Files: 16"; document 02, CR 6: "up to 16 names"
pub records : (length taken.sessions ≡ 16)
    × (length taken.trees ≡ 32)
    × (length taken.opens ≡ 64)
    × (length taken.locks ≡ 128)
    × (length taken.files ≡ 16)
    × (length taken.names ≡ 16)
unfolding taken own_words count_from tables_of session_array tree_array open_array lock_array file_array name_array array_of up_to
records = (refl, refl, refl, refl, refl, refl)

-- uid, connection
pub session-words : (get_or taken.sessions 0 no_session ≡ record { uid = 1; connection = 2 })
    × (get_or taken.sessions 15 no_session ≡ record { uid = 31; connection = 32 })
unfolding taken own_words count_from tables_of session_array array_of up_to session_of
session-words = (refl, refl)

-- tid, uid, right
pub tree-words : (get_or taken.trees 0 no_tree ≡ record { tid = 34; uid = 35; right = 36 })
    × (get_or taken.trees 31 no_tree ≡ record { tid = 127; uid = 128; right = 129 })
unfolding taken own_words count_from tables_of tree_array array_of up_to tree_of
tree-words = (refl, refl)

-- fid, uid, tid, process, file, access, sharing, read, seen
pub open-words : (get_or taken.opens 0 no_open ≡ record { fid = 131; uid = 132; tid = 133; process = 134; file = 135; access = 136; sharing = 137; read = true; seen = 139 })
    × (get_or taken.opens 63 no_open ≡ record { fid = 698; uid = 699; tid = 700; process = 701; file = 216; access = 217; sharing = 218; read = false; seen = 706 })
unfolding taken own_words count_from tables_of open_array array_of up_to open_of
open-words = (refl, refl)

-- fid, process, offset, length, shared
pub lock-words : (get_or taken.locks 0 no_lock ≡ record { fid = 708; process = 709; offset = 710; length = 711; shared = true })
    × (get_or taken.locks 127 no_lock ≡ record { fid = 1343; process = 1344; offset = 1345; length = 1346; shared = false })
unfolding taken own_words count_from tables_of lock_array array_of up_to lock_of
lock-words = (refl, refl)

-- size, changes
pub file-words : (get_or taken.files 0 no_file ≡ record { size = 1348; changes = 1349 }) × (get_or taken.files 15 no_file ≡ record { size = 1378; changes = 1379 })
unfolding taken own_words count_from tables_of file_array up_to
file-words = (refl, refl)

-- length, twelve bytes, file
pub name-words : (get_or taken.names 0 no_name ≡ record { length = 101; text = count_from 102 12; file = 114 })
    × (get_or taken.names 15 no_name ≡ record { length = 55; text = count_from 56 12; file = 68 })
unfolding taken own_words count_from tables_of name_array array_of up_to name_of
name-words = (refl, refl)

-- ---- the largest value that fits

-- one record of each table in use, its words 0
unfoldable pub one_each : List ℕ
one_each = set (set (set (set (set (replicate 1605 0) 0 1) 33 1) 130 1) 707 1) 1380 1

-- the word at a place fits up to that value, and not above it
unfoldable pub fits_up_to : ℕ → ℕ → Bool
fits_up_to at most = in_use_fit (set one_each at most) && not (in_use_fit (set one_each at (most + 1)))

-- a session's UID and connection; a tree's TID, UID and right; an open's FID, UID, TID, process, file, access, sharing and read; a lock's FID, process and shared; a name's
-- length, its first byte and its last, and its file
pub limits : (fits_up_to 1 65535 ≡ true)
    × (fits_up_to 2 4294967295 ≡ true)
    × (fits_up_to 34 65535 ≡ true)
    × (fits_up_to 35 65535 ≡ true)
    × (fits_up_to 36 255 ≡ true)
    × (fits_up_to 131 65535 ≡ true)
    × (fits_up_to 132 65535 ≡ true)
    × (fits_up_to 133 65535 ≡ true)
    × (fits_up_to 134 4294967295 ≡ true)
    × (fits_up_to 135 255 ≡ true)
    × (fits_up_to 136 255 ≡ true)
    × (fits_up_to 137 255 ≡ true)
    × (fits_up_to 138 1 ≡ true)
    × (fits_up_to 708 65535 ≡ true)
    × (fits_up_to 709 4294967295 ≡ true)
    × (fits_up_to 712 1 ≡ true)
    × (fits_up_to 1381 255 ≡ true)
    × (fits_up_to 1382 255 ≡ true)
    × (fits_up_to 1393 255 ≡ true)
    × (fits_up_to 1394 255 ≡ true)
unfolding fits_up_to one_each in_use_fit records_fit within all up_to
limits = (refl, refl, refl, refl, refl, refl, refl, refl, refl, refl, refl, refl, refl, refl, refl, refl, refl, refl, refl, refl)

-- a lock's offset and length, an open's number seen and a file's two words are any word, and the words of records not in use are free: the largest word at the second
-- record's places fits
unfoldable pub fits : ℕ → Bool
fits at = in_use_fit (set one_each at 18446744073709551615)

pub free-words : all fits (710 ∷ 711 ∷ 139 ∷ 1348 ∷ 1349 ∷ 3 ∷ 4 ∷ (count_from 37 3 ++ (count_from 140 9 ++ (count_from 713 5 ++ count_from 1395 14)))) ≡ true
unfolding fits one_each in_use_fit records_fit within all up_to count_from
free-words = refl

-- ---- the holder

-- held, fid, process, place, offset, length; all zero where there is none. The values need the whole width of their fields.
pub holder-words : (holder_words Nobody ≡ 0 ∷ 0 ∷ 0 ∷ 0 ∷ 0 ∷ 0 ∷ [])
    × (holder_words (held_by (record { lock = record { fid = 65535; process = 4294967295; offset = 18446744060000000000; length = 13709551616; shared = true }; place = 900 }))
    ≡ 1 ∷ 65535 ∷ 4294967295 ∷ 900 ∷ 18446744060000000000 ∷ 13709551616 ∷ [])
unfolding holder_words
holder-words = (refl, refl)

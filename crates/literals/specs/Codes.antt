-- Document 01's numbers of refusals, on the wire and of calls, and document 02's (CR 6, CR 7), a second time. Assumes nothing.
use Rattle.std.specs.Prelude.{◌≡◌, refl, ℕ, ◌-◌, List, [], ◌∷◌, ◌++◌, map, false, length, replicate, None as Nobody, Some as held_by}
use Rattle.lists.specs.Walk.{any, all, all_tails, keep}
use Rattle.lists.specs.Stored.{stored}
use Rattle.records.specs.declared.Lock.{Lock}
use Rattle.records.specs.declared.Open.{Open}
use Rattle.records.specs.declared.Name.{Name}
use Rattle.records.specs.declared.Tables.{Tables}
use Rattle.records.specs.Held.{sessions_of, trees_of, opens_of, locks_of, with_sessions, with_trees, with_opens, with_locks}
use Rattle.locks.specs.Range.{overlaps, passes_end}
use Rattle.locks.specs.declared.types.Holder.{Holder}
use Rattle.numbers.specs.Column.{uid_of, tid_of, fid_of}
use Rattle.numbers.specs.Number.{contains, number_ok, numbered, free_from, smallest_free}
use Rattle.soundness.specs.File.{file_of}
use Rattle.soundness.specs.Lookup.{is_tree}
use Rattle.catalogue.specs.Name.{folded, same_name, name_bytes, is_named, not_zero, name_ok, differ, none_doubled, catalogue_ok}
use Rattle.soundness.specs.Sound.{within_room, file_ok, tree_ok, permits, holds_open, sharing_ok, open_ok, sound_records, lock_ok, agree, agree_all, sound_locks, sound, seen_ok}
use Rattle.removal.specs.Removal.{session_named, tree_named, open_named, session_stays, tree_stays, open_stays, lock_stays, sweep_sessions, sweep_trees, sweep_opens, sweep_locks, remove}
use Rattle.host.specs.declared.ending.One.{One}
use Rattle.host.specs.declared.ending.One.TheVariants.{Session as OneSession, Tree as OneTree, Open as OneOpen}
use Rattle.host.specs.HostCall.{refused, done, new_session, add_session, new_tree, add_tree, new_open, add_open, is_of, load_number, load_file, drop_connection, set_catalogue, is_there, gone_with, end_one}
use Rattle.chain.specs.Header.{starts_smb, is_reply, dropped}
use Rattle.message.specs.Refusal.{status, forms_of, status_of, nt_of, holder_of}
use Rattle.message.specs.Command.{served_type}
use Rattle.message.specs.Message.{served, not_taken, take-message}
use Rattle.message.specs.declared.refusal.Refusal.TheVariants.{NotServed, NotSentence, NoSession, NoTree, NoOpen, NoAccess, LockType, NoSuchLock, PassesEnd, LockNotGranted, FileLockConflict, NoRecord, NoSpace, OpenMode, BadAccess, NoSuchFile, BadShare, NoFids}
use Rattle.message.specs.declared.refusal.Status.{Status}
use Rattle.literals.specs.Counting.{count_from}
use Rattle.literals.specs.State.{session, tree, open_of, name, sizes, tables_with, few_records, memory}

-- "2/22 header command not served; 2/1 not a sentence; 2/91 no session of that UID on this connection; 2/5 no tree of that TID and UID; 1/6 no open of
-- that FID, UID and TID; 1/5 access; 2/65535 lock type bit other than 0x01 and 0x10; 1/158 no such lock to release; 1/87 lock range passes 2^64;
-- 1/33 lock conflict; 1/8 no lock record free; class 3, code 39, write would end past 4,096."; document 02, CR 6: "2/65535 OpenMode, 1/12 access or sharing code,
-- 1/2 name, .. 1/32 sharing, 1/4 all 64 FIDs in use"
unfoldable pub class-code : ℕ → ℕ → Status
class-code class code = record { class = class; code = code }

pub codes : (h : Holder)
    → map status_of (NotServed ∷ NotSentence ∷ NoSession ∷ NoTree ∷ NoOpen ∷ NoAccess ∷ LockType ∷ NoSuchLock ∷ PassesEnd ∷ LockNotGranted h ∷ FileLockConflict h ∷ NoRecord ∷ NoSpace ∷ OpenMode ∷ BadAccess ∷ NoSuchFile ∷ BadShare ∷ NoFids ∷ [])
    ≡ class-code 2 22
    ∷ class-code 2 1
    ∷ class-code 2 91
    ∷ class-code 2 5
    ∷ class-code 1 6
    ∷ class-code 1 5
    ∷ class-code 2 65535
    ∷ class-code 1 158
    ∷ class-code 1 87
    ∷ class-code 1 33
    ∷ class-code 1 33
    ∷ class-code 1 8
    ∷ class-code 3 39
    ∷ class-code 2 65535
    ∷ class-code 1 12
    ∷ class-code 1 2
    ∷ class-code 1 32
    ∷ class-code 1 4
    ∷ []
unfolding forms_of status class-code
codes h = refl

-- document 02, CR 7: "00160002 (2/22), 00010002 (2/1), 005B0002, 00050002, C0000008 (1/6), C0000022 (1/5), C00000BB, C000007E, C000000D (1/87), C0000055 for a lock refused,
-- C0000054 for a read or write refused, C0000205, C000007F. CR 6 adds 000C0001 (1/12), C000000F (1/2), C0000043 (1/32), C000011F (1/4)"; C00000BB is 2/65535 of both kinds (docs/DECISIONS.md, 127)
pub nt-codes : (h : Holder)
    → map nt_of (NotServed ∷ NotSentence ∷ NoSession ∷ NoTree ∷ NoOpen ∷ NoAccess ∷ LockType ∷ NoSuchLock ∷ PassesEnd ∷ LockNotGranted h ∷ FileLockConflict h ∷ NoRecord ∷ NoSpace ∷ OpenMode ∷ BadAccess ∷ NoSuchFile ∷ BadShare ∷ NoFids ∷ [])
    ≡ 0x00160002
    ∷ 0x00010002
    ∷ 0x005B0002
    ∷ 0x00050002
    ∷ 0xC0000008
    ∷ 0xC0000022
    ∷ 0xC00000BB
    ∷ 0xC000007E
    ∷ 0xC000000D
    ∷ 0xC0000055
    ∷ 0xC0000054
    ∷ 0xC0000205
    ∷ 0xC000007F
    ∷ 0xC00000BB
    ∷ 0x000C0001
    ∷ 0xC000000F
    ∷ 0xC0000043
    ∷ 0xC000011F
    ∷ []
unfolding forms_of
nt-codes h = refl

-- document 02, CR 2: only 1/33 has a holder
pub holders : (h : Holder)
    → map holder_of (NotServed ∷ NotSentence ∷ NoSession ∷ NoTree ∷ NoOpen ∷ NoAccess ∷ LockType ∷ NoSuchLock ∷ PassesEnd ∷ LockNotGranted h ∷ FileLockConflict h ∷ NoRecord ∷ NoSpace ∷ OpenMode ∷ BadAccess ∷ NoSuchFile ∷ BadShare ∷ NoFids ∷ [])
    ≡ Nobody ∷ Nobody ∷ Nobody ∷ Nobody ∷ Nobody ∷ Nobody ∷ Nobody ∷ Nobody ∷ Nobody ∷ held_by h ∷ held_by h ∷ Nobody ∷ Nobody ∷ Nobody ∷ Nobody ∷ Nobody ∷ Nobody ∷ Nobody ∷ []
unfolding holder_of
holders h = refl

-- "Requests served: CLOSE 0x04, PROCESS_EXIT 0x11, LOCKING_ANDX 0x24, READ_ANDX 0x2E, WRITE_ANDX 0x2F, TREE_DISCONNECT 0x71, LOGOFF_ANDX 0x74"; document
-- 02, CR 3: "READ 0x0A, WRITE 0x0B, LOCK_BYTE_RANGE 0x0C and UNLOCK_BYTE_RANGE 0x0D"; CR 6: "OPEN_ANDX 0x2D". Of all 256 header commands just these are not 2/22.
pub commands-served : keep served (count_from 0 256) ≡ 0x04 ∷ 0x0A ∷ 0x0B ∷ 0x0C ∷ 0x0D ∷ 0x11 ∷ 0x24 ∷ 0x2D ∷ 0x2E ∷ 0x2F ∷ 0x71 ∷ 0x74 ∷ []
unfolding keep count_from served
commands-served = refl

-- "lock type bit other than 0x01 and 0x10": of all 256 lock types just these are not 2/65535
pub types-served : keep served_type (count_from 0 256) ≡ 0x00 ∷ 0x01 ∷ 0x10 ∷ 0x11 ∷ []
unfolding keep count_from served_type
types-served = refl

-- ---- "What a call returns"

-- 17 sessions, one more than there is room for
unfoldable pub crowded : Tables
crowded = tables_with (map (λ n. session n 5) (count_from 1 17)) [] [] []

-- sessions, trees and opens up to those numbers, all of UID 1 and TID 2, file 0; TID 1 has right 0
unfoldable pub up_to : ℕ → ℕ → ℕ → Tables
up_to sessions trees opens =
    tables_with (map (λ n. session n 5) (count_from 1 sessions)) (tree 1 1 0 ∷ map (λ n. tree n 1 1) (count_from 2 (trees - 1)))
    (map (λ n. open_of n 1 2 7 0 2) (count_from 1 opens)) []

-- "Sessions 16 ..; trees 32 ..; opens 64": all in use, and all but one
unfoldable pub full : Tables
full = up_to 16 32 64

unfoldable pub nearly : Tables
nearly = up_to 15 31 63

-- a message of 34 bytes
unfoldable pub short : List ℕ
short = 0xFF ∷ 0x53 ∷ 0x4D ∷ 0x42 ∷ replicate 30 0

-- "0: done; .. for an add, the new number", the smallest from 1 not in use. "Dropping an unknown connection is 0". File 15, access 2, right 1 and
-- 4,096 bytes are in range.
pub done-0 : ((add_session few_records 6).number ≡ 0)
    × ((add_session few_records 6).id ≡ 1)
    × ((add_tree few_records 3 1).number ≡ 0)
    × ((add_tree few_records 3 1).id ≡ 1)
    × ((add_open few_records 3 2 7 15 2).number ≡ 0)
    × ((add_open few_records 3 2 7 15 2).id ≡ 1)
    × ((load_file few_records 15 (replicate 4096 0xAA) memory).number ≡ 0)
    × ((drop_connection few_records 6).number ≡ 0)
unfolding few_records tables_with session tree open_of sizes memory refused done new_session add_session new_tree add_tree new_open add_open is_of load_number load_file drop_connection sound within_room file_ok tree_ok permits holds_open sharing_ok catalogue_ok none_doubled open_ok sound_records lock_ok agree agree_all sound_locks file_of is_tree contains number_ok numbered free_from smallest_free any all all_tails overlaps passes_end seen_ok
done-0 = (refl, refl, refl, refl, refl, refl, refl, refl)

-- "1: message dropped"
pub dropped-1 : ((take-message 5 short few_records memory (replicate 12292 0)).number ≡ 1)
unfolding few_records tables_with session tree open_of sizes memory short take-message not_taken dropped starts_smb is_reply sound within_room file_ok tree_ok permits holds_open sharing_ok catalogue_ok none_doubled open_ok sound_records lock_ok agree agree_all sound_locks file_of is_tree contains number_ok numbered free_from smallest_free any all all_tails overlaps passes_end seen_ok
dropped-1 = refl

-- "2: reply room under 12,292 bytes, or file memory not 65,536": with 12,292 and 65,536 the next reason counts, here 4
pub room-2 : ((take-message 5 short crowded memory (replicate 12291 0)).number ≡ 2)
    × ((take-message 5 short crowded memory (replicate 12292 0)).number ≡ 4)
    × ((take-message 5 short crowded (replicate 65535 0) (replicate 12292 0)).number ≡ 2)
    × ((take-message 5 short crowded (0 ∷ memory) (replicate 12292 0)).number ≡ 2)
    × ((load_file crowded 16 [] (replicate 65535 0)).number ≡ 2)
    × ((load_file crowded 16 [] (0 ∷ memory)).number ≡ 2)
unfolding crowded few_records tables_with session tree open_of sizes count_from memory short take-message not_taken dropped starts_smb is_reply refused done new_session add_session new_tree add_tree new_open add_open is_of load_number load_file drop_connection sound within_room file_ok tree_ok permits holds_open sharing_ok catalogue_ok none_doubled open_ok sound_records lock_ok agree agree_all sound_locks file_of is_tree contains number_ok numbered free_from smallest_free any all all_tails overlaps passes_end seen_ok
room-2 = (refl, refl, refl, refl, refl, refl)

-- "4: tables not sound"
pub sound-4 : ((add_session crowded 6).number ≡ 4)
    × ((add_tree crowded 18 2).number ≡ 4)
    × ((add_open crowded 18 2 7 16 3).number ≡ 4)
    × ((load_file crowded 16 [] memory).number ≡ 4)
    × ((drop_connection crowded 6).number ≡ 4)
    × ((take-message 5 short crowded memory (replicate 12292 0)).number ≡ 4)
unfolding crowded few_records tables_with session tree open_of sizes count_from memory short take-message not_taken dropped starts_smb is_reply refused done new_session add_session new_tree add_tree new_open add_open is_of load_number load_file drop_connection sound within_room file_ok tree_ok permits holds_open sharing_ok catalogue_ok none_doubled open_ok sound_records lock_ok agree agree_all sound_locks file_of is_tree contains number_ok numbered free_from smallest_free any all all_tails overlaps passes_end seen_ok
sound-4 = (refl, refl, refl, refl, refl, refl)

-- two sessions of one connection, each with a tree, an open and a lock
unfoldable pub two_of_each : Tables
two_of_each =
    tables_with (session 3 5 ∷ session 6 5 ∷ []) (tree 2 3 1 ∷ tree 5 6 1 ∷ []) (open_of 4 3 2 7 1 2 ∷ open_of 7 6 5 7 1 2 ∷ [])
    (record { fid = 4; process = 7; offset = 0; length = 10; shared = false } ∷ record { fid = 7; process = 7; offset = 20; length = 10; shared = false } ∷ [])

-- a session, tree or open ended by its number: the number returned, the UIDs, TIDs and FIDs left, and the FIDs of the locks left
unfoldable pub left_beside : One → List (List ℕ)
left_beside one =
    ((end_one two_of_each one).number ∷ [])
    ∷ map uid_of (sessions_of (end_one two_of_each one).tables)
    ∷ map tid_of (trees_of (end_one two_of_each one).tables)
    ∷ map fid_of (opens_of (end_one two_of_each one).tables)
    ∷ map (λ (l : Lock). l.fid) (locks_of (end_one two_of_each one).tables)
    ∷ []

-- 0: a UID, a TID and a FID in use; what hangs on it goes, and what hangs on the other stands. 6: each number that only another kind of record has. 4 before 6.
pub ended-ones : (left_beside (OneSession 3) ≡ (0 ∷ []) ∷ (6 ∷ []) ∷ (5 ∷ []) ∷ (7 ∷ []) ∷ (7 ∷ []) ∷ [])
    × (left_beside (OneTree 2) ≡ (0 ∷ []) ∷ (3 ∷ 6 ∷ []) ∷ (5 ∷ []) ∷ (7 ∷ []) ∷ (7 ∷ []) ∷ [])
    × (left_beside (OneOpen 7) ≡ (0 ∷ []) ∷ (3 ∷ 6 ∷ []) ∷ (2 ∷ 5 ∷ []) ∷ (4 ∷ []) ∷ (4 ∷ []) ∷ [])
    × (left_beside (OneSession 2) ≡ (6 ∷ []) ∷ (3 ∷ 6 ∷ []) ∷ (2 ∷ 5 ∷ []) ∷ (4 ∷ 7 ∷ []) ∷ (4 ∷ 7 ∷ []) ∷ [])
    × (left_beside (OneTree 4) ≡ (6 ∷ []) ∷ (3 ∷ 6 ∷ []) ∷ (2 ∷ 5 ∷ []) ∷ (4 ∷ 7 ∷ []) ∷ (4 ∷ 7 ∷ []) ∷ [])
    × (left_beside (OneOpen 3) ≡ (6 ∷ []) ∷ (3 ∷ 6 ∷ []) ∷ (2 ∷ 5 ∷ []) ∷ (4 ∷ 7 ∷ []) ∷ (4 ∷ 7 ∷ []) ∷ [])
    × ((end_one crowded (OneSession 18)).number ≡ 4)
    × ((end_one crowded (OneTree 1)).number ≡ 4)
    × ((end_one crowded (OneOpen 1)).number ≡ 4)
unfolding left_beside two_of_each crowded tables_with session tree open_of sizes count_from refused done end_one is_there gone_with remove sweep_sessions sweep_trees sweep_opens sweep_locks session_named tree_named open_named session_stays tree_stays open_stays lock_stays keep with_sessions with_trees with_opens with_locks stored sound within_room file_ok tree_ok permits holds_open sharing_ok catalogue_ok none_doubled open_ok sound_records lock_ok agree agree_all sound_locks file_of is_tree contains number_ok numbered any all all_tails overlaps passes_end seen_ok
ended-ones = (refl, refl, refl, refl, refl, refl, refl, refl, refl)

-- one session of that UID, its tree of that TID and right, an open of that FID, file and access, those locks, and a first file of that size
unfoldable pub one_of : ℕ → ℕ → ℕ → ℕ → ℕ → ℕ → List Lock → ℕ → Tables
one_of uid tid right fid file access locks size =
    record {
      sessions = session uid 5 ∷ [];
      nsessions = 1;
      trees = tree tid uid right ∷ [];
      ntrees = 1;
      opens = open_of fid uid tid 7 file access ∷ [];
      nopens = 1;
      locks = locks;
      nlocks = length locks;
      files = record { size = size; changes = 0 } ∷ [];
      names = [];
      nnames = 0;
    }

-- an exclusive lock of FID 64
unfoldable pub lock64 : ℕ → ℕ → Lock
lock64 offset size = record { fid = 64; process = 7; offset = offset; length = size; shared = false }

-- what dropping an unknown connection returns
unfoldable pub judged : Tables → ℕ
judged t = (drop_connection t 6).number

-- "Tables are sound if counts and file sizes are within these limits; numbers are distinct and lie in 1 to 16, 1 to 32 and 1 to 64; .. rights, access and
-- file numbers are among those listed; no open exceeds its tree's right"
pub sound-records : (judged (one_of 16 32 1 64 15 2 [] 4096) ≡ 0)
    × (judged (one_of 17 32 1 64 15 2 [] 0) ≡ 4)
    × (judged (one_of 0 32 1 64 15 2 [] 0) ≡ 4)
    × (judged (one_of 16 33 1 64 15 2 [] 0) ≡ 4)
    × (judged (one_of 16 0 1 64 15 2 [] 0) ≡ 4)
    × (judged (one_of 16 32 2 64 15 2 [] 0) ≡ 4)
    × (judged (one_of 16 32 1 65 15 2 [] 0) ≡ 4)
    × (judged (one_of 16 32 1 0 15 2 [] 0) ≡ 4)
    × (judged (one_of 16 32 1 64 16 2 [] 0) ≡ 4)
    × (judged (one_of 16 32 1 64 15 3 [] 0) ≡ 4)
    × (judged (one_of 16 32 0 64 15 1 [] 0) ≡ 4)
    × (judged (one_of 16 32 0 64 15 0 [] 0) ≡ 0)
    × (judged (one_of 16 32 1 64 15 2 [] 4097) ≡ 4)
unfolding one_of judged session tree open_of refused done drop_connection sound within_room file_ok tree_ok permits holds_open sharing_ok catalogue_ok none_doubled open_ok sound_records lock_ok agree agree_all sound_locks file_of is_tree contains number_ok numbered free_from smallest_free any all all_tails overlaps passes_end seen_ok
sound-records = (refl, refl, refl, refl, refl, refl, refl, refl, refl, refl, refl, refl, refl)

-- "locks 128"; "no lock passes 2^64; and two locks of one file that overlap are both shared"
pub sound-locks : (judged (one_of 16 32 1 64 15 2 (replicate 128 (lock64 7 0)) 0) ≡ 0)
    × (judged (one_of 16 32 1 64 15 2 (replicate 129 (lock64 7 0)) 0) ≡ 4)
    × (judged (one_of 16 32 1 64 15 2 (lock64 18446744073709551615 1 ∷ []) 0) ≡ 0)
    × (judged (one_of 16 32 1 64 15 2 (lock64 18446744073709551615 2 ∷ []) 0) ≡ 4)
    × (judged (one_of 16 32 1 64 15 2 (lock64 0 10 ∷ lock64 10 10 ∷ []) 0) ≡ 0)
    × (judged (one_of 16 32 1 64 15 2 (lock64 0 10 ∷ lock64 9 10 ∷ []) 0) ≡ 4)
unfolding one_of lock64 judged session tree open_of refused done drop_connection sound within_room file_ok tree_ok permits holds_open sharing_ok catalogue_ok none_doubled open_ok sound_records lock_ok agree agree_all sound_locks file_of is_tree contains number_ok numbered free_from smallest_free any all all_tails overlaps passes_end seen_ok
sound-locks = (refl, refl, refl, refl, refl, refl)

-- "5: table full": 16 sessions, 32 trees, 64 opens
pub full-5 : ((add_session full 6).number ≡ 5)
    × ((add_tree full 1 1).number ≡ 5)
    × ((add_open full 1 2 7 0 2).number ≡ 5)
unfolding full up_to few_records tables_with session tree open_of sizes count_from refused done new_session add_session new_tree add_tree new_open add_open is_of load_number load_file drop_connection sound within_room file_ok tree_ok permits holds_open sharing_ok catalogue_ok none_doubled open_ok sound_records lock_ok agree agree_all sound_locks file_of is_tree contains number_ok numbered free_from smallest_free any all all_tails overlaps passes_end seen_ok
full-5 = (refl, refl, refl)

-- one record less, and the last number is given out
pub last-number : ((add_session nearly 6).number ≡ 0)
    × ((add_session nearly 6).id ≡ 16)
    × ((add_tree nearly 1 1).number ≡ 0)
    × ((add_tree nearly 1 1).id ≡ 32)
    × ((add_open nearly 1 2 7 0 2).number ≡ 0)
    × ((add_open nearly 1 2 7 0 2).id ≡ 64)
unfolding nearly up_to few_records tables_with session tree open_of sizes count_from refused done new_session add_session new_tree add_tree new_open add_open is_of load_number load_file drop_connection sound within_room file_ok tree_ok permits holds_open sharing_ok catalogue_ok none_doubled open_ok sound_records lock_ok agree agree_all sound_locks file_of is_tree contains number_ok numbered free_from smallest_free any all all_tails overlaps passes_end seen_ok
last-number = (refl, refl, refl, refl, refl, refl)

-- "6: no such session, or no such tree of that session", before 5
pub none-6 : ((add_tree few_records 4 1).number ≡ 6)
    × ((add_open few_records 3 3 7 1 2).number ≡ 6)
    × ((add_open few_records 4 2 7 1 2).number ≡ 6)
    × ((add_tree full 17 1).number ≡ 6)
    × ((add_open full 2 2 7 0 2).number ≡ 6)
unfolding full up_to few_records tables_with session tree open_of sizes count_from refused done new_session add_session new_tree add_tree new_open add_open is_of load_number load_file drop_connection sound within_room file_ok tree_ok permits holds_open sharing_ok catalogue_ok none_doubled open_ok sound_records lock_ok agree agree_all sound_locks file_of is_tree contains number_ok numbered free_from smallest_free any all all_tails overlaps passes_end seen_ok
none-6 = (refl, refl, refl, refl, refl)

-- "7: number out of range (file above 15, access above 2, right above 1, load over 4,096 bytes)", before 6 and 9
pub range-7 : ((add_tree few_records 3 2).number ≡ 7)
    × ((add_open few_records 3 2 7 16 2).number ≡ 7)
    × ((add_open few_records 3 2 7 15 3).number ≡ 7)
    × ((load_file few_records 16 [] memory).number ≡ 7)
    × ((load_file few_records 15 (replicate 4097 0xAA) memory).number ≡ 7)
    × ((add_tree few_records 4 2).number ≡ 7)
    × ((add_open few_records 4 2 7 16 2).number ≡ 7)
    × ((load_file few_records 1 (replicate 4097 0xAA) memory).number ≡ 7)
unfolding few_records tables_with session tree open_of sizes memory refused done new_session add_session new_tree add_tree new_open add_open is_of load_number load_file drop_connection sound within_room file_ok tree_ok permits holds_open sharing_ok catalogue_ok none_doubled open_ok sound_records lock_ok agree agree_all sound_locks file_of is_tree contains number_ok numbered free_from smallest_free any all all_tails overlaps passes_end seen_ok
range-7 = (refl, refl, refl, refl, refl, refl, refl, refl)

-- "8: open would exceed its tree's right", before 5: right 0 is read, access 1 write and 2 both
pub exceeds-8 : ((add_open full 1 1 7 0 1).number ≡ 8)
    × ((add_open full 1 1 7 0 2).number ≡ 8)
    × ((add_open full 1 1 7 0 0).number ≡ 5)
unfolding full up_to few_records tables_with session tree open_of sizes count_from refused done new_session add_session new_tree add_tree new_open add_open is_of load_number load_file drop_connection sound within_room file_ok tree_ok permits holds_open sharing_ok catalogue_ok none_doubled open_ok sound_records lock_ok agree agree_all sound_locks file_of is_tree contains number_ok numbered free_from smallest_free any all all_tails overlaps passes_end seen_ok
exceeds-8 = (refl, refl, refl)

-- "9: load of a file that has an open"
pub open-9 : ((load_file few_records 1 [] memory).number ≡ 9)
unfolding few_records tables_with session tree open_of sizes memory refused done new_session add_session new_tree add_tree new_open add_open is_of load_number load_file drop_connection sound within_room file_ok tree_ok permits holds_open sharing_ok catalogue_ok none_doubled open_ok sound_records lock_ok agree agree_all sound_locks file_of is_tree contains number_ok numbered free_from smallest_free any all all_tails overlaps passes_end seen_ok
open-9 = refl

-- ---- document 02, CR 6

-- "Soundness gains sharing codes": 1 to 4
unfoldable pub shared-as : ℕ → Tables
shared-as sharing =
    record {
      sessions = session 3 5 ∷ [];
      nsessions = 1;
      trees = tree 2 3 1 ∷ [];
      ntrees = 1;
      opens = record { fid = 4; uid = 3; tid = 2; process = 7; file = 1; access = 2; sharing = sharing; read = false; seen = 0 } ∷ [];
      nopens = 1;
      locks = [];
      nlocks = 0;
      files = sizes;
      names = [];
      nnames = 0;
    }

pub sharing-codes : map (λ sharing. judged (shared-as sharing)) (0 ∷ 1 ∷ 2 ∷ 3 ∷ 4 ∷ 5 ∷ []) ≡ 4 ∷ 0 ∷ 0 ∷ 0 ∷ 0 ∷ 4 ∷ []
unfolding shared-as judged session tree sizes refused done drop_connection sound within_room file_ok tree_ok permits holds_open sharing_ok catalogue_ok none_doubled open_ok sound_records lock_ok agree agree_all sound_locks file_of is_tree contains number_ok numbered free_from smallest_free any all all_tails overlaps passes_end seen_ok
sharing-codes = refl

-- what setting those names returns
unfoldable pub setting : List Name → ℕ
setting names = (set_catalogue few_records names (length names)).number

-- sixteen names of one byte, A to P
unfoldable pub sixteen : List Name
sixteen = map (λ n. name (n ∷ []) 15) (count_from 65 16)

-- "CRL.PEM" and "crl.pem"; twelve bytes, and one more
unfoldable pub large : List ℕ
large = 0x43 ∷ 0x52 ∷ 0x4C ∷ 0x2E ∷ 0x50 ∷ 0x45 ∷ 0x4D ∷ []

unfoldable pub small : List ℕ
small = 0x63 ∷ 0x72 ∷ 0x6C ∷ 0x2E ∷ 0x70 ∷ 0x65 ∷ 0x6D ∷ []

-- "7: over 16 names, a name of another length, with a zero byte or doubled, a file above 15"; no name, 16 names, 12 bytes, one file twice and file 15 are good; names
-- that differ in their last byte, or by @ and the back-quote (0x40 and 0x60, no letters) or a letter beyond ASCII (0xC4 and 0xE4), are not doubled; behind the count
-- nothing counts; 4 comes first
pub catalogue-7 : (setting [] ≡ 0)
    × (setting (name large 0 ∷ name (0x41 ∷ []) 0 ∷ []) ≡ 0)
    × (setting sixteen ≡ 0)
    × (setting (sixteen ++ (name (0x51 ∷ []) 0 ∷ [])) ≡ 7)
    × (setting (name (count_from 1 12) 15 ∷ []) ≡ 0)
    × (setting (record { length = 13; text = count_from 1 12; file = 0 } ∷ []) ≡ 7)
    × (setting (name [] 0 ∷ []) ≡ 7)
    × (setting (name (0x41 ∷ 0 ∷ 0x42 ∷ []) 0 ∷ []) ≡ 7)
    × (setting (name large 1 ∷ name (0x41 ∷ []) 2 ∷ name small 3 ∷ []) ≡ 7)
    × (setting (name large 1 ∷ name large 1 ∷ []) ≡ 7)
    × (setting (name large 16 ∷ []) ≡ 7)
    × (setting (name (0x41 ∷ 0x42 ∷ []) 1 ∷ name (0x41 ∷ 0x43 ∷ []) 1 ∷ name (0x41 ∷ []) 1 ∷ []) ≡ 0)
    × (setting (name (0x40 ∷ []) 1 ∷ name (0x60 ∷ []) 1 ∷ name (0x5B ∷ []) 1 ∷ name (0x7B ∷ []) 1 ∷ name (0xC4 ∷ []) 1 ∷ name (0xE4 ∷ []) 1 ∷ []) ≡ 0)
    × ((set_catalogue few_records (name large 1 ∷ name large 16 ∷ []) 1).number ≡ 0)
    × ((set_catalogue crowded (name large 16 ∷ []) 1).number ≡ 4)
unfolding setting sixteen large small crowded few_records tables_with session tree open_of name sizes count_from refused done set_catalogue folded same_name name_bytes is_named not_zero name_ok differ none_doubled catalogue_ok sound within_room file_ok tree_ok permits holds_open sharing_ok open_ok sound_records lock_ok agree agree_all sound_locks file_of is_tree contains number_ok numbered free_from smallest_free any all all_tails overlaps passes_end seen_ok
catalogue-7 = (refl, refl, refl, refl, refl, refl, refl, refl, refl, refl, refl, refl, refl, refl, refl)

-- the open that the host adds has sharing code 4
pub host-denies-nothing : map (λ (o : Open). o.sharing) (opens_of (add_open nearly 1 2 7 0 2).tables) ≡ replicate 64 4
unfolding nearly up_to few_records tables_with session tree open_of sizes count_from refused done new_open add_open with_opens stored sound within_room file_ok tree_ok permits holds_open sharing_ok catalogue_ok none_doubled open_ok sound_records lock_ok agree agree_all sound_locks file_of is_tree contains number_ok numbered free_from smallest_free any all all_tails overlaps passes_end seen_ok
host-denies-nothing = refl

-- The starred cases of document 01 ("Cases, the starred ones proved"): one table of the definitions' values, and a single
-- theorem. Assumes nothing.
use Rattle.std.specs.Prelude.{◌≡◌, refl, ℕ, ◌-◌, ◌^◌, Bool, true, false, List, [], ◌∷◌, map, ◌++◌, length, replicate, Option, None, Some}
use Rattle.lists.specs.Walk.{any, found_from, found}
use Rattle.lists.specs.Stored.{stored}
use Rattle.locks.specs.Range.{overlaps, passes_end}
use Rattle.locks.specs.Answer.{owns, bars, in_way, named, answers_for, answers}
use Rattle.locks.specs.Request.{ask_of, lock_of, remove_at, after_find, release_all, after_walk, grant_all, after_grants, range_passes, after_releases, request, settle}
use Rattle.locks.specs.declared.types.LockRange.{LockRange}
use Rattle.records.specs.declared.Lock.{Lock}
use Rattle.locks.specs.Wire.{range_size}
use Rattle.wire.specs.LittleEndian.{le16_at}
use Rattle.chain.specs.Parse.{shaped, bare, is_large, locking_fits, read_fits, may_follow, link_fits, link_at, answer, parse_locking, parse_read, parse}
use Rattle.chain.specs.Chain.{before, after_block, after_parse, blocks_within, blocks_from, blocks}
use Rattle.chain.specs.declared.block.Block.{Block}
use Rattle.records.specs.declared.Tables.{Tables}
use Rattle.records.specs.Empty.{no_file}
use Rattle.soundness.specs.File.{file_of}
use Rattle.soundness.specs.Lookup.{is_tree}
use Rattle.message.specs.Refusal.{status, forms_of, status_of}
use Rattle.message.specs.declared.refusal.Status.{Status}
use Rattle.message.specs.Command.{Given, refused, done, is_session, with_session, with_tree, is_open, open_at, with_open, locking_end, locking_after, ask_by, unless_barred, barring, ends_past, do_write}

-- a case of the document: its number, what the definitions give, and what the document says
pub record Case : Type 0 where
  pub number : ℕ
  pub given : Status
  pub said : Status

-- a range of process 7, and a lock of FID 1 and that process
unfoldable pub range : ℕ → ℕ → LockRange
range offset size = record { process = 7; offset = offset; length = size }

unfoldable pub held : ℕ → ℕ → Bool → Lock
held offset size shared = record { fid = 1; process = 7; offset = offset; length = size; shared = shared }

-- one session on connection 5, its tree, and an open of file 0 for both by process 7; no lock
unfoldable pub one_terminal : Tables
one_terminal =
    record {
      sessions = record { uid = 1; connection = 5 } ∷ [];
      nsessions = 1;
      trees = record { tid = 1; uid = 1; right = 1 } ∷ [];
      ntrees = 1;
      opens = record { fid = 1; uid = 1; tid = 1; process = 7; file = 0; access = 2; sharing = 4; read = false; seen = 0 } ∷ [];
      nopens = 1;
      locks = [];
      nlocks = 0;
      files = no_file ∷ [];
      names = [];
      nnames = 0;
    }

-- the status of what a command gives
unfoldable pub status_in : Given → Status
status_in (refused why) = status_of why
status_in (done t memory said) = status 0 0

-- the status of a request of FID 1 for one lock, where one lock is listed, all FIDs being of one file
unfoldable pub asking : Bool → LockRange → Lock → Status
asking shared r l = status_in (locking_after one_terminal [] (settle (l ∷ []) 1 (request (λ fid. 0) 1 shared [] (r ∷ []) (l ∷ []))))

-- the status of a write of one byte at an offset, through that open
unfoldable pub writing : ℕ → Status
writing offset =
    status_in
    (do_write (record { connection = 5; uid = 1; tid = 1; process = 7 }) one_terminal [] (record { fid = 1; offset = offset; count = 1; from = 63 }) (0xAA ∷ []))

-- The message of document 01's listing, with its AndXOffset and the bytes between its two blocks left open: the header
-- (LOCKING, TID 1, PID 7, UID 1, MID 3), the LOCKING block, and the READ block.
unfoldable pub message : ℕ → List ℕ → List ℕ
message offset between =
    (0xFF ∷ 0x53 ∷ 0x4D ∷ 0x42 ∷ 0x24 ∷ replicate 19 0) ++ ((1 ∷ 0 ∷ 7 ∷ 0 ∷ 1 ∷ 0 ∷ 3 ∷ 0 ∷ [])
    ++ ((8 ∷ 0x2E ∷ 0 ∷ offset ∷ 0 ∷ 1 ∷ 0 ∷ 0 ∷ 0 ∷ 0 ∷ 0 ∷ 0 ∷ 0 ∷ 0 ∷ 0 ∷ 1 ∷ 0 ∷ 10 ∷ 0 ∷ 7 ∷ 0 ∷ 0x64 ∷ 0 ∷ 0 ∷ 0 ∷ 10 ∷ 0 ∷ 0 ∷ 0 ∷ [])
    ++ (between ++ (10 ∷ 0xFF ∷ 0 ∷ 0 ∷ 0 ∷ 1 ∷ 0 ∷ 0x64 ∷ 0 ∷ 0 ∷ 0 ∷ 10 ∷ replicate 11 0))))

-- it is 84 bytes long, and 85 with one free byte
pub message-lengths : (length (message 61 []) ≡ 84) × (length (message 62 (0 ∷ [])) ≡ 85)
unfolding message
message-lengths = (refl, refl)

-- a message that is no sentence is 2/1
unfoldable pub reading : Option (List Block) → Status
reading (Some bs) = status 0 0
reading None = status 2 1

-- "1* the message above is a sentence. 2* with AndXOffset 60 it isn't. 3* with 62 and 85 bytes it is (one free byte)."
-- "4* [0,10) exclusive against [10,20): no conflict. 5* against [9,10): conflict. 6* shared with shared overlapping: none.
-- 7* own exclusive again: conflict. 8* length 0 inside an exclusive lock: none. 9* offset 2^64−1 length 1: accepted range.
-- 10* same, length 2: 1/87. 11* write of 1 at 4,095 done; 12* at 4,096: 3/39."
unfoldable pub table : List Case
table =
    record { number = 1; given = reading (blocks (message 61 [])); said = status 0 0 }
    ∷ record { number = 2; given = reading (blocks (message 60 [])); said = status 2 1 }
    ∷ record { number = 3; given = reading (blocks (message 62 (0 ∷ []))); said = status 0 0 }
    ∷ record { number = 4; given = asking false (range 10 10) (held 0 10 false); said = status 0 0 }
    ∷ record { number = 5; given = asking false (range 9 1) (held 0 10 false); said = status 1 33 }
    ∷ record { number = 6; given = asking true (range 5 10) (held 0 10 true); said = status 0 0 }
    ∷ record { number = 7; given = asking false (range 0 10) (held 0 10 false); said = status 1 33 }
    ∷ record { number = 8; given = asking false (range 5 0) (held 0 10 false); said = status 0 0 }
    ∷ record { number = 9; given = asking false (range (2 ^ 64 - 1) 1) (held 0 10 false); said = status 0 0 }
    ∷ record { number = 10; given = asking false (range (2 ^ 64 - 1) 2) (held 0 10 false); said = status 1 87 }
    ∷ record { number = 11; given = writing 4095; said = status 0 0 }
    ∷ record { number = 12; given = writing 4096; said = status 3 39 }
    ∷ []

-- what the definitions give is what the document says, in every row
pub cases : map (λ c. c.given) table ≡ map (λ c. c.said) table
unfolding table message reading blocks blocks_from blocks_within after_parse after_block before parse parse_locking parse_read answer locking_fits read_fits link_fits link_at may_follow shaped bare is_large le16_at range_size asking range held status forms_of settle stored request after_releases after_grants grant_all after_walk release_all after_find remove_at range_passes ask_of lock_of answers answers_for in_way bars named owns overlaps passes_end any found found_from status_in locking_after locking_end writing one_terminal do_write with_open with_tree with_session is_session is_tree is_open open_at unless_barred barring ask_by ends_past file_of
cases = refl

-- A request whose second range is refused by its first is possible (document 02, CR 2: "A lock granted earlier in the same request may be the answer, though it is
-- undone"): an instance that the checker computes. Assumes nothing.
use Rattle.std.specs.Prelude.{◌≡◌, refl, ℕ, false, List, [], ◌∷◌, ◌++◌, replicate, Some as held_by}
use Rattle.lists.specs.Walk.{any, found, found_from}
use Rattle.lists.specs.Stored.{stored}
use Rattle.wire.specs.LittleEndian.{le16_at, le32_at}
use Rattle.locks.specs.Range.{overlaps, passes_end}
use Rattle.locks.specs.Wire.{range_size, number_at, range_from, range_at, ranges_at}
use Rattle.locks.specs.Answer.{owns, bars, in_way, named, answers_for, answers}
use Rattle.locks.specs.Request.{of_header, ranges_of, ask_of, lock_of, holder_at, remove_at, after_find, release_all, after_walk, grant_all, after_grants, range_passes, after_releases, request, settle, locking}
use Rattle.locks.specs.declared.types.Holder.{Holder}
use Rattle.soundness.specs.File.{file_of}
use Rattle.soundness.specs.Lookup.{is_tree}
use Rattle.chain.specs.Header.{starts_smb, is_reply, dropped}
use Rattle.chain.specs.Parse.{shaped, bare, is_large, locking_fits, link_fits, link_at, may_follow, answer, parse_locking, parse}
use Rattle.chain.specs.Chain.{before, after_block, after_parse, blocks_within, blocks_from, blocks}
use Rattle.message.specs.Caller.{caller_of}
use Rattle.message.specs.Refusal.{holder_of}
use Rattle.message.specs.Command.{is_session, with_session, with_tree, is_open, open_at, with_open, served_type, request_of, locking_end, locking_after, do_locking, perform}
use Rattle.message.specs.JustOpened.{fid_meant, body_meant}
use Rattle.message.specs.Message.{area_of, data_of, after_given, run, served, run_chain, answered}
use Rattle.order.specs.Call.{Call}
use Rattle.order.specs.Possible.{plant, asked}

-- LOCKING through FID 1, exclusive, with no unlock and two locks: the bytes 0 to 9 for process 8 and 5 to 14 for process 9; the header's process is 7, as the open's
unfoldable pub two_ranges : List ℕ
two_ranges =
    (0xFF ∷ 0x53 ∷ 0x4D ∷ 0x42 ∷ 0x24 ∷ replicate 19 0) ++ ((1 ∷ 0 ∷ 7 ∷ 0 ∷ 1 ∷ 0 ∷ 3 ∷ 0 ∷ [])
    ++ (8 ∷ 0xFF ∷ 0 ∷ 0 ∷ 0 ∷ 1 ∷ 0 ∷ 0 ∷ 0 ∷ 0 ∷ 0 ∷ 0 ∷ 0 ∷ 0 ∷ 0 ∷ 2 ∷ 0 ∷ 20 ∷ 0
    ∷ 8 ∷ 0 ∷ 0 ∷ 0 ∷ 0 ∷ 0 ∷ 10 ∷ 0 ∷ 0 ∷ 0
    ∷ 9 ∷ 0 ∷ 5 ∷ 0 ∷ 0 ∷ 0 ∷ 10 ∷ 0 ∷ 0 ∷ 0 ∷ []))

-- sent where one lock is held, elsewhere in the file
unfoldable pub two_asked : Call
two_asked = asked two_ranges (plant 2 1)

-- its first range stands behind that lock: the request's FID, that range's process
unfoldable pub first_range : Holder
first_range = record { lock = record { fid = 1; process = 8; offset = 0; length = 10; shared = false }; place = 1 }

pub kept : dropped two_ranges ≡ false
unfolding dropped starts_smb is_reply two_ranges
kept = refl

pub two-given : ((answered 5 two_ranges (plant 2 1) (replicate 65536 0)).holder ≡ held_by first_range) × ((answered 5 two_ranges (plant 2 1) (replicate 65536 0)).tables ≡ plant 2 1)
unfolding two_ranges first_range plant blocks blocks_from blocks_within after_parse after_block before parse parse_locking answer locking_fits link_fits link_at may_follow shaped bare is_large le16_at le32_at range_size answered served run_chain run body_meant fid_meant after_given perform do_locking with_open with_tree with_session is_session is_tree is_open open_at found found_from any served_type request_of locking_after locking_end locking ranges_of of_header ranges_at range_from range_at number_at request after_releases after_grants grant_all after_walk release_all after_find remove_at range_passes passes_end ask_of lock_of holder_at holder_of answers answers_for in_way bars named owns overlaps settle stored file_of caller_of area_of data_of
two-given = (refl, refl)

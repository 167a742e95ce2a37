-- Of specs/RoomKept.antt: what rests on its other theorems. Assumes nothing.
use Rattle.std.specs.Prelude.{ℕ, ◌≤◌, ◌||◌, List, ltb, eqb}
use Rattle.std.proofs.Common.{arith}
use Rattle.std.proofs.Math.Bool.{not}
use Rattle.std.proofs.Math.ListN.{length}
use borrow.Author.Tests.{ltb-false, not-false}
use Rattle.lists.specs.Truth.{neither-holds}
use Rattle.records.specs.declared.Tables.{Tables}
use Rattle.soundness.specs.Sound.{sound}
use Rattle.invariants.specs.Shaped.{Shaped}
use Rattle.chain.specs.Header.{dropped}
use Rattle.message.specs.Message.{answered, reply_of, not_taken, replied, take-message}
use Rattle.invariants.specs.GivenCases.{cond-case}
use Rattle.demands.specs.Taken.{not_short, not-long}
use Rattle.invariants.specs.ReplyRoom.{reply-room}
use Rattle.demands.specs.RoomKept.{RoomKept, nothing-kept, reply-kept}

module _ (connection : ℕ) (s : List ℕ) (t : Tables) (memory room : List ℕ) (arrays : Shaped t) where
  -- and the reply fits, so that the room is as long as before: in tables whose arrays have their room, which the types say of code
  pub room-kept : RoomKept room (take-message connection s t memory room)
  unfolding take-message
  room-kept =
      cond-case (RoomKept room) (ltb (length room) 12292 || not (eqb (length memory) 65536)) (not_taken 2 t memory room) _ (λ _. nothing-kept 2 t memory room) λ u.
      let enough : 12292 ≤ length room = ltb-false (length room) 12292 (neither-holds (ltb (length room) 12292) (not (eqb (length memory) 65536)) u).0 in
      cond-case (RoomKept room) (not (sound t)) (not_taken 4 t memory room) _ (λ _. nothing-kept 4 t memory room) λ v.
      cond-case (RoomKept room) (dropped s) (not_taken 1 t memory room) (replied s room (answered connection s t memory)) (λ _. nothing-kept 1 t memory room) λ w.
      let l : length (reply_of s (answered connection s t memory)) ≤ 12292 =
      reply-room connection s t memory (record { sound = not-false (sound t) v; shaped = arrays }) (not_short s w) (not-long s w) in
      reply-kept s room connection t memory (omega arith) l

-- What a message's call writes (document 01, "What a call returns"): "A refusal of this table writes nothing at all." "After 0, bytes of the reply room past
-- the reply's length are as they were." Assumes nothing.
use Rattle.std.specs.Prelude.{◌≡◌, refl, ℕ, ◌+◌, ◌-◌, ◌≤◌, ◌||◌, List, ltb, eqb}
use Rattle.std.proofs.Common.{sym, ap, ◌∙◌, zero-add, arith, get_or-drop}
use Rattle.std.proofs.Math.Bool.{not}
use Rattle.std.proofs.Math.ListN.{length, drop}
use Rattle.std.proofs.Math.Seq.{drop-append_seam}
use Rattle.lists.specs.Put.{put}
use Rattle.lists.specs.PutLaws.{length-put}
use Rattle.wire.specs.LittleEndian.{byte_at}
use Rattle.records.specs.declared.Tables.{Tables}
use Rattle.soundness.specs.Sound.{sound}
use Rattle.chain.specs.Header.{dropped}
use Rattle.message.specs.Message.{answered, reply_of, Taken, not_taken, replied, take-message}
use Rattle.invariants.specs.GivenCases.{cond-case}

-- ---- a refusal

module _ (connection : ℕ) (s : List ℕ) (t : Tables) (memory room : List ℕ) where
  -- "A refusal of this table writes nothing at all": reply length 0, and tables, file memory and reply room are those that the call was given
  pub refused-writes-nothing : ((take-message connection s t memory room).number ≡ 0 → ⊥)
      → take-message connection s t memory room ≡ not_taken (take-message connection s t memory room).number t memory room
  unfolding take-message not_taken replied
  refused-writes-nothing =
      cond-case Nothing (ltb (length room) 12292 || not (eqb (length memory) 65536)) (not_taken 2 t memory room) _ (λ _ n. refl)
      (λ _. cond-case Nothing (not (sound t)) (not_taken 4 t memory room) _ (λ _ n. refl)
      (λ _. cond-case Nothing (dropped s) (not_taken 1 t memory room) (replied s room (answered connection s t memory)) (λ _ n. refl) (λ _ n. absurd (n refl))))
    where
      Nothing : Taken → Type 0
      Nothing r = (r.number ≡ 0 → ⊥) → r ≡ not_taken r.number t memory room

-- ---- a reply

-- the reply room after a call: as long as before, and past the reply as before; in a larger room too the reply is no longer than "reply room 12,292"
pub record RoomKept (room : List ℕ) (call : Taken) : Type 0 where
  pub fits : call.length ≤ length room
  pub at_most : call.length ≤ 12292
  pub same_length : length call.room ≡ length room
  pub rest : drop call.length call.room ≡ drop call.length room

-- a reply laid over the front of the room leaves the rest
put_rest : (room reply : List ℕ) → drop (length reply) (put room 0 reply) ≡ drop (length reply) room
unfolding put
put_rest room reply = drop-append_seam reply (drop (0 + length reply) room) ∙ ap (λ (k : ℕ). drop k room) (zero-add (length reply))

module _ (connection : ℕ) (s : List ℕ) (t : Tables) (memory room : List ℕ) where
  -- "After 0, bytes of the reply room past the reply's length are as they were": whatever the call is given, and whatever its number (after a refusal the
  -- length is 0, and all of the room stands)
  pub room-rest : drop (take-message connection s t memory room).length (take-message connection s t memory room).room ≡ drop (take-message connection s t memory room).length room
  unfolding take-message not_taken replied
  room-rest =
      cond-case Rest (ltb (length room) 12292 || not (eqb (length memory) 65536)) (not_taken 2 t memory room) _ (λ _. refl)
      (λ _. cond-case Rest (not (sound t)) (not_taken 4 t memory room) _ (λ _. refl)
      (λ _. cond-case Rest (dropped s) (not_taken 1 t memory room) (replied s room (answered connection s t memory)) (λ _. refl)
      (λ _. put_rest room (reply_of s (answered connection s t memory)))))
    where
      Rest : Taken → Type 0
      Rest r = drop r.length r.room ≡ drop r.length room

  -- the same, byte by byte
  pub bytes-kept : (k : ℕ) → (take-message connection s t memory room).length ≤ k → byte_at (take-message connection s t memory room).room k ≡ byte_at room k
  bytes-kept k h =
      let n : (take-message connection s t memory room).length + (k - (take-message connection s t memory room).length) ≡ k = omega arith in
      rw (← n)
      (sym (get_or-drop (take-message connection s t memory room).length (take-message connection s t memory room).room (k - (take-message connection s t memory room).length) 0)
      ∙ ap (λ (l : List ℕ). byte_at l (k - (take-message connection s t memory room).length)) room-rest
      ∙ get_or-drop (take-message connection s t memory room).length room (k - (take-message connection s t memory room).length) 0)

-- where nothing is written, all of it stands
pub nothing-kept : (number : ℕ) (t : Tables) (memory room : List ℕ) → RoomKept room (not_taken number t memory room)
unfolding not_taken
nothing-kept number t memory room = record { fits = omega arith; at_most = omega arith; same_length = refl; rest = refl }

pub reply-kept : (s : List ℕ) (room : List ℕ) (connection : ℕ) (t : Tables) (memory : List ℕ) → length (reply_of s (answered connection s t memory)) ≤ length room
    → length (reply_of s (answered connection s t memory)) ≤ 12292 → RoomKept room (replied s room (answered connection s t memory))
unfolding replied
reply-kept s room connection t memory h most =
    record {
      fits = h;
      at_most = most;
      same_length = length-put room (reply_of s (answered connection s t memory)) 0 (omega arith);
      rest = put_rest room (reply_of s (answered connection s t memory));
    }

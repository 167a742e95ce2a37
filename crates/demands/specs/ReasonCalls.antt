-- The status in the reply to a message of one command and the one reason for it (document 01, "Refusals on the wire"), said of the call. Assumes nothing.
use Rattle.std.specs.Prelude.{◌≡◌, refl, ℕ, ◌/◌, ◌%◌, length}
use Rattle.std.proofs.Common.{◌∙◌, arith, eq-eqb, ne_eqb}
use mathlib.Core.List.{List, [], ◌∷◌}
use Rattle.records.specs.declared.Tables.{Tables}
use Rattle.locks.specs.Wire.{range_size}
use Rattle.claims.specs.Cases.{status_in}
use Rattle.chain.specs.Layout.{byte_count, fid_after_andx, lock_type, unlock_count, lock_count}
use Rattle.chain.specs.Grammar.{IsBlock, locking-10, locking-20, read-10, read-12, write-12, write-14, close, logoff, tree-disconnect, process-exit, core-read, core-write, lock-byte-range, unlock-byte-range, open-15}
use Rattle.chain.specs.declared.block.LockingFields.{LockingFields}
use Rattle.chain.specs.declared.block.Body.TheVariants.{Locking as LockingBody}
use Rattle.chain.specs.declared.block.Block.{Block}
use Rattle.invariants.specs.BlockParse.{body_at, block_at}
use Rattle.invariants.specs.Chained.{Chained, chained-end, chained_more}
use Rattle.message.specs.Refusal.{status}
use Rattle.message.specs.Command.{Given, refused, done}
use Rattle.message.specs.Message.{area_of, Ran, after, after_given}
use Rattle.demands.specs.Malformed.{length-area}
use Rattle.demands.specs.LockWords.{never}
use Rattle.demands.specs.CommandReasons.{Announced}

-- the fields of a LOCKING block
abbrev pub fields_at : List ℕ → ℕ → LockingFields
fields_at s at = record { fid = fid_after_andx s at; kind = lock_type s at; unlocks = unlock_count s at; locks = lock_count s at }

-- a block of the grammar has a byte area of just the announced ranges; another body than a LOCKING's has none to announce
pub block-announced : {s : List ℕ} {at command : ℕ} → IsBlock s at command → (area : List ℕ) → length area ≡ byte_count s at → Announced (body_at s command at) area
unfolding Announced body_at range_size
block-announced {s} {at} (locking-10 p h) area e f same =
    let q : LockingBody (fields_at s at) ≡ LockingBody f = same in
    let z : fields_at s at ≡ f = cc in
    rw (← z) (rw (ne_eqb (lock_type s at / 16 % 2) 1 (omega arith)) (e ∙ h.announced))
block-announced {s} {at} (locking-20 p h) area e f same =
    let q : LockingBody (fields_at s at) ≡ LockingBody f = same in
    let z : fields_at s at ≡ f = cc in
    rw (← z) (rw (eq-eqb (lock_type s at / 16 % 2) 1 p) (e ∙ h.announced))
block-announced (read-10 h) area e f same = never cc
block-announced (read-12 h) area e f same = never cc
block-announced (write-12 h) area e f same = never cc
block-announced (write-14 h) area e f same = never cc
block-announced (close h) area e f same = never cc
block-announced (logoff h) area e f same = never cc
block-announced (tree-disconnect h) area e f same = never cc
block-announced (process-exit h) area e f same = never cc
block-announced (core-read h) area e f same = never cc
block-announced (core-write h) area e f same = never cc
block-announced (lock-byte-range h) area e f same = never cc
block-announced (unlock-byte-range h) area e f same = never cc
block-announced (open-15 h) area e f same = never cc

-- the status of a message of one command
pub given-status : (g : Given) (place : ℕ) (t : Tables) (memory : List ℕ) (rest : ℕ → ℕ → Tables → List ℕ → Ran) → ((j p : ℕ) (u : Tables) (m : List ℕ) → (rest j p u m).forms.status ≡ status 0 0)
    → (after_given g [] place t memory rest).forms.status ≡ status_in g
unfolding after_given after status_in
given-status (refused why) place t memory rest h = refl
given-status (done u m said) place t memory rest h = h _ _ u m

-- its one block is one of the grammar
pub one-announced : {s : List ℕ} {command at : ℕ} {b : Block} → Chained s command at (b ∷ []) → Announced b.body (area_of s b)
unfolding block_at
one-announced (chained-end h l) = block-announced h _ (length-area h _)
one-announced (chained_more h l rest) = elim rest [ ]

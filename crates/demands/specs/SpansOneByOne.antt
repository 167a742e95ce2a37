-- "Sent one to a message" over the blocks of a reading (document 01): the message that a block makes of its own depends on its command, place and length alone, so
-- the messages of a reading are known from the message's bytes, with no reader between. Assumes nothing.
use Rattle.std.specs.Prelude.{◌≡◌, refl, ℕ, ◌-◌, cond, List, [], ◌∷◌, ◌++◌, map, take, drop, set, None as Nobody}
use Rattle.records.specs.declared.Tables.{Tables}
use Rattle.chain.specs.Layout.{data_offset}
use Rattle.chain.specs.Grammar.{Span}
use Rattle.chain.specs.declared.block.Block.{Block}
use Rattle.invariants.specs.ReaderSound.{span_of}
use Rattle.message.specs.Message.{Taken, take-message}
use Rattle.demands.specs.Alone.{end_set, data_set, alone_block, alone}
use Rattle.demands.specs.Returned.{returned_fid}
use Rattle.demands.specs.Carrying.{carrying}
use Rattle.demands.specs.CallsOneByOne.{Calls, reply_in, last_call, call_then, carried_out, call_on}

-- "each block in turn makes a message of the chain's header with the block's command, then the block at 32, with AndXCommand 0xFF where it has one, and a
-- WRITE_ANDX's DataOffset less by what the block moved"
unfoldable pub alone_span : List ℕ → Span → List ℕ
alone_span s b =
    set (take 32 s) 4 b.command
    ++ data_set b.command (data_offset s b.place - (b.place - 32)) (end_set b.command (take b.size (drop b.place s)))

-- "for 0xFFFF, and only then, demand 3's separate READ carries the FID returned": with `just` in place of 0xFFFF
unfoldable pub own_span : List ℕ → ℕ → Span → List ℕ
own_span s just b = carrying just (alone_span s b)

-- they are the messages of the reader's block
pub alone-span : (s : List ℕ) (b : Block) → alone s b ≡ alone_span s (span_of b)
unfolding alone alone_block alone_span span_of
alone-span s b = refl

-- "It stops after the first one refused (Status not 0) or the last block."
unfoldable pub call_span_on : Taken → List Span → (ℕ → Tables → List ℕ → Calls) → Calls
call_span_on r [] rest = last_call r
call_span_on r (b ∷ bs) rest = cond (carried_out r) (call_then (reply_in r) (rest (returned_fid (reply_in r)) r.tables r.memory)) (last_call r)

-- the messages of these blocks, one by one: "The first gets the sound tables and files that the chain got, each next those the last one left", and the FID that its
-- reply returned
unfoldable pub call_spans : ℕ → List ℕ → List ℕ → ℕ → List Span → Tables → List ℕ → Calls
call_spans connection s room just [] t memory = record { number = 0; holder = Nobody; tables = t; memory = memory; replies = [] }
call_spans connection s room just (b ∷ bs) t memory =
    call_span_on (take-message connection (own_span s just b) t memory room) bs (λ j u m. call_spans connection s room j bs u m)

-- they are those of the reader's blocks
pub same-on : (r : Taken) (bs : List Block) (f g : ℕ → Tables → List ℕ → Calls) → f (returned_fid (reply_in r)) r.tables r.memory ≡ g (returned_fid (reply_in r)) r.tables r.memory
    → call_on r bs f ≡ call_span_on r (map span_of bs) g
unfolding call_on call_span_on
same-on r [] f g e = refl
same-on r (b ∷ bs) f g e = rw e

-- What a message gives: demand 2's definition. Assumes nothing.
use Rattle.std.specs.Prelude.{ℕ, ◌+◌, Bool, cond, not, ◌||◌, List, [], ◌∷◌, ◌++◌, length, take, drop, ltb, eqb, Option, None, Some, None as Nobody, None as no_link}
use Rattle.lists.specs.Put.{put}
use Rattle.records.specs.declared.Tables.{Tables}
use Rattle.soundness.specs.Sound.{sound}
use Rattle.chain.specs.Layout.{CLOSE, PROCESS_EXIT, LOCKING, READ, WRITE, TREE_DISCONNECT, LOGOFF, CORE-READ, CORE-WRITE, LOCK_BYTE_RANGE, UNLOCK_BYTE_RANGE, OPEN, header_command, FIRST, byte_area, byte_count, data_offset, data_length}
use Rattle.chain.specs.Header.{dropped}
use Rattle.chain.specs.Chain.{blocks}
use Rattle.chain.specs.declared.block.Block.{Block}
use Rattle.message.specs.Caller.{caller_of}
use Rattle.message.specs.declared.caller.Caller.{Caller}
use Rattle.message.specs.Refusal.{success, forms_of, holder_of}
use Rattle.message.specs.declared.refusal.Forms.{Forms}
use Rattle.message.specs.HeldBy.{HeldBy}
use Rattle.message.specs.Command.{Given, refused, done, perform}
use Rattle.message.specs.JustOpened.{NOBODY, opened_by, body_meant}
use Rattle.message.specs.Reply.{reply_header, reply_block, refused_block, reply_size}
use Rattle.chain.specs.Next.{Next, Follow}
use Rattle.message.specs.declared.refusal.Refusal.TheVariants.{NotServed, NotSentence}

-- a block's byte area, and a WRITE_ANDX's data, as parts of the message; of another command's block nobody looks at the latter
unfoldable pub area_of : List ℕ → Block → List ℕ
area_of s b = take (byte_count s b.at) (drop (byte_area s b.at) s)

unfoldable pub data_of : List ℕ → Block → List ℕ
data_of s b = take (data_length s b.at) (drop (data_offset s b.at) s)

-- what a chain leaves: its status in both forms, the holder of the lock that its refused command met, the tables, the file memory, and the reply blocks
pub record Ran : Type 0 where
  pub forms : Forms
  pub holder : HeldBy
  pub tables : Tables
  pub memory : List ℕ
  pub blocks : List ℕ

-- a block's bytes before those of the blocks after it
unfoldable pub after : List ℕ → Ran → Ran
after bytes r = record { forms = r.forms; holder = r.holder; tables = r.tables; memory = r.memory; blocks = bytes ++ r.blocks }

-- "AndX names the next block written": the block after this one, where there is one
unfoldable pub link_to : List Block → ℕ → Next
link_to [] place = no_link
link_to (b ∷ bs) place = Follow b.command place

-- "command by command": "Commands before it in the chain stand; those after it aren't begun." Blocks stand end to end, the
-- first of these at `place`.
unfoldable pub after_given : Given → List Block → ℕ → Tables → List ℕ → (ℕ → ℕ → Tables → List ℕ → Ran) → Ran
after_given (refused why) bs place t memory rest = record { forms = forms_of why; holder = holder_of why; tables = t; memory = memory; blocks = refused_block }
after_given (done t' memory' said) bs place t memory rest =
    after (reply_block said place (link_to bs (place + reply_size said))) (rest (opened_by said) (place + reply_size said) t' memory')

-- `just` is what FID 0xFFFF means in the first of these blocks (document 02, CR 6)
unfoldable pub run : Caller → List ℕ → ℕ → List Block → ℕ → Tables → List ℕ → Ran
run c s just [] place t memory = record { forms = success; holder = Nobody; tables = t; memory = memory; blocks = [] }
run c s just (b ∷ bs) place t memory =
    after_given (perform c t memory (body_meant just b.body) (area_of s b) (data_of s b)) bs place t memory (λ j p t' m. run c s j bs p t' m)

-- "2/22 header command not served"
unfoldable pub served : ℕ → Bool
served command =
    eqb command LOCKING || (eqb command READ || (eqb command WRITE || (eqb command CLOSE || (eqb command LOGOFF || (eqb command TREE_DISCONNECT || (eqb command PROCESS_EXIT
    || (eqb command CORE-READ || (eqb command CORE-WRITE || (eqb command LOCK_BYTE_RANGE || (eqb command UNLOCK_BYTE_RANGE || eqb command OPEN))))))))))

unfoldable pub only_status : Forms → Tables → List ℕ → Ran
only_status why t memory = record { forms = why; holder = Nobody; tables = t; memory = memory; blocks = refused_block }

unfoldable pub run_chain : Caller → List ℕ → Option (List Block) → Tables → List ℕ → Ran
run_chain c s None t memory = only_status (forms_of NotSentence) t memory
run_chain c s (Some bs) t memory = run c s NOBODY bs FIRST t memory

-- a message fit to be answered: "2/22 and 2/1 come before anything is carried out"
unfoldable pub answered : ℕ → List ℕ → Tables → List ℕ → Ran
answered connection s t memory =
    cond (served (header_command s)) (run_chain (caller_of connection s) s (blocks s) t memory) (only_status (forms_of NotServed) t memory)

unfoldable pub reply_of : List ℕ → Ran → List ℕ
reply_of s r = reply_header s r.forms ++ r.blocks

-- what the call gives back: the number of document 01's table, the reply's length, beside it the holder (document 02, CR 2), tables, file
-- memory and reply room
pub record Taken : Type 0 where
  pub number : ℕ
  pub length : ℕ
  pub holder : HeldBy
  pub tables : Tables
  pub memory : List ℕ
  pub room : List ℕ

unfoldable pub not_taken : ℕ → Tables → List ℕ → List ℕ → Taken
not_taken number t memory room = record { number = number; length = 0; holder = Nobody; tables = t; memory = memory; room = room }

unfoldable pub replied : List ℕ → List ℕ → Ran → Taken
replied s room r =
    record {
      number = 0;
      length = length (reply_of s r);
      holder = r.holder;
      tables = r.tables;
      memory = r.memory;
      room = put room 0 (reply_of s r);
    }

-- the numbers in the order 2, 4, 1: "reply room under 12,292 bytes, or file memory not 65,536"; "tables not sound"; "message
-- dropped". "A refusal of this table writes nothing at all."
unfoldable pub take-message : ℕ → List ℕ → Tables → List ℕ → List ℕ → Taken
take-message connection s t memory room =
    cond (ltb (length room) 12292 || not (eqb (length memory) 65536)) (not_taken 2 t memory room)
    (cond (not (sound t)) (not_taken 4 t memory room)
    (cond (dropped s) (not_taken 1 t memory room) (replied s room (answered connection s t memory))))

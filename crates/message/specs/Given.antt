-- What the code hands on, as what a command gives. Assumes nothing.
use Rattle.std.specs.Prelude.{◌≡◌, ℕ, ◌+◌, Bool, true, List, take, drop, leb, Result, Ok, Err}
use Rattle.records.specs.declared.Tables.{Tables}
use Rattle.message.specs.Command.{Said, locked, logged_off, read, wrote, plain, core_read, core_wrote, opened, Given, refused, done}
use Rattle.message.specs.Reply.{reply_block, refused_block}
use Rattle.chain.specs.Next.{Next}
use Rattle.message.specs.declared.answer.Answer.{Answer}
use Rattle.message.specs.declared.answer.Answer.TheVariants.{Locked, LoggedOff, Read, Wrote, Plain, CoreRead, CoreWrote, Opened}
use Rattle.message.specs.declared.answer.Performed.{Performed}
use Rattle.message.specs.declared.refusal.Refusal.{Refusal}

-- what a command answers, done or refused
abbrev pub Answered : Type 0
Answered = Result Answer Refusal

-- what the reply block of a command done says: a READ's bytes stand in the file memory
unfoldable pub said_of : Answer → List ℕ → Said
said_of Locked memory = locked
said_of LoggedOff memory = logged_off
said_of (Read place count) memory = read (take count (drop place memory))
said_of (Wrote count) memory = wrote count
said_of Plain memory = plain
said_of (CoreRead place count) memory = core_read (take count (drop place memory))
said_of (CoreWrote count) memory = core_wrote count
said_of (Opened fid size access results) memory = opened fid size access results

-- an answer with the tables and the file memory left
unfoldable pub given_of : Answered → Tables → List ℕ → Given
given_of (Err why) t memory = refused why
given_of (Ok a) t memory = done t memory (said_of a memory)

-- a READ's bytes lie in the file memory
unfoldable pub bytes_inside : Answer → Bool
bytes_inside Locked = true
bytes_inside LoggedOff = true
bytes_inside (Read place count) = leb (place + count) 65536
bytes_inside (Wrote count) = true
bytes_inside Plain = true
bytes_inside (CoreRead place count) = leb (place + count) 65536
bytes_inside (CoreWrote count) = true
bytes_inside (Opened fid size access results) = true

unfoldable pub inside : Answered → Bool
inside (Err why) = true
inside (Ok a) = bytes_inside a

-- the tables and the file memory after a command: "A command refused changes no table and no file byte"
unfoldable pub tables_after : Given → Tables → Tables
tables_after (refused why) t = t
tables_after (done t' memory' said) t = t'

unfoldable pub memory_after : Given → List ℕ → List ℕ
memory_after (refused why) memory = memory
memory_after (done t' memory' said) memory = memory'

-- what was performed is the command's meaning, on the tables and the file memory it began with and those it left
pub record Gives (given : Given) (t : Tables) (memory : List ℕ) (p : Performed) (left : List ℕ) : Type 0 where
  pub meaning : given ≡ given_of p.answer p.tables left
  pub tables-left : p.tables ≡ tables_after given t
  pub memory-left : left ≡ memory_after given memory
  pub within : inside p.answer ≡ true

-- the reply block of an answer
unfoldable pub block_of : Answered → List ℕ → ℕ → Next → List ℕ
block_of (Err why) memory place link = refused_block
block_of (Ok a) memory place link = reply_block (said_of a memory) place link

-- its length
unfoldable pub done_size : Answer → ℕ
done_size Locked = 7
done_size LoggedOff = 7
done_size (Read at count) = 27 + count
done_size (Wrote count) = 15
done_size Plain = 3
done_size (CoreRead at count) = 16 + count
done_size (CoreWrote count) = 5
done_size (Opened fid size access results) = 33

unfoldable pub answer_size : Answered → ℕ
answer_size (Err why) = 3
answer_size (Ok a) = done_size a

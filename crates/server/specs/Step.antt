-- What the loop over a chain does after a command. Assumes nothing.
use Rattle.std.specs.Prelude.{ℕ, Ok, Err, None as End, None as Nobody}
use Rattle.chain.specs.Next.{Next}
use Rattle.message.specs.JustOpened.{NOBODY}
use Rattle.message.specs.Refusal.{success, forms_of, holder_of}
use Rattle.message.specs.declared.refusal.Forms.{Forms}
use Rattle.message.specs.HeldBy.{HeldBy}
use Rattle.message.specs.Given.{Answered}
use Rattle.message.specs.declared.answer.Answer.{Answer}
use Rattle.message.specs.declared.answer.Answer.TheVariants.{Locked, LoggedOff, Read, Wrote, Plain, CoreRead, CoreWrote, Opened}

-- the status in both forms that an answer leaves for the header, if it is the last
unfoldable pub forms_after : Answered → Forms
forms_after (Err why) = forms_of why
forms_after (Ok a) = success

-- the holder that it names, if it is the last
unfoldable pub holder_left : Answered → HeldBy
holder_left (Err why) = holder_of why
holder_left (Ok a) = Nobody

-- "Commands before it in the chain stand; those after it aren't begun": what is carried out next
unfoldable pub goes_on : Answered → Next → Next
goes_on (Err why) next = End
goes_on (Ok a) next = next

-- "FID 0xFFFF means the file just opened": what it means in the next block; 0xFFFF itself, nobody's FID, behind all but an OPEN_ANDX
unfoldable pub fid_opened : Answer → ℕ
fid_opened Locked = NOBODY
fid_opened LoggedOff = NOBODY
fid_opened (Read place count) = NOBODY
fid_opened (Wrote count) = NOBODY
fid_opened Plain = NOBODY
fid_opened (CoreRead place count) = NOBODY
fid_opened (CoreWrote count) = NOBODY
fid_opened (Opened fid size access results) = fid

unfoldable pub just_opened : Answered → ℕ
just_opened (Err why) = NOBODY
just_opened (Ok a) = fid_opened a

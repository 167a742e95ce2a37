-- The loop over a chain: how far it is, and what a turn does. Assumes nothing.
use Rattle.std.proofs.Math.Path.{◌≡◌, sym, ap}
use Rattle.std.specs.Prelude.{refl, ℕ, ◌+◌, ◌≤◌, true, take, drop, Ok, Err, None as End, Some as Whole, None as Nobody}
use Rattle.std.proofs.Common.{◌∙◌, arith}
use mathlib.Core.List.{List, [], ◌∷◌, ◌++◌, append_assoc, append-nil}
use Rattle.std.proofs.Math.ListN.{length, length-append}
use Rattle.lists.specs.Put.{put}
use Rattle.lists.specs.PutLaws.{put-nothing, put_then, length-put}
use Rattle.records.specs.declared.Tables.{Tables}
use Rattle.chain.specs.Parse.{parse}
use Rattle.chain.specs.Next.{Next, Follow, same-command, same-place}
use Rattle.chain.specs.declared.block.Block.{Block}
use Rattle.invariants.specs.BlockParse.{block_at, parse-complete}
use Rattle.invariants.specs.Chained.{Chained, chained-end, chained_more}
use Rattle.message.specs.declared.caller.Caller.{Caller}
use Rattle.message.specs.declared.refusal.Forms.{Forms}
use Rattle.message.specs.Refusal.{success, forms_of, holder_of}
use Rattle.message.specs.HeldBy.{HeldBy}
use Rattle.message.specs.declared.refusal.Refusal.{Refusal}
use Rattle.message.specs.Command.{Said, locked, logged_off, read, wrote, plain, core_read, core_wrote, opened, Given, refused, done, perform}
use Rattle.message.specs.Reply.{reply_block, refused_block, reply_size}
use Rattle.message.specs.JustOpened.{NOBODY, opened_by, body_meant}
use Rattle.message.specs.Message.{area_of, data_of, Ran, after, link_to, after_given, run}
use Rattle.message.specs.Given.{Answered, said_of, given_of, inside, tables_after, memory_after, block_of, answer_size}
use Rattle.message.specs.declared.answer.Answer.{Answer}
use Rattle.message.specs.declared.answer.Answer.TheVariants.{Locked, LoggedOff, Read, Wrote, Plain, CoreRead, CoreWrote, Opened}
use Rattle.invariants.specs.Sound.{Good, keeps-good, perform-keeps}
use Rattle.invariants.specs.ReplySize.{length-block}
use Rattle.reply.specs.Links.{link_for}
use Rattle.reply.specs.BlockLaws.{length-said}
use Rattle.server.specs.Step.{forms_after, holder_left, goes_on, fid_opened, just_opened}

-- ---- a chain at its first block

-- the block that stands there, and the chain behind it
pub record Head (s : List ℕ) (command at : ℕ) (bs : List Block) (b : Block) : Type 0 where
  pub behind : List Block
  pub named : b.command ≡ command
  pub stands : b.at ≡ at
  pub same : bs ≡ b ∷ behind
  pub ends : b.next ≡ End → behind ≡ []
  pub follows : (c a : ℕ) → b.next ≡ Follow c a → Chained s c a behind
  pub link : (place : ℕ) → link_to behind place ≡ link_for b.next place

chained-link : {s : List ℕ} {c a : ℕ} {bs : List Block} → Chained s c a bs → (place : ℕ) → link_to bs place ≡ Follow c place
unfolding link_to block_at
chained-link (chained-end h l) place = refl
chained-link (chained_more h l r) place = refl

pub head : {s : List ℕ} {command at : ℕ} {bs : List Block} → Chained s command at bs → (b : Block) → parse s command at ≡ Whole b → Head s command at bs b
unfolding link_to link_for block_at
head {s} (chained-end {command} {at} h l) b e =
    let f : b ≡ block_at s command at End = cc (parse-complete s at h l) in
    rw f (record {
      behind = [];
      named = refl;
      stands = refl;
      same = refl;
      ends = λ _. refl;
      follows = λ c a q. let z : ◌≡◌ {A = ℕ} 0 1 = cc in absurd (omega arith);
      link = λ place. refl;
    })
head {s} (chained_more {command} {at} {c = c'} {a = a'} {rest} h l r) b e =
    let f : b ≡ block_at s command at (Follow c' a') = cc (parse-complete s at h l) in
    rw f (record {
      behind = rest;
      named = refl;
      stands = refl;
      same = refl;
      ends = λ q. let z : ◌≡◌ {A = ℕ} 0 1 = cc in absurd (omega arith);
      follows = λ c a q. rw (← (same-command q), ← (same-place q)) r;
      link = λ place. chained-link r place;
    })

-- ---- an answer, as what the definition says of it

-- an OPEN_ANDX alone says that a file was opened
said-opens : (x : Answer) (memory : List ℕ) → fid_opened x ≡ opened_by (said_of x memory)
unfolding fid_opened opened_by said_of
said-opens Locked memory = refl
said-opens LoggedOff memory = refl
said-opens (Read place count) memory = refl
said-opens (Wrote count) memory = refl
said-opens Plain memory = refl
said-opens (CoreRead place count) memory = refl
said-opens (CoreWrote count) memory = refl
said-opens (Opened fid size access results) memory = refl

-- what an answer that is no refusal says
record Says (a : Answered) (memory : List ℕ) : Type 0 where
  pub said : Said
  pub given : (t : Tables) → given_of a t memory ≡ done t memory said
  pub block : (place : ℕ) (link : Next) → block_of a memory place link ≡ reply_block said place link
  pub size : answer_size a ≡ reply_size said
  pub forms-is : forms_after a ≡ success
  pub nobody : holder_left a ≡ Nobody
  pub next-is : (n : Next) → goes_on a n ≡ n
  pub opens : just_opened a ≡ opened_by said

-- ---- what a chain's head gives

module _ (c : Caller) (s : List ℕ) (just : ℕ) (b : Block) (behind : List Block) (place : ℕ) (t : Tables) (memory : List ℕ) where
  abbrev given : Given
  given = perform c t memory (body_meant just b.body) (area_of s b) (data_of s b)

  run-refused : (why : Refusal) → given ≡ refused why → run c s just (b ∷ behind) place t memory ≡ record { forms = forms_of why; holder = holder_of why; tables = t; memory = memory; blocks = refused_block }
  unfolding run after_given
  run-refused why e = rw e

  run-done : (t' : Tables) (memory' : List ℕ) (said : Said) → given ≡ done t' memory' said
      → run c s just (b ∷ behind) place t memory
      ≡ after (reply_block said place (link_to behind (place + reply_size said))) (run c s (opened_by said) behind (place + reply_size said) t' memory')
  unfolding run after_given
  run-done t' memory' said e = rw e

-- blocks in front of blocks in front
after-after : (x y : List ℕ) (r : Ran) → after x (after y r) ≡ after (x ++ y) r
unfolding after
after-after x y r = ap (λ (z : List ℕ). record { forms = r.forms; holder = r.holder; tables = r.tables; memory = r.memory; blocks = z }) (sym (append_assoc x y r.blocks))

after_nothing : (r : Ran) → after [] r ≡ r
unfolding after
after_nothing r = refl

-- ---- how far the loop is

-- the chain has been carried out: its status in both forms, holder, tables, file memory, and its blocks in the room from 32 on
module _ (first : List ℕ) (whole : Ran) where
  pub record Finished (why : Forms) (who : HeldBy) (place : ℕ) (t : Tables) (memory room : List ℕ) : Type 0 where
    pub forms-is : why ≡ whole.forms
    pub holder-is : who ≡ whole.holder
    pub tables-are : t ≡ whole.tables
    pub memory-is : memory ≡ whole.memory
    pub room-is : room ≡ put first 32 whole.blocks
    pub place_is : place ≡ 32 + length whole.blocks

module _ (c : Caller) (s first : List ℕ) (whole : Ran) where
  -- `written` are the blocks written so far, from 32 on; what is left to carry out completes the whole
  pub record Going (command at place just : ℕ) (t : Tables) (memory room : List ℕ) : Type 0 where
    pub blocks-left : List Block
    pub chained : Chained s command at blocks-left
    pub written : List ℕ
    pub room-is : room ≡ put first 32 written
    pub place_is : place ≡ 32 + length written
    pub left : whole ≡ after written (run c s just blocks-left place t memory)
    pub good : Good t
    pub memory-size : length memory ≡ 65536

-- at first nothing is written
pub going_start : (c : Caller) (s room : List ℕ) {command : ℕ} {bs : List Block} (t : Tables) (memory : List ℕ) → Chained s command 32 bs → Good t → length memory ≡ 65536
    → Going c s room (run c s NOBODY bs 32 t memory) command 32 32 NOBODY t memory room
going_start c s room {command} {bs} t memory h g m =
    record {
      blocks-left = bs;
      chained = h;
      written = [];
      room-is = sym (put-nothing room 32);
      place_is = omega arith;
      left = sym (after_nothing (run c s NOBODY bs 32 t memory));
      good = g;
      memory-size = m;
    }

-- the blocks written are some of the whole's, so they fit where those do
going-place : {c : Caller} {s first : List ℕ} {whole : Ran} {command at place just : ℕ} {t : Tables} {memory room : List ℕ} → Going c s first whole command at place just t memory room
    → place ≤ 32 + length whole.blocks
unfolding after
going-place {c} {s} {first} {whole} {command} {at} {place} {just} {t} {memory} {room} g =
    let p = g.place_is in
    let l : length whole.blocks ≡ length (g.written ++ (run c s just g.blocks-left place t memory).blocks) = ap (λ (x : Ran). length x.blocks) g.left in
    let n = length-append g.written (run c s just g.blocks-left place t memory).blocks in
    omega arith

pub going-length : {c : Caller} {s first : List ℕ} {whole : Ran} {command at place just : ℕ} {t : Tables} {memory room : List ℕ} → Going c s first whole command at place just t memory room
    → 32 + length whole.blocks ≤ length first → length room ≡ length first
going-length {first = first} g enough =
    let p = g.place_is in
    let h = going-place g in
    ap length g.room-is ∙ length-put first g.written 32 (omega arith)

pub finished-length : {first : List ℕ} {whole : Ran} {why : Forms} {who : HeldBy} {place : ℕ} {t : Tables} {memory room : List ℕ} → Finished first whole why who place t memory room
    → 32 + length whole.blocks ≤ length first → length room ≡ length first
finished-length {first} {whole} f enough = ap length f.room-is ∙ length-put first whole.blocks 32 enough

-- ---- a turn of the loop: the head block is parsed, performed, and its reply block written

-- a refusal, or what is said
data Kind (a : Answered) (memory : List ℕ) : Type 0 where
  was-refused : (why : Refusal) → a ≡ Err why → Kind a memory
  was-done : Says a memory → Kind a memory

kind : (a : Answered) (memory : List ℕ) → inside a ≡ true → length memory ≡ 65536 → Kind a memory
unfolding given_of block_of answer_size forms_after holder_left goes_on just_opened inside
kind (Err why) memory i m = was-refused why refl
kind (Ok x) memory i m =
    was-done (record {
      said = said_of x memory;
      given = λ t. refl;
      block = λ p l. refl;
      size = sym (length-said x memory i m);
      forms-is = refl;
      nobody = refl;
      next-is = λ n. refl;
      opens = said-opens x memory;
    })

module _ {c : Caller} {s first : List ℕ} {whole : Ran} {command at place just : ℕ} {t : Tables} {memory room : List ℕ} (g : Going c s first whole command at place just t memory room) (b : Block) (e : parse s command at ≡ Whole b) where
  pub here : Head s command at g.blocks-left b
  here = head g.chained b e

  the-whole : whole ≡ after g.written (run c s just (b ∷ here.behind) place t memory)
  the-whole = g.left ∙ ap (λ (bs : List Block). after g.written (run c s just bs place t memory)) here.same

  -- what is done: the reply block stands behind those written, and the chain goes on behind it
  module _ (t' : Tables) (memory' : List ℕ) (said : Said) (d : perform c t memory (body_meant just b.body) (area_of s b) (data_of s b) ≡ done t' memory' said) where
    abbrev block : List ℕ
    block = reply_block said place (link_for b.next (place + reply_size said))

    done-whole : whole ≡ after (g.written ++ block) (run c s (opened_by said) here.behind (place + reply_size said) t' memory')
    done-whole =
        the-whole
        ∙ ap (after g.written)
        (run-done c s just b here.behind place t memory t' memory' said d
        ∙ ap (λ (l : Next). after (reply_block said place l) (run c s (opened_by said) here.behind (place + reply_size said) t' memory')) (here.link (place + reply_size said)))
        ∙ after-after g.written block (run c s (opened_by said) here.behind (place + reply_size said) t' memory')

    done-good : Good t'
    done-good = keeps-good (rw d at (perform-keeps t g.good c memory (body_meant just b.body) (area_of s b) (data_of s b)))

    done-place : place + reply_size said ≡ 32 + length (g.written ++ block)
    done-place =
        let p = g.place_is in
        let l : length block ≡ reply_size said = length-block said place (link_for b.next (place + reply_size said)) in
        rw (length-append) (omega arith)

  -- what is refused: its block stands behind those written, and the tables and the file memory are as they were
  module _ (why : Refusal) (d : perform c t memory (body_meant just b.body) (area_of s b) (data_of s b) ≡ refused why) where
    refused-whole : whole ≡ record { forms = forms_of why; holder = holder_of why; tables = t; memory = memory; blocks = g.written ++ refused_block }
    unfolding after
    refused-whole = the-whole ∙ ap (after g.written) (run-refused c s just b here.behind place t memory why d)

  module _ (a : Answered) (t' : Tables) (memory' : List ℕ) (meaning : perform c t memory (body_meant just b.body) (area_of s b) (data_of s b) ≡ given_of a t' memory')
      (tables-left : t' ≡ tables_after (perform c t memory (body_meant just b.body) (area_of s b) (data_of s b)) t)
      (memory-left : memory' ≡ memory_after (perform c t memory (body_meant just b.body) (area_of s b) (data_of s b)) memory) (within : inside a ≡ true) (size : length memory' ≡ 65536) where
    fits-kind : Kind a memory' → place + answer_size a ≤ 32 + length whole.blocks
    unfolding given_of answer_size refused_block after
    fits-kind (was-refused why f) =
        let p = g.place_is in
        let r : perform c t memory (body_meant just b.body) (area_of s b) (data_of s b) ≡ refused why = meaning ∙ ap (λ (x : Answered). given_of x t' memory') f in
        let w : length whole.blocks ≡ length (g.written ++ refused_block) = ap (λ (x : Ran). length x.blocks) (refused-whole why r) in
        let l = length-append g.written refused_block in
        rw f (omega arith)
    fits-kind (was-done k) =
        let d : perform c t memory (body_meant just b.body) (area_of s b) (data_of s b) ≡ done t' memory' k.said = meaning ∙ k.given t' in
        let w : length whole.blocks ≡ length ((g.written ++ block t' memory' k.said d) ++ (run c s (opened_by k.said) here.behind (place + reply_size k.said) t' memory').blocks) =
        ap (λ (x : Ran). length x.blocks) (done-whole t' memory' k.said d) in
        let l = length-append (g.written ++ block t' memory' k.said d) (run c s (opened_by k.said) here.behind (place + reply_size k.said) t' memory').blocks in
        let p = done-place t' memory' k.said d in
        rw k.size (omega arith)

    -- the block fits the room of the whole
    pub turn-fits : place + answer_size a ≤ 32 + length whole.blocks
    turn-fits = fits-kind (kind a memory' within size)

    module _ (room' : List ℕ) (enough : 32 + length whole.blocks ≤ length first)
        (laid : room' ≡ put room place (block_of a memory' place (link_for b.next (place + answer_size a)))) where
      -- the blocks written, with this one
      room-then : (x : List ℕ) → block_of a memory' place (link_for b.next (place + answer_size a)) ≡ x → room' ≡ put first 32 (g.written ++ x)
      room-then x f =
          let p = g.place_is in
          let h = turn-fits in
          laid
          ∙ ap (λ (y : List ℕ). put room place y) f
          ∙ ap (λ (y : List ℕ). put y place x) g.room-is
          ∙ ap (λ (k : ℕ). put (put first 32 g.written) k x) p
          ∙ put_then first g.written x 32 (omega arith)

      end-kind : Kind a memory' → goes_on a b.next ≡ End → Finished first whole (forms_after a) (holder_left a) (place + answer_size a) t' memory' room'
      unfolding given_of block_of answer_size refused_block after forms_after holder_left tables_after memory_after run
      end-kind (was-refused why f) stop =
          let p = g.place_is in
          let r : perform c t memory (body_meant just b.body) (area_of s b) (data_of s b) ≡ refused why = meaning ∙ ap (λ (x : Answered). given_of x t' memory') f in
          let w = refused-whole why r in
          let q : place + answer_size a ≡ 32 + length (g.written ++ refused_block) =
          ap (λ (x : Answered). place + answer_size x) f ∙ (let l = length-append g.written refused_block in omega arith) in
          record {
            forms-is = ap forms_after f ∙ sym (ap (λ (x : Ran). x.forms) w);
            holder-is = ap holder_left f ∙ sym (ap (λ (x : Ran). x.holder) w);
            tables-are = tables-left ∙ ap (λ (x : Given). tables_after x t) r ∙ sym (ap (λ (x : Ran). x.tables) w);
            memory-is = memory-left ∙ ap (λ (x : Given). memory_after x memory) r ∙ sym (ap (λ (x : Ran). x.memory) w);
            room-is = room-then refused_block (ap (λ (x : Answered). block_of x memory' place (link_for b.next (place + answer_size a))) f) ∙ sym (ap (λ (x : Ran). put first 32 x.blocks) w);
            place_is = q ∙ sym (ap (λ (x : Ran). 32 + length x.blocks) w);
          }
      end-kind (was-done k) stop =
          let d : perform c t memory (body_meant just b.body) (area_of s b) (data_of s b) ≡ done t' memory' k.said = meaning ∙ k.given t' in
          let last : here.behind ≡ [] = here.ends (sym (k.next-is b.next) ∙ stop) in
          let w : whole ≡ record { forms = success; holder = Nobody; tables = t'; memory = memory'; blocks = g.written ++ block t' memory' k.said d } =
          done-whole t' memory' k.said d
          ∙ ap (λ (bs : List Block). after (g.written ++ block t' memory' k.said d) (run c s (opened_by k.said) bs (place + reply_size k.said) t' memory')) last
          ∙ ap (λ (x : List ℕ). record { forms = success; holder = Nobody; tables = t'; memory = memory'; blocks = x }) (append-nil (g.written ++ block t' memory' k.said d)) in
          record {
            forms-is = k.forms-is ∙ sym (ap (λ (x : Ran). x.forms) w);
            holder-is = k.nobody ∙ sym (ap (λ (x : Ran). x.holder) w);
            tables-are = sym (ap (λ (x : Ran). x.tables) w);
            memory-is = sym (ap (λ (x : Ran). x.memory) w);
            room-is = room-then (block t' memory' k.said d) (k.block place (link_for b.next (place + answer_size a)) ∙ ap (λ (n : ℕ). reply_block k.said place (link_for b.next (place + n))) k.size)
                ∙ sym (ap (λ (x : Ran). put first 32 x.blocks) w);
            place_is = ap (λ (n : ℕ). place + n) k.size ∙ done-place t' memory' k.said d ∙ sym (ap (λ (x : Ran). 32 + length x.blocks) w);
          }

      more-kind : Kind a memory' → (c₁ a₁ : ℕ) → goes_on a b.next ≡ Follow c₁ a₁ → Going c s first whole c₁ a₁ (place + answer_size a) (just_opened a) t' memory' room'
      unfolding goes_on
      more-kind (was-refused why f) c₁ a₁ stop =
          let z : End ≡ Follow c₁ a₁ = sym (ap (λ (x : Answered). goes_on x b.next) f) ∙ stop in
          let n : ◌≡◌ {A = ℕ} 0 1 = cc in
          absurd (omega arith)
      more-kind (was-done k) c₁ a₁ stop =
          let d : perform c t memory (body_meant just b.body) (area_of s b) (data_of s b) ≡ done t' memory' k.said = meaning ∙ k.given t' in
          record {
            blocks-left = here.behind;
            chained = here.follows c₁ a₁ (sym (k.next-is b.next) ∙ stop);
            written = g.written ++ block t' memory' k.said d;
            room-is = room-then (block t' memory' k.said d) (k.block place (link_for b.next (place + answer_size a)) ∙ ap (λ (n : ℕ). reply_block k.said place (link_for b.next (place + n))) k.size);
            place_is = ap (λ (n : ℕ). place + n) k.size ∙ done-place t' memory' k.said d;
            left = done-whole t' memory' k.said d
                ∙ ap (λ (n : ℕ). after (g.written ++ block t' memory' k.said d) (run c s (opened_by k.said) here.behind (place + n) t' memory')) (sym k.size)
                ∙ ap (λ (j : ℕ). after (g.written ++ block t' memory' k.said d) (run c s j here.behind (place + answer_size a) t' memory')) (sym k.opens);
            good = done-good t' memory' k.said d;
            memory-size = size;
          }

      -- the chain ends here, with its last block or a refused one
      pub turn_end : goes_on a b.next ≡ End → Finished first whole (forms_after a) (holder_left a) (place + answer_size a) t' memory' room'
      turn_end = end-kind (kind a memory' within size)

      -- it goes on with the next block
      pub turn_more : (c₁ a₁ : ℕ) → goes_on a b.next ≡ Follow c₁ a₁ → Going c s first whole c₁ a₁ (place + answer_size a) (just_opened a) t' memory' room'
      turn_more = more-kind (kind a memory' within size)

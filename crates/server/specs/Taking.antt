-- From a message's reading to the loop, and from its end to what the call gives. Assumes nothing.
use Rattle.std.specs.Prelude.{◌≡◌, refl, ℕ, ◌+◌, ◌-◌, ◌≤◌, ◌<◌, true, false, List, ◌++◌, length, take, drop, Option, None, Some, Ok, Err, None as End, Some as Whole, None as Nobody}
use Rattle.std.proofs.Common.{sym, ap, ◌∙◌, arith, length-append}
use Rattle.std.proofs.lemmas.Bool.{false≢true}
use Rattle.lists.specs.Put.{put}
use Rattle.lists.specs.PutLaws.{put-before, put-part}
use Rattle.records.specs.declared.Tables.{Tables}
use Rattle.chain.specs.Layout.{header_command, FIRST}
use Rattle.chain.specs.Chain.{blocks_from, blocks}
use Rattle.chain.specs.Judged.{is_whole, readable}
use Rattle.chain.specs.Parse.{parse}
use Rattle.chain.proofs.ParseLaws.{placed}
use Rattle.chain.specs.Request.{request_named, is_served}
use Rattle.chain.specs.RequestLaws.{by-request}
use Rattle.chain.specs.declared.command.ServedRequest.{ServedRequest}
use Rattle.chain.specs.Next.{Next, Follow}
use Rattle.chain.specs.declared.block.Block.{Block}
use Rattle.invariants.specs.BlockParse.{parse-complete}
use Rattle.invariants.specs.Chained.{Chained, chained-end, chained_more, read-chained}
use Rattle.message.specs.declared.caller.Caller.{Caller}
use Rattle.message.specs.Caller.{caller_of}
use Rattle.message.specs.Refusal.{forms_of}
use Rattle.message.specs.declared.refusal.Refusal.TheVariants.{NotServed, NotSentence}
use Rattle.message.specs.declared.refusal.Forms.{Forms}
use Rattle.message.specs.HeldBy.{HeldBy}
use Rattle.message.specs.Reply.{reply_header, refused_block}
use Rattle.message.specs.Command.{perform}
use Rattle.message.specs.declared.answer.Performed.{Performed}
use Rattle.message.specs.Given.{Answered, Gives, inside, block_of, answer_size}
use Rattle.message.specs.JustOpened.{NOBODY, body_meant}
use Rattle.message.specs.Message.{area_of, data_of, Ran, only_status, run_chain, served, answered, reply_of, Taken, replied}
use Rattle.invariants.specs.Sound.{Good}
use Rattle.invariants.specs.ReplySize.{length-header}
use Rattle.invariants.specs.ReplyRoom.{chain-room}
use Rattle.tables.specs.Words.{in_use_fit}
use Rattle.reply.specs.Links.{link_for}
use Rattle.reply.specs.BlockLaws.{length-of-block}
use Rattle.server.specs.Step.{forms_after, holder_left, goes_on, just_opened}
use Rattle.server.specs.Going.{Going, going_start, going-length, here, turn-fits, turn_end, turn_more, Finished}

-- a chain's first block is there
first-stands : {s : List ℕ} {command at : ℕ} {bs : List Block} → Chained s command at bs → is_whole (parse s command at) ≡ true
unfolding is_whole
first-stands {s} (chained-end {command} {at} h l) = ap is_whole (parse-complete s at h l)
first-stands {s} (chained_more {command} {at} h l r) = ap is_whole (parse-complete s at h l)

-- what is gone on with is what follows
goes-next : (a : Answered) (n : Next) (command at : ℕ) → goes_on a n ≡ Follow command at → n ≡ Follow command at
unfolding goes_on
goes-next (Err why) n command at e = let z : ◌≡◌ {A = ℕ} 0 1 = cc in absurd (omega arith)
goes-next (Ok a) n command at e = e

-- the loop's start
start_of : (c : Caller) (s room : List ℕ) (o : Option (List Block)) → blocks s ≡ o → readable o ≡ true → (t : Tables) (memory : List ℕ) → Good t → length memory ≡ 65536
    → Going c s room (run_chain c s o t memory) (header_command s) FIRST FIRST NOBODY t memory room
unfolding run_chain readable blocks
start_of c s room None e r t memory g m = let z : ◌≡◌ {A = ℕ} 0 1 = cc in absurd (omega arith)
start_of c s room (Some bs) e r t memory g m = going_start c s room t memory (read-chained s (header_command s) FIRST bs e) g m

-- the whole fits the room
pub run_fits : (c : Caller) (s : List ℕ) (t : Tables) (memory : List ℕ) → Good t → length s ≤ 8192 → 32 + length (run_chain c s (blocks s) t memory).blocks ≤ 12292
run_fits c s t memory g small = omega (arith, chain-room c s (blocks s) refl t memory g)

-- ---- the loop over the chain of a message, and the room it has

module _ (c : Caller) (s first : List ℕ) (t₀ : Tables) (memory₀ : List ℕ) where
  abbrev pub whole_run : Ran
  whole_run = run_chain c s (blocks s) t₀ memory₀

  pub record Turn (command at place just : ℕ) (t : Tables) (memory room : List ℕ) : Type 0 where
    pub going : Going c s first whole_run command at place just t memory room
    pub most : 32 + length whole_run.blocks ≤ 12292
    pub enough : 12292 ≤ length first

pub turn-start : (c : Caller) (s room : List ℕ) (t : Tables) (memory : List ℕ) → readable (blocks s) ≡ true → Good t → length memory ≡ 65536 → length s ≤ 8192 → 12292 ≤ length room
    → Turn c s room t memory (header_command s) FIRST FIRST NOBODY t memory room
turn-start c s room t memory r g m small enough =
    record { going = start_of c s room (blocks s) refl r t memory g m; most = run_fits c s t memory g small; enough = enough }

module _ {c : Caller} {s first : List ℕ} {t₀ : Tables} {memory₀ : List ℕ} {command at place just : ℕ} {t : Tables} {memory room : List ℕ}
    (u : Turn c s first t₀ memory₀ command at place just t memory room) where
  -- a chain has a block where it begins
  pub turn-block : is_whole (parse s command at) ≡ true
  turn-block = first-stands u.going.chained

  pub turn-length : length room ≡ length first
  turn-length = going-length u.going (let b = u.most in let d = u.enough in omega arith)

  module _ (b : Block) (e : parse s command at ≡ Whole b) where
    -- the block is the one that is parsed at its own place
    pub turn-parse : parse s b.command b.at ≡ Whole b
    turn-parse = ap (λ (x : ℕ). parse s x b.at) (here u.going b e).named ∙ ap (λ (x : ℕ). parse s command x) (here u.going b e).stands ∙ e

    module _ (p : Performed) (memory' : List ℕ) (g : Gives (perform c t memory (body_meant just b.body) (area_of s b) (data_of s b)) t memory p memory') (size : length memory' ≡ 65536) where
      pub block-fits : place + answer_size p.answer ≤ 12292
      block-fits =
          let a = turn-fits u.going b e p.answer p.tables memory' g.meaning g.tables-left g.memory-left g.within size in
          let d = u.most in
          omega arith

      -- the room with the block written behind the others
      module _ (room' : List ℕ) (laid : room' ≡ put room place (block_of p.answer memory' place (link_for b.next (place + answer_size p.answer)))) where
        room-enough : 32 + length (whole_run c s first t₀ memory₀).blocks ≤ length first
        room-enough = let a = u.most in let d = u.enough in omega arith

        pub turn-ends : goes_on p.answer b.next ≡ End
            → Finished first (whole_run c s first t₀ memory₀) (forms_after p.answer) (holder_left p.answer) (place + answer_size p.answer) p.tables memory' room'
        turn-ends stop = turn_end u.going b e p.answer p.tables memory' g.meaning g.tables-left g.memory-left g.within size room' room-enough laid stop

        pub turn-goes : (command' at' : ℕ) → goes_on p.answer b.next ≡ Follow command' at'
            → Turn c s first t₀ memory₀ command' at' (place + answer_size p.answer) (just_opened p.answer) p.tables memory' room'
        turn-goes command' at' more =
            record {
              going = turn_more u.going b e p.answer p.tables memory' g.meaning g.tables-left g.memory-left g.within size room' room-enough laid command' at' more;
              most = u.most;
              enough = u.enough;
            }

    -- fewer bytes are left at the next block
    pub turn-falls : (a : Answered) (command' at' : ℕ) → goes_on a b.next ≡ Follow command' at' → length s - at' < length s - at
    turn-falls a command' at' more =
        let inside = (placed s at b command e).inside in
        let ahead = (placed s at b command e).ahead command' at' (goes-next a b.next command' at' more) in
        omega arith

-- the words as a turn leaves them
pub record Kept (before after : List ℕ) : Type 0 where
  pub long : length after ≡ 1605
  pub fit : in_use_fit before ≡ true → in_use_fit after ≡ true

-- a block written at the front of the room left stands behind the others
pub block-laid : (room e memory : List ℕ) (place : ℕ) (a : Answered) (link : Next) (n : Next) (size : ℕ) → size ≡ answer_size a → link ≡ link_for n (place + size)
    → e ≡ put (take (length room - place) (drop place room)) 0 (block_of a memory place link) → inside a ≡ true → length memory ≡ 65536 → place + answer_size a ≤ length room
    → take place room ++ (e ++ drop (length room - place) (drop place room)) ≡ put room place (block_of a memory place (link_for n (place + answer_size a)))
block-laid room e memory place a link n size s l h i m fits =
    let k : length (block_of a memory place link) ≡ answer_size a = length-of-block a memory place link i m in
    put-part room (block_of a memory place link) e place (length room) (omega arith) (omega arith) h
    ∙ ap (λ (x : Next). put room place (block_of a memory place x)) (l ∙ ap (λ (x : ℕ). link_for n (place + x)) s)

-- a message refused as a whole
pub refused-finished : (room : List ℕ) (why : Forms) (t : Tables) (memory : List ℕ) → Finished room (only_status why t memory) why Nobody 35 t memory (put room 32 refused_block)
unfolding only_status refused_block
refused-finished room why t memory = record { forms-is = refl; holder-is = refl; tables-are = refl; memory-is = refl; room-is = refl; place_is = refl }

-- the header before the blocks completes the reply
pub finish : (s room : List ℕ) (whole : Ran) (why : Forms) (who : HeldBy) (place : ℕ) (t : Tables) (memory before after : List ℕ) → Finished room whole why who place t memory before
    → after ≡ put before 0 (reply_header s why) → 32 ≤ length s → 32 + length whole.blocks ≤ length room
    → ◌≡◌ {A = Taken} (record { number = 0; length = place; holder = who; tables = t; memory = memory; room = after }) (replied s room whole)
unfolding replied reply_of
finish s room whole why who place t memory before after f e long enough =
    let h : length (reply_header s whole.forms) ≡ 32 = length-header s whole.forms long in
    let n : place ≡ length (reply_header s whole.forms ++ whole.blocks) = f.place_is ∙ rw (length-append, h) in
    let r : after ≡ put room 0 (reply_header s whole.forms ++ whole.blocks) =
    e
    ∙ ap (λ (x : List ℕ). put x 0 (reply_header s why)) f.room-is
    ∙ ap (λ (x : Forms). put (put room 32 whole.blocks) 0 (reply_header s x)) f.forms-is
    ∙ put-before room (reply_header s whole.forms) whole.blocks 32 h enough in
    rw (n, r, f.holder-is, f.tables-are, f.memory-is)

-- ---- the three ways a message fit to be answered is answered

-- the requests served are those that the grammar's table names
pub served-named : (command : ℕ) → is_served (request_named command) ≡ served command
unfolding is_served served
served-named command =
    by-request (λ (request : Option ServedRequest) (n : ℕ). is_served request ≡ served n) command refl refl refl refl refl refl refl refl refl refl refl refl
    (λ u. rw (u.no-locking, u.no_read, u.no_write, u.no-close, u.no-logoff, u.no-tree-disconnect, u.no-process-exit, u.no-core-read, u.no-core-write, u.no-lock-byte-range, u.no-unlock-byte-range, u.no-open))

pub answered-not-served : (connection : ℕ) (s : List ℕ) (t : Tables) (memory : List ℕ) → served (header_command s) ≡ false
    → answered connection s t memory ≡ only_status (forms_of NotServed) t memory
unfolding answered
answered-not-served connection s t memory e = rw e

none_of : (c : Caller) (s : List ℕ) (o : Option (List Block)) (t : Tables) (memory : List ℕ) → readable o ≡ false → run_chain c s o t memory ≡ only_status (forms_of NotSentence) t memory
unfolding run_chain readable
none_of c s None t memory e = refl
none_of c s (Some bs) t memory e = absurd (false≢true (sym e))

pub answered-none : (connection : ℕ) (s : List ℕ) (t : Tables) (memory : List ℕ) → served (header_command s) ≡ true → readable (blocks_from s (header_command s) FIRST) ≡ false
    → answered connection s t memory ≡ only_status (forms_of NotSentence) t memory
unfolding answered blocks
answered-none connection s t memory e j = rw e (none_of (caller_of connection s) s (blocks s) t memory j)

pub answered-run : (connection : ℕ) (s : List ℕ) (t : Tables) (memory : List ℕ) → served (header_command s) ≡ true
    → answered connection s t memory ≡ run_chain (caller_of connection s) s (blocks s) t memory
unfolding answered
answered-run connection s t memory e = rw e

-- the reader's answer that there is a reading
pub readable-here : (s : List ℕ) → readable (blocks_from s (header_command s) FIRST) ≡ true → readable (blocks s) ≡ true
unfolding blocks
readable-here s e = e

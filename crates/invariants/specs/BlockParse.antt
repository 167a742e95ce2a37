-- What the reader of one block answers, by the grammar: the block exactly if it is one of the table with AndX words that fit.
-- Assumes nothing.
use Rattle.std.proofs.Math.Path.{◌≡◌, refl, ap}
use Rattle.std.proofs.Common.{sym, ◌∙◌, arith}
use Rattle.std.specs.Prelude.{◌↔◌, ℕ, ◌-◌, ◌/◌, ◌%◌, ◌≤◌, Bool, cond, ◌&&◌, List, length, None as End, Some as Whole}
use Rattle.std.proofs.Math.Bool.{true, false}
use Rattle.std.proofs.Math.Dec.{leb, eqb}
use borrow.Author.Tests.{eqb-true, leb-true, eq-eqb, le-leb, ne_eqb}
use Rattle.lists.specs.Truth.{both_hold, hold-both, test-cases, choice-cases}
use Rattle.chain.specs.Layout.{CLOSE, PROCESS_EXIT, LOCKING, READ, WRITE, TREE_DISCONNECT, LOGOFF, CORE-READ, CORE-WRITE, LOCK_BYTE_RANGE, UNLOCK_BYTE_RANGE, OPEN, NO_COMMAND, word_count, block_end, andx_command, andx_offset, fid_after_andx, lock_type, unlock_count, lock_count, offset_low, read_max, read_offset_high, data_length, data_offset, write_offset_high, first_fid, open_flags, access_mode, open_mode}
use Rattle.chain.specs.Grammar.{IsBlock, locking-10, locking-20, read-10, read-12, write-12, write-14, close, logoff, tree-disconnect, process-exit, core-read, core-write, lock-byte-range, unlock-byte-range, open-15, MayFollow, locking-read, locking-write, locking-core-read, locking-core-write, read-close, write-write, write_read, write-close, open-read, NamedAndx, locking-andx, read-andx, write-andx, logoff-andx, open-andx, Plain, close-plain, tree-disconnect-plain, process-exit-plain, core-read-plain, core-write-plain, lock-byte-range-plain, unlock-byte-range-plain}
use Rattle.chain.specs.Parse.{may_follow, link_fits, link_at, answer, wide_offset, parse_locking, parse_read, parse_write, parse_open, parse_logoff, parse_bare, core_read_at, core_write_at, parse_core_write, range_fields, parse}
use Rattle.chain.specs.declared.block.Body.{Body}
use Rattle.chain.specs.declared.block.Body.TheVariants.{Locking, Read, Write, Close, Logoff, TreeDisconnect, ProcessExit, LockByteRange, UnlockByteRange, Open}
use Rattle.chain.specs.Next.{Next, Follow, same-place}
use Rattle.chain.specs.declared.block.Block.{Block}
use Rattle.invariants.specs.Follows.{follow-sound, follow-complete}
use Rattle.invariants.specs.BlockTests.{Served, plain, andx, fits, fits-sound, fits-complete}

-- a block's fields by its command
unfoldable pub body_at : List ℕ → ℕ → ℕ → Body
body_at s command at =
    cond (eqb command LOCKING)
    (Locking (record { fid = fid_after_andx s at; kind = lock_type s at; unlocks = unlock_count s at; locks = lock_count s at }))
    (cond (eqb command READ)
    (Read (record { fid = fid_after_andx s at; offset = wide_offset (offset_low s at) (read_offset_high s at) (eqb (word_count s at) 12); max = read_max s at }))
    (cond (eqb command WRITE)
    (Write (record { fid = fid_after_andx s at; offset = wide_offset (offset_low s at) (write_offset_high s at) (eqb (word_count s at) 14); count = data_length s at; from = data_offset s at }))
    (cond (eqb command CLOSE) (Close (first_fid s at))
    (cond (eqb command LOGOFF) Logoff
    (cond (eqb command TREE_DISCONNECT) TreeDisconnect
    (cond (eqb command CORE-READ) (core_read_at s at)
    (cond (eqb command CORE-WRITE) (core_write_at s at)
    (cond (eqb command LOCK_BYTE_RANGE) (LockByteRange (range_fields s at))
    (cond (eqb command UNLOCK_BYTE_RANGE) (UnlockByteRange (range_fields s at))
    (cond (eqb command OPEN)
    (Open (record { full = eqb (open_flags s at % 2) 1; access = access_mode s at % 8; sharing = access_mode s at / 16 % 8; mode = open_mode s at }))
    ProcessExit))))))))))

-- the length of the block at a place
abbrev pub block_size : List ℕ → ℕ → ℕ
block_size s at = block_end s at - at

-- the block at a place, with what follows it
unfoldable pub block_at : List ℕ → ℕ → ℕ → Next → Block
block_at s command at next = record { command = command; at = at; length = block_end s at - at; body = body_at s command at; next = next }

-- the AndX words by the grammar: what may follow a block at a place
pub data Linked (s : List ℕ) (command at : ℕ) : Next → Type 0 where
  link-plain : Plain command → Linked s command at End
  link-end : NamedAndx command → andx_command s at ≡ NO_COMMAND → Linked s command at End
  link-next : MayFollow command (andx_command s at) → block_end s at ≤ andx_offset s at
      → Linked s command at (Follow (andx_command s at) (andx_offset s at))

-- a follower stands behind
pub behind : {s : List ℕ} {command at : ℕ} {nx : Next} (c a : ℕ) → Linked s command at nx → nx ≡ Follow c a → block_end s at ≤ a
behind c a (link-plain p) e = let z : ◌≡◌ {A = ℕ} 0 1 = cc in absurd (omega arith)
behind c a (link-end n f) e = let z : ◌≡◌ {A = ℕ} 0 1 = cc in absurd (omega arith)
behind {s} {command} {at} c a (link-next f g) e = let z : andx_offset s at ≡ a = same-place e in omega arith

-- a block of the table is of a request served
pub block-served : {s : List ℕ} {at command : ℕ} → IsBlock s at command → Served command
block-served (locking-10 p h) = andx locking-andx
block-served (locking-20 p h) = andx locking-andx
block-served (read-10 h) = andx read-andx
block-served (read-12 h) = andx read-andx
block-served (write-12 h) = andx write-andx
block-served (write-14 h) = andx write-andx
block-served (close h) = plain close-plain
block-served (logoff h) = andx logoff-andx
block-served (tree-disconnect h) = plain tree-disconnect-plain
block-served (process-exit h) = plain process-exit-plain
block-served (core-read h) = plain core-read-plain
block-served (core-write h) = plain core-write-plain
block-served (lock-byte-range h) = plain lock-byte-range-plain
block-served (unlock-byte-range h) = plain unlock-byte-range-plain
block-served (open-15 h) = andx open-andx

-- "all inside the message"
pub block_inside : {s : List ℕ} {at command : ℕ} → IsBlock s at command → block_end s at ≤ length s
block_inside (locking-10 p h) = h.shape.inside
block_inside (locking-20 p h) = h.shape.inside
block_inside (read-10 h) = h.shape.inside
block_inside (read-12 h) = h.shape.inside
block_inside (write-12 h) = h.shape.inside
block_inside (write-14 h) = h.shape.inside
block_inside (close h) = h.shape.inside
block_inside (logoff h) = h.shape.inside
block_inside (tree-disconnect h) = h.shape.inside
block_inside (process-exit h) = h.shape.inside
block_inside (core-read h) = h.shape.inside
block_inside (core-write h) = h.shape.inside
block_inside (lock-byte-range h) = h.shape.inside
block_inside (unlock-byte-range h) = h.shape.inside
block_inside (open-15 h) = h.shape.inside

-- only a request named ANDX is followed
pub follow-andx : {command next : ℕ} → MayFollow command next → NamedAndx command
follow-andx locking-read = locking-andx
follow-andx locking-write = locking-andx
follow-andx locking-core-read = locking-andx
follow-andx locking-core-write = locking-andx
follow-andx read-close = read-andx
follow-andx write-write = write-andx
follow-andx write_read = write-andx
follow-andx write-close = write-andx
follow-andx open-read = open-andx

-- 0xFF follows nothing
pub follow-not-end : {command next : ℕ} → MayFollow command next → next ≡ NO_COMMAND → ⊥
follow-not-end locking-read e = omega arith
follow-not-end locking-write e = omega arith
follow-not-end locking-core-read e = omega arith
follow-not-end locking-core-write e = omega arith
follow-not-end read-close e = omega arith
follow-not-end write-write e = omega arith
follow-not-end write_read e = omega arith
follow-not-end write-close e = omega arith
follow-not-end open-read e = omega arith

-- a request is not both named ANDX and not so
plain-andx-at : {a b : ℕ} → Plain a → NamedAndx b → a ≡ b → ⊥
plain-andx-at close-plain locking-andx e = omega arith
plain-andx-at close-plain read-andx e = omega arith
plain-andx-at close-plain write-andx e = omega arith
plain-andx-at close-plain logoff-andx e = omega arith
plain-andx-at close-plain open-andx e = omega arith
plain-andx-at tree-disconnect-plain locking-andx e = omega arith
plain-andx-at tree-disconnect-plain read-andx e = omega arith
plain-andx-at tree-disconnect-plain write-andx e = omega arith
plain-andx-at tree-disconnect-plain logoff-andx e = omega arith
plain-andx-at tree-disconnect-plain open-andx e = omega arith
plain-andx-at process-exit-plain locking-andx e = omega arith
plain-andx-at process-exit-plain read-andx e = omega arith
plain-andx-at process-exit-plain write-andx e = omega arith
plain-andx-at process-exit-plain logoff-andx e = omega arith
plain-andx-at process-exit-plain open-andx e = omega arith
plain-andx-at core-read-plain locking-andx e = omega arith
plain-andx-at core-read-plain read-andx e = omega arith
plain-andx-at core-read-plain write-andx e = omega arith
plain-andx-at core-read-plain logoff-andx e = omega arith
plain-andx-at core-read-plain open-andx e = omega arith
plain-andx-at core-write-plain locking-andx e = omega arith
plain-andx-at core-write-plain read-andx e = omega arith
plain-andx-at core-write-plain write-andx e = omega arith
plain-andx-at core-write-plain logoff-andx e = omega arith
plain-andx-at core-write-plain open-andx e = omega arith
plain-andx-at lock-byte-range-plain locking-andx e = omega arith
plain-andx-at lock-byte-range-plain read-andx e = omega arith
plain-andx-at lock-byte-range-plain write-andx e = omega arith
plain-andx-at lock-byte-range-plain logoff-andx e = omega arith
plain-andx-at lock-byte-range-plain open-andx e = omega arith
plain-andx-at unlock-byte-range-plain locking-andx e = omega arith
plain-andx-at unlock-byte-range-plain read-andx e = omega arith
plain-andx-at unlock-byte-range-plain write-andx e = omega arith
plain-andx-at unlock-byte-range-plain logoff-andx e = omega arith
plain-andx-at unlock-byte-range-plain open-andx e = omega arith

pub plain-not-andx : {command : ℕ} → Plain command → NamedAndx command → ⊥
plain-not-andx p a = plain-andx-at p a refl

-- a WRITE block has its DataOffset
pub write-words : {s : List ℕ} {at command : ℕ} → IsBlock s at command → command ≡ WRITE → 12 ≤ word_count s at
write-words (locking-10 p h) e = absurd (omega arith)
write-words (locking-20 p h) e = absurd (omega arith)
write-words (read-10 h) e = absurd (omega arith)
write-words (read-12 h) e = absurd (omega arith)
write-words (write-12 h) e = omega arith
write-words (write-14 h) e = omega arith
write-words (close h) e = absurd (omega arith)
write-words (logoff h) e = absurd (omega arith)
write-words (tree-disconnect h) e = absurd (omega arith)
write-words (process-exit h) e = absurd (omega arith)
write-words (core-read h) e = absurd (omega arith)
write-words (core-write h) e = absurd (omega arith)
write-words (lock-byte-range h) e = absurd (omega arith)
write-words (unlock-byte-range h) e = absurd (omega arith)
write-words (open-15 h) e = absurd (omega arith)

-- "AndX words begin AndXCommand (1), reserved (1), AndXOffset (2)": a block of a request named ANDX has them
pub andx-words : {s : List ℕ} {at command : ℕ} → IsBlock s at command → NamedAndx command → 2 ≤ word_count s at
andx-words (locking-10 p h) a = omega arith
andx-words (locking-20 p h) a = omega arith
andx-words (read-10 h) a = omega arith
andx-words (read-12 h) a = omega arith
andx-words (write-12 h) a = omega arith
andx-words (write-14 h) a = omega arith
andx-words (close h) a = absurd (plain-not-andx close-plain a)
andx-words (logoff h) a = omega arith
andx-words (tree-disconnect h) a = absurd (plain-not-andx tree-disconnect-plain a)
andx-words (process-exit h) a = absurd (plain-not-andx process-exit-plain a)
andx-words (core-read h) a = absurd (plain-not-andx core-read-plain a)
andx-words (core-write h) a = absurd (plain-not-andx core-write-plain a)
andx-words (lock-byte-range h) a = absurd (plain-not-andx lock-byte-range-plain a)
andx-words (unlock-byte-range h) a = absurd (plain-not-andx unlock-byte-range-plain a)
andx-words (open-15 h) a = omega arith

-- an answer that is a block
answer-whole : (s : List ℕ) (command at : ℕ) (good : Bool) (body : Body) (next : Next) (b : Block) → answer s command at good body next ≡ Whole b
    → (good ≡ true) × (b ≡ record { command = command; at = at; length = block_end s at - at; body = body; next = next })
unfolding answer
answer-whole s command at true body next b e = (refl, cc)
answer-whole s command at false body next b e = let no : ◌≡◌ {A = ℕ} 0 1 = cc in absurd (omega arith)

answer-good : (s : List ℕ) (command at : ℕ) (good : Bool) (body : Body) (next : Next) → good ≡ true
    → answer s command at good body next ≡ Whole (record { command = command; at = at; length = block_end s at - at; body = body; next = next })
unfolding answer
answer-good s command at good body next e = rw e

module _ (s : List ℕ) (at : ℕ) where
  -- the reader's answer for a request named ANDX
  pub parse-andx : {command : ℕ} → NamedAndx command
      → parse s command at ≡ answer s command at (fits s command at && link_fits s command at) (body_at s command at) (link_at s at)
  unfolding parse parse_locking parse_read parse_write parse_logoff parse_open fits body_at
  parse-andx locking-andx = refl
  parse-andx read-andx = refl
  parse-andx write-andx = refl
  parse-andx logoff-andx = refl
  parse-andx open-andx = refl

  -- for one not so named
  pub parse_plain : {command : ℕ} → Plain command → parse s command at ≡ answer s command at (fits s command at) (body_at s command at) End
  unfolding parse parse_bare parse_core_write fits body_at
  parse_plain close-plain = refl
  parse_plain tree-disconnect-plain = refl
  parse_plain process-exit-plain = refl
  parse_plain core-read-plain = refl
  parse_plain core-write-plain = refl
  parse_plain lock-byte-range-plain = refl
  parse_plain unlock-byte-range-plain = refl

  -- only a request served is read
  parse-served : (command : ℕ) (b : Block) → parse s command at ≡ Whole b → Served command
  unfolding parse
  parse-served command b e =
      choice-cases (eqb command LOCKING) _ _ _ e (λ p _. rw (eqb-true command LOCKING p) (andx locking-andx))
      (λ _ e. choice-cases (eqb command READ) _ _ _ e (λ p _. rw (eqb-true command READ p) (andx read-andx))
      (λ _ e. choice-cases (eqb command WRITE) _ _ _ e (λ p _. rw (eqb-true command WRITE p) (andx write-andx))
      (λ _ e. choice-cases (eqb command CLOSE) _ _ _ e (λ p _. rw (eqb-true command CLOSE p) (plain close-plain))
      (λ _ e. choice-cases (eqb command LOGOFF) _ _ _ e (λ p _. rw (eqb-true command LOGOFF p) (andx logoff-andx))
      (λ _ e. choice-cases (eqb command TREE_DISCONNECT) _ _ _ e
      (λ p _. rw (eqb-true command TREE_DISCONNECT p) (plain tree-disconnect-plain))
      (λ _ e. choice-cases (eqb command PROCESS_EXIT) _ _ _ e
      (λ p _. rw (eqb-true command PROCESS_EXIT p) (plain process-exit-plain))
      (λ _ e. choice-cases (eqb command CORE-READ) _ _ _ e (λ p _. rw (eqb-true command CORE-READ p) (plain core-read-plain))
      (λ _ e. choice-cases (eqb command CORE-WRITE) _ _ _ e (λ p _. rw (eqb-true command CORE-WRITE p) (plain core-write-plain))
      (λ _ e. choice-cases (eqb command LOCK_BYTE_RANGE) _ _ _ e
      (λ p _. rw (eqb-true command LOCK_BYTE_RANGE p) (plain lock-byte-range-plain))
      (λ _ e. choice-cases (eqb command UNLOCK_BYTE_RANGE) _ _ _ e
      (λ p _. rw (eqb-true command UNLOCK_BYTE_RANGE p) (plain unlock-byte-range-plain))
      (λ _ e. choice-cases (eqb command OPEN) _ _ _ e (λ p _. rw (eqb-true command OPEN p) (andx open-andx))
      (λ _ e. let no : ◌≡◌ {A = ℕ} 0 1 = cc in absurd (omega arith)))))))))))))

  -- AndX words that pass the test are those of the grammar
  link-sound : {command : ℕ} → NamedAndx command → link_fits s command at ≡ true → Linked s command at (link_at s at)
  unfolding link_fits link_at
  link-sound {command} a e =
      test-cases (eqb (andx_command s at) NO_COMMAND) (λ p. rw p (link-end a (eqb-true (andx_command s at) NO_COMMAND p)))
      (λ p. let rest : (may_follow command (andx_command s at) && leb (block_end s at) (andx_offset s at)) ≡ true = rw p at e in
      let h = both_hold (may_follow command (andx_command s at)) (leb (block_end s at) (andx_offset s at)) rest in
      rw p (link-next (follow-sound command (andx_command s at) h.0) (leb-true (block_end s at) (andx_offset s at) h.1)))

  -- and those of the grammar pass it
  link-complete : {command : ℕ} {next : Next} → NamedAndx command → Linked s command at next → (link_fits s command at ≡ true) × (link_at s at ≡ next)
  unfolding link_fits link_at
  link-complete a (link-plain p) = absurd (plain-not-andx p a)
  link-complete a (link-end _ e) = let p = eq-eqb (andx_command s at) NO_COMMAND e in (rw p, rw p)
  link-complete {command} a (link-next f h) =
      let p : eqb (andx_command s at) NO_COMMAND ≡ false = ne_eqb (andx_command s at) NO_COMMAND (follow-not-end f) in (
        rw p (hold-both (may_follow command (andx_command s at)) (leb (block_end s at) (andx_offset s at)) (follow-complete f)
            (le-leb (block_end s at) (andx_offset s at) h)),
        rw p,
      )

  -- "Otherwise the command must be in the last column and the offset ... at least the end of this block": the test says no more and no less
  pub link-exact : {command : ℕ} → NamedAndx command → (link_fits s command at ≡ true) ↔ Linked s command at (link_at s at)
  link-exact a = (link-sound a, λ l. (link-complete a l).0)

  -- a block that the reader yields: it is one of the table, its AndX words are those of the grammar, and its fields are the bytes'
  pub record Accepted (command : ℕ) (b : Block) : Type 0 where
    pub block : IsBlock s at command
    pub link : Linked s command at b.next
    pub same : b ≡ block_at s command at b.next

  accepted : (command : ℕ) (next : Next) (b : Block) → IsBlock s at command → Linked s command at next → b ≡ block_at s command at next
      → Accepted command b
  unfolding block_at
  accepted command next b h l e =
      let n : b.next ≡ next = ap (λ (x : Block). x.next) e in
      record { block = h; link = rw n l; same = e ∙ ap (block_at s command at) (sym n) }

  parse-sound-by : {command : ℕ} → Served command → (b : Block) → parse s command at ≡ Whole b → Accepted command b
  unfolding block_at
  parse-sound-by {command} (plain p) b e =
      let h = answer-whole s command at (fits s command at) (body_at s command at) End b (sym (parse_plain p) ∙ e) in
      accepted command End b (fits-sound s at (plain p) h.0) (link-plain p) h.1
  parse-sound-by {command} (andx a) b e =
      let h = answer-whole s command at (fits s command at && link_fits s command at) (body_at s command at) (link_at s at) b (sym (parse-andx a) ∙ e) in
      let g = both_hold (fits s command at) (link_fits s command at) h.0 in
      accepted command (link_at s at) b (fits-sound s at (andx a) g.0) (link-sound a g.1) h.1

  -- "A block's reading either yields the block": what it yields is a block by the rules
  pub parse-sound : (command : ℕ) (b : Block) → parse s command at ≡ Whole b → Accepted command b
  parse-sound command b e = parse-sound-by (parse-served command b e) b e

  parse-complete-by : {command : ℕ} {next : Next} → Served command → IsBlock s at command → Linked s command at next
      → parse s command at ≡ Whole (block_at s command at next)
  unfolding block_at
  parse-complete-by {command} (plain p) h (link-plain _) =
      parse_plain p ∙ answer-good s command at (fits s command at) (body_at s command at) End (fits-complete s at h)
  parse-complete-by {command} (plain p) h (link-end a e) = absurd (plain-not-andx p a)
  parse-complete-by {command} (plain p) h (link-next f g) = absurd (plain-not-andx p (follow-andx f))
  parse-complete-by {command} {next} (andx a) h l =
      let g = link-complete a l in
      rw (← g.1)
      (parse-andx a
      ∙ answer-good s command at (fits s command at && link_fits s command at) (body_at s command at) (link_at s at)
      (hold-both (fits s command at) (link_fits s command at) (fits-complete s at h) g.0))

  -- and every block by the rules is yielded
  pub parse-complete : {command : ℕ} {next : Next} → IsBlock s at command → Linked s command at next
      → parse s command at ≡ Whole (block_at s command at next)
  parse-complete h l = parse-complete-by (block-served h) h l

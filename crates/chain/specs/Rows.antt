-- A block by the row of its command: whether it fits the row, whether its words begin with AndX, and what follows it. The reader of one
-- block answers by these alone (`parse-row`), whatever the block's fields are.
-- Assumes nothing.
use Rattle.std.specs.Prelude.{◌≡◌, ℕ, ◌+◌, ◌≤◌, Bool, true, false, cond, ◌&&◌, ◌||◌, List, length, Option, Some, None, None as End, Some as Fits, None as NotFit}
use Rattle.std.proofs.Math.Path.{refl}
use Rattle.std.proofs.Common.{sym, ap, ◌∙◌, arith}
use Rattle.std.proofs.lemmas.Bool.{false≢true}
use Rattle.lists.specs.Truth.{both_hold, either-cases}
use Rattle.chain.specs.Layout.{CLOSE, PROCESS_EXIT, LOCKING, READ, WRITE, TREE_DISCONNECT, LOGOFF, CORE-READ, CORE-WRITE, LOCK_BYTE_RANGE, UNLOCK_BYTE_RANGE, OPEN, word_count, block_end}
use Rattle.chain.specs.Parse.{shaped, bare, locking_fits, read_fits, data_inside, write_fits, core_write_fits, open_fits, link_fits, link_at, answer, parse_locking, parse_read, parse_write, parse_open, parse_logoff, parse_bare, parse_core_write, parse}
use Rattle.chain.specs.ParseLaws.{shaped-words, bare-words, bare-inside, locking-inside, read-inside, write-inside, core-write-inside, open-inside}
use Rattle.chain.specs.Request.{request_named, is_andx}
use Rattle.chain.specs.RequestLaws.{Unserved}
use Rattle.chain.specs.Judged.{is_whole, judged}
use Rattle.chain.specs.declared.block.Body.{Body}
use Rattle.chain.specs.declared.block.Body.TheVariants.{ProcessExit}
use Rattle.chain.specs.Next.{Next, Judged}
use Rattle.chain.specs.declared.command.ServedRequest.{ServedRequest}
use Rattle.chain.specs.declared.command.ServedRequest.TheVariants as named

-- the row's test of the block, without its AndX words
unfoldable pub row_fits : List ℕ → Option ServedRequest → ℕ → Bool
row_fits s (Some named.Locking) at = locking_fits s at
row_fits s (Some named.Read) at = read_fits s at
row_fits s (Some named.Write) at = write_fits s at
row_fits s (Some named.Close) at = bare s at 3
row_fits s (Some named.Logoff) at = bare s at 2
row_fits s (Some named.TreeDisconnect) at = bare s at 0
row_fits s (Some named.ProcessExit) at = bare s at 0
row_fits s (Some named.CoreRead) at = bare s at 5
row_fits s (Some named.CoreWrite) at = core_write_fits s at
row_fits s (Some named.LockByteRange) at = bare s at 5
row_fits s (Some named.UnlockByteRange) at = bare s at 5
row_fits s (Some named.Open) at = open_fits s at
row_fits s None at = false

-- and with them, where it has them
unfoldable pub fits : List ℕ → ℕ → ℕ → Bool
fits s command at =
    cond (is_andx (request_named command)) (row_fits s (request_named command) at && link_fits s command at) (row_fits s (request_named command) at)

unfoldable pub next_at : List ℕ → ℕ → ℕ → Next
next_at s command at = cond (is_andx (request_named command)) (link_at s at) End

-- the AndX words, judged
unfoldable pub link_judged : List ℕ → ℕ → ℕ → Judged
link_judged s command at = cond (link_fits s command at) (Fits (link_at s at)) NotFit

-- the fields that the reader gives the block with that command at a place, should it fit
pub record HasBody (s : List ℕ) (command at : ℕ) (body : Body) : Type 0 where
  pub is : parse s command at ≡ answer s command at (fits s command at) body (next_at s command at)

module _ (s : List ℕ) (at : ℕ) where
  abbrev pub Row : ℕ → Type 0
  Row command = (body : Body) × HasBody s command at body

  pub row-locking : Row LOCKING
  unfolding parse parse_locking fits row_fits is_andx request_named next_at
  row-locking = (_, record { is = refl })

  pub row_read : Row READ
  unfolding parse parse_read fits row_fits is_andx request_named next_at
  row_read = (_, record { is = refl })

  pub row_write : Row WRITE
  unfolding parse parse_write fits row_fits is_andx request_named next_at
  row_write = (_, record { is = refl })

  pub row-close : Row CLOSE
  unfolding parse parse_bare fits row_fits is_andx request_named next_at
  row-close = (_, record { is = refl })

  pub row-logoff : Row LOGOFF
  unfolding parse parse_logoff fits row_fits is_andx request_named next_at
  row-logoff = (_, record { is = refl })

  pub row-tree-disconnect : Row TREE_DISCONNECT
  unfolding parse parse_bare fits row_fits is_andx request_named next_at
  row-tree-disconnect = (_, record { is = refl })

  pub row-process-exit : HasBody s PROCESS_EXIT at ProcessExit
  unfolding parse parse_bare fits row_fits is_andx request_named next_at
  row-process-exit = record { is = refl }

  pub row-core-read : Row CORE-READ
  unfolding parse parse_bare fits row_fits is_andx request_named next_at
  row-core-read = (_, record { is = refl })

  pub row-core-write : Row CORE-WRITE
  unfolding parse parse_core_write fits row_fits is_andx request_named next_at
  row-core-write = (_, record { is = refl })

  pub row-lock-byte-range : Row LOCK_BYTE_RANGE
  unfolding parse parse_bare fits row_fits is_andx request_named next_at
  row-lock-byte-range = (_, record { is = refl })

  pub row-unlock-byte-range : Row UNLOCK_BYTE_RANGE
  unfolding parse parse_bare fits row_fits is_andx request_named next_at
  row-unlock-byte-range = (_, record { is = refl })

  pub row_open : Row OPEN
  unfolding parse parse_open fits row_fits is_andx request_named next_at
  row_open = (_, record { is = refl })

  -- what is no request served has no block, so it may have any fields
  pub row-none : (command : ℕ) → Unserved command → HasBody s command at ProcessExit
  unfolding parse answer fits row_fits is_andx request_named next_at
  row-none command u =
      record {
        is = rw (u.no-locking, u.no_read, u.no_write, u.no-close, u.no-logoff, u.no-tree-disconnect, u.no-process-exit, u.no-core-read, u.no-core-write, u.no-lock-byte-range, u.no-unlock-byte-range, u.no-open);
      }

-- ---- a block judged

-- a block that fits its row stands inside the message
pub row_inside : (s : List ℕ) (request : Option ServedRequest) (at : ℕ) → row_fits s request at ≡ true → block_end s at ≤ length s
unfolding row_fits
row_inside s (Some named.Locking) at e = locking-inside s at e
row_inside s (Some named.Read) at e = read-inside s at e
row_inside s (Some named.Write) at e = write-inside s at e
row_inside s (Some named.Close) at e = bare-inside s at 3 e
row_inside s (Some named.Logoff) at e = bare-inside s at 2 e
row_inside s (Some named.TreeDisconnect) at e = bare-inside s at 0 e
row_inside s (Some named.ProcessExit) at e = bare-inside s at 0 e
row_inside s (Some named.CoreRead) at e = bare-inside s at 5 e
row_inside s (Some named.CoreWrite) at e = core-write-inside s at e
row_inside s (Some named.LockByteRange) at e = bare-inside s at 5 e
row_inside s (Some named.UnlockByteRange) at e = bare-inside s at 5 e
row_inside s (Some named.Open) at e = open-inside s at e
row_inside s None at e = absurd (false≢true e)

-- and has its AndX words, where it has any
row_words : (s : List ℕ) (request : Option ServedRequest) (at : ℕ) → is_andx request ≡ true → row_fits s request at ≡ true → 2 ≤ word_count s at
unfolding is_andx row_fits locking_fits read_fits write_fits open_fits
row_words s (Some named.Locking) at a e = let w : word_count s at ≡ 8 = shaped-words s at 8 (both_hold (shaped s at 8) _ e).0 in omega arith
row_words s (Some named.Read) at a e =
    either-cases (bare s at 10) (bare s at 12) e (λ p. let w : word_count s at ≡ 10 = bare-words s at 10 p in omega arith)
    (λ p. let w : word_count s at ≡ 12 = bare-words s at 12 p in omega arith)
row_words s (Some named.Write) at a e =
    either-cases (shaped s at 12) (shaped s at 14) (both_hold (shaped s at 12 || shaped s at 14) (data_inside s at) e).0
    (λ p. let w : word_count s at ≡ 12 = shaped-words s at 12 p in omega arith) (λ p. let w : word_count s at ≡ 14 = shaped-words s at 14 p in omega arith)
row_words s (Some named.Close) at a e = absurd (false≢true a)
row_words s (Some named.Logoff) at a e = let w : word_count s at ≡ 2 = bare-words s at 2 e in omega arith
row_words s (Some named.TreeDisconnect) at a e = absurd (false≢true a)
row_words s (Some named.ProcessExit) at a e = absurd (false≢true a)
row_words s (Some named.CoreRead) at a e = absurd (false≢true a)
row_words s (Some named.CoreWrite) at a e = absurd (false≢true a)
row_words s (Some named.LockByteRange) at a e = absurd (false≢true a)
row_words s (Some named.UnlockByteRange) at a e = absurd (false≢true a)
row_words s (Some named.Open) at a e = let w : word_count s at ≡ 15 = shaped-words s at 15 (both_hold (shaped s at 15) _ e).0 in omega arith
row_words s None at a e = absurd (false≢true a)

pub andx-inside : (s : List ℕ) (request : Option ServedRequest) (at : ℕ) → is_andx request ≡ true → row_fits s request at ≡ true → at + 5 ≤ length s
andx-inside s request at a e =
    let w : 2 ≤ word_count s at = row_words s request at a e in
    let h : block_end s at ≤ length s = row_inside s request at e in
    omega arith

pub judged-answer : (s : List ℕ) (command at : ℕ) (t : Bool) (body : Body) (next : Next) → judged (answer s command at t body next) ≡ cond t (Fits next) NotFit
unfolding judged answer
judged-answer s command at true body next = refl
judged-answer s command at false body next = refl

module _ (s : List ℕ) (command at : ℕ) where
  pub neither : (t u : Bool) → cond t (false && u) false ≡ false
  neither true u = refl
  neither false u = refl

-- ---- a block taken apart

pub whole-fits : (s : List ℕ) (command at : ℕ) (t : Bool) (body : Body) (next : Next) → is_whole (answer s command at t body next) ≡ true → t ≡ true
unfolding is_whole answer
whole-fits s command at true body next e = refl
whole-fits s command at false body next e = absurd (false≢true e)

-- the fields of a block that stands there
pub taken-apart : (s : List ℕ) (command at : ℕ) (body : Body) → HasBody s command at body → is_whole (parse s command at) ≡ true
    → parse s command at ≡ answer s command at true body (next_at s command at)
taken-apart s command at body h e =
    let t = whole-fits s command at (fits s command at) body (next_at s command at) (sym (ap is_whole h.is) ∙ e) in
    h.is ∙ ap (λ (x : Bool). answer s command at x body (next_at s command at)) t

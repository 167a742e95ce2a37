-- Document 02, CR 6: "for 0xFFFF, and only then, demand 3's separate READ carries the FID returned": the message that a block makes of its own, with that FID, and what it
-- gives. Assumes nothing.
use Rattle.std.specs.Prelude.{◌≡◌, refl, ℕ, ◌+◌, ◌*◌, ◌/◌, ◌%◌, ◌≤◌, ◌<◌, Bool, true, false, cond, ◌&&◌, List, [], ◌∷◌, set, eqb, Some, None as End}
use Rattle.std.proofs.Math.Path.{sym}
use Rattle.std.proofs.Common.{ap, ◌∙◌, arith, length-set}
use Rattle.std.proofs.Math.Bool.{and-false}
use Rattle.std.proofs.Math.ListN.{length}
use Rattle.std.proofs.Math.Seq.{get_or-set_same, get_or-set_other}
use borrow.Author.Tests.{eqb-true, eq-eqb, ne_eqb}
use Rattle.lists.specs.Truth.{both_hold, hold-both, test-cases}
use Rattle.wire.specs.LittleEndian.{byte_at, le16_at, le32_at}
use Rattle.records.specs.declared.Tables.{Tables}
use Rattle.chain.specs.Layout.{READ, NO_COMMAND, header_command, FIRST, word_count, byte_count, block_end, andx_command, fid_after_andx, data_length, data_offset}
use Rattle.chain.specs.Grammar.{Bare, IsBlock, locking-10, locking-20, read-10, read-12, write-12, write-14, close, logoff, tree-disconnect, process-exit, core-read, core-write, lock-byte-range, unlock-byte-range, open-15, NamedAndx, locking-andx, read-andx, write-andx, logoff-andx, open-andx, close-plain, tree-disconnect-plain, process-exit-plain, core-read-plain, core-write-plain, lock-byte-range-plain, unlock-byte-range-plain}
use Rattle.chain.specs.Chain.{blocks}
use Rattle.chain.specs.ChainLaws.{chain-end}
use Rattle.invariants.specs.BlockTests.{Served, plain as plain_served, andx as andx_served}
use Rattle.invariants.specs.BlockParse.{body_at, block_at, block-served, parse-complete}
use Rattle.invariants.specs.JustOpenedLaws.{meant-nobody}
use Rattle.readings.specs.Alone.{alone-link}
use Rattle.readings.specs.MovedBytes.{part, area_at}
use Rattle.message.specs.Caller.{caller_of}
use Rattle.message.specs.declared.caller.Caller.{Caller}
use Rattle.message.specs.Command.{perform}
use Rattle.message.specs.JustOpened.{NOBODY, fid_meant, body_meant}
use Rattle.message.specs.Message.{area_of, data_of, Ran, after_given, run, served, run_chain, answered}

-- a message of one block that is a READ with FID 0xFFFF
unfoldable pub asks_opened : List ℕ → Bool
asks_opened m = eqb (header_command m) READ && eqb (fid_after_andx m FIRST) NOBODY

-- the FID stands at 37 and 38, the lower byte first
unfoldable pub carrying : ℕ → List ℕ → List ℕ
carrying fid m = cond (asks_opened m) (set (set m 37 (fid % 256)) 38 (fid / 256 % 256)) m

-- ---- its bytes

module _ (fid : ℕ) (m : List ℕ) where
  byte-if : (b : Bool) (k : ℕ) → (k ≡ 37 → ⊥) → (k ≡ 38 → ⊥) → byte_at (cond b (set (set m 37 (fid % 256)) 38 (fid / 256 % 256)) m) k ≡ byte_at m k
  byte-if true k p q = get_or-set_other (set m 37 (fid % 256)) 38 k (fid / 256 % 256) 0 q ∙ get_or-set_other m 37 k (fid % 256) 0 p
  byte-if false k p q = refl

  pub carrying-byte : (k : ℕ) → (k ≡ 37 → ⊥) → (k ≡ 38 → ⊥) → byte_at (carrying fid m) k ≡ byte_at m k
  unfolding carrying
  carrying-byte k p q = byte-if (asks_opened m) k p q

  length-if : (b : Bool) → length (cond b (set (set m 37 (fid % 256)) 38 (fid / 256 % 256)) m) ≡ length m
  length-if true = length-set (set m 37 (fid % 256)) 38 (fid / 256 % 256) ∙ length-set m 37 (fid % 256)
  length-if false = refl

  pub length-carrying : length (carrying fid m) ≡ length m
  unfolding carrying
  length-carrying = length-if (asks_opened m)

  -- the header stays
  pub carrying-header : (k : ℕ) → k < 37 → byte_at (carrying fid m) k ≡ byte_at m k
  carrying-header k h = carrying-byte k (λ e. omega arith) (λ e. omega arith)

  carrying-16 : (k : ℕ) → 39 ≤ k → le16_at (carrying fid m) k ≡ le16_at m k
  unfolding le16_at
  carrying-16 k h = rw (carrying-byte k (λ e. omega arith) (λ e. omega arith), carrying-byte (k + 1) (λ e. omega arith) (λ e. omega arith))

  carrying-32 : (k : ℕ) → 39 ≤ k → le32_at (carrying fid m) k ≡ le32_at m k
  unfolding le32_at
  carrying-32 k h = rw (carrying-16 k h, carrying-16 (k + 2) (omega arith))

  pub carrying-caller : (connection : ℕ) → caller_of connection (carrying fid m) ≡ caller_of connection m
  unfolding caller_of le16_at
  carrying-caller connection =
      rw (
        carrying-header 28 (omega arith),
        carrying-header 29 (omega arith),
        carrying-header 24 (omega arith),
        carrying-header 25 (omega arith),
        carrying-header 12 (omega arith),
        carrying-header 13 (omega arith),
        carrying-header 26 (omega arith),
        carrying-header 27 (omega arith),
      )

  -- its words are as many, and it has no bytes
  carried-words : word_count (carrying fid m) FIRST ≡ word_count m FIRST
  carried-words = carrying-header 32 (omega arith)

  carried-count : 10 ≤ word_count m FIRST → byte_count (carrying fid m) FIRST ≡ byte_count m FIRST
  carried-count w = ap (λ (k : ℕ). le16_at (carrying fid m) (FIRST + 1 + 2 * k)) carried-words ∙ carrying-16 (FIRST + 1 + 2 * word_count m FIRST) (omega arith)

  carried-bare : {words : ℕ} → 10 ≤ words → Bare m FIRST words → Bare (carrying fid m) FIRST words
  carried-bare {words} w h =
      let n : word_count m FIRST ≡ words = h.shape.counted in
      let count : byte_count (carrying fid m) FIRST ≡ byte_count m FIRST = carried-count (omega arith) in
      let i : block_end m FIRST ≤ length m = h.shape.inside in
      let l = length-carrying in
      let cw = carried-words in
      record { shape = record { counted = carried-words ∙ n; inside = omega arith }; empty = count ∙ h.empty }

  -- ---- a READ that carries it

  module _ (asks : asks_opened m ≡ true) (small : fid < 65536) (long : 39 ≤ length m) where
    pub carried-fid : fid_after_andx (carrying fid m) FIRST ≡ fid
    unfolding carrying le16_at
    carried-fid =
        let i : 38 < length (set m 37 (fid % 256)) = rw (length-set m 37 (fid % 256)) (omega arith) in
        let high : byte_at (set (set m 37 (fid % 256)) 38 (fid / 256 % 256)) 38 ≡ fid / 256 % 256 = get_or-set_same (set m 37 (fid % 256)) 38 (fid / 256 % 256) 0 i in
        let low : byte_at (set (set m 37 (fid % 256)) 38 (fid / 256 % 256)) 37 ≡ fid % 256 =
        get_or-set_other (set m 37 (fid % 256)) 38 37 (fid / 256 % 256) 0 (λ e. omega arith) ∙ get_or-set_same m 37 (fid % 256) 0 (omega arith) in
        rw (asks, low, high) (omega arith)

    carried-body : body_at (carrying fid m) READ FIRST ≡ body_meant fid (body_at m READ FIRST)
    unfolding body_at body_meant fid_meant asks_opened
    carried-body =
        let test = both-parts in
        rw (test.1, carried-fid, carried-words, carrying-32 (FIRST + 7) (omega arith), carrying-32 (FIRST + 21) (omega arith), carrying-16 (FIRST + 11) (omega arith))
      where
        both-parts : (eqb (header_command m) READ ≡ true) × (eqb (fid_after_andx m FIRST) NOBODY ≡ true)
        both-parts = both_hold (eqb (header_command m) READ) (eqb (fid_after_andx m FIRST) NOBODY) asks

-- a READ of 0xFFFF is one that asks
pub asks-opened : (m : List ℕ) → header_command m ≡ READ → fid_after_andx m FIRST ≡ NOBODY → asks_opened m ≡ true
unfolding asks_opened
asks-opened m e f = hold-both (eqb (header_command m) READ) (eqb (fid_after_andx m FIRST) NOBODY) (eq-eqb (header_command m) READ e) (eq-eqb (fid_after_andx m FIRST) NOBODY f)

-- a READ of another FID carries nothing
pub carrying-named : (fid : ℕ) (m : List ℕ) → (fid_after_andx m FIRST ≡ NOBODY → ⊥) → carrying fid m ≡ m
unfolding carrying asks_opened
carrying-named fid m n = rw (ne_eqb (fid_after_andx m FIRST) NOBODY n, and-false (eqb (header_command m) READ))

-- nor does a message of another request
pub carrying-other : (fid : ℕ) (m : List ℕ) → (header_command m ≡ READ → ⊥) → carrying fid m ≡ m
unfolding carrying asks_opened
carrying-other fid m n = rw (ne_eqb (header_command m) READ n)

-- ---- what a message of one block gives

-- a request of the table is served
pub served-true : {command : ℕ} → Served command → served command ≡ true
unfolding served
served-true (plain_served close-plain) = refl
served-true (plain_served tree-disconnect-plain) = refl
served-true (plain_served process-exit-plain) = refl
served-true (plain_served core-read-plain) = refl
served-true (plain_served core-write-plain) = refl
served-true (plain_served lock-byte-range-plain) = refl
served-true (plain_served unlock-byte-range-plain) = refl
served-true (andx_served locking-andx) = refl
served-true (andx_served read-andx) = refl
served-true (andx_served write-andx) = refl
served-true (andx_served logoff-andx) = refl
served-true (andx_served open-andx) = refl

module _ {command : ℕ} (m : List ℕ) (h : IsBlock m FIRST command) (is : header_command m ≡ command) (ends : NamedAndx command → andx_command m FIRST ≡ NO_COMMAND) where
  -- it is read as that block alone
  pub one_block : blocks m ≡ Some (block_at m command FIRST End ∷ [])
  unfolding blocks block_at
  one_block = rw is (chain-end m command FIRST (block_at m command FIRST End) (parse-complete m FIRST h (alone-link m FIRST (block-served h) ends)) refl)

  pub lone-gives : (connection : ℕ) (t : Tables) (memory : List ℕ)
      → answered connection m t memory
      ≡ after_given (perform (caller_of connection m) t memory (body_meant NOBODY (body_at m command FIRST)) (area_at m FIRST) (part m (data_offset m FIRST) (data_length m FIRST))) [] FIRST t memory
      (λ j p u k. run (caller_of connection m) m j [] p u k)
  unfolding answered run_chain run area_of data_of block_at
  lone-gives connection t memory = rw (is, served-true (block-served h), one_block)

-- a READ that asks for the file just opened is a READ that carries the FID
carried-read : {m : List ℕ} {command : ℕ} (fid : ℕ) → IsBlock m FIRST command → command ≡ READ → IsBlock (carrying fid m) FIRST READ × (10 ≤ word_count m FIRST) × (39 ≤ length m)
carried-read fid (locking-10 p h) e = absurd (omega arith)
carried-read fid (locking-20 p h) e = absurd (omega arith)
carried-read {m} fid (read-10 h) e = (read-10 (carried-bare fid m (omega arith) h), let n = h.shape.counted in omega arith, let i : block_end m FIRST ≤ length m = h.shape.inside in omega arith)
carried-read {m} fid (read-12 h) e = (read-12 (carried-bare fid m (omega arith) h), let n = h.shape.counted in omega arith, let i : block_end m FIRST ≤ length m = h.shape.inside in omega arith)
carried-read fid (write-12 h) e = absurd (omega arith)
carried-read fid (write-14 h) e = absurd (omega arith)
carried-read fid (close h) e = absurd (omega arith)
carried-read fid (logoff h) e = absurd (omega arith)
carried-read fid (tree-disconnect h) e = absurd (omega arith)
carried-read fid (process-exit h) e = absurd (omega arith)
carried-read fid (core-read h) e = absurd (omega arith)
carried-read fid (core-write h) e = absurd (omega arith)
carried-read fid (lock-byte-range h) e = absurd (omega arith)
carried-read fid (unlock-byte-range h) e = absurd (omega arith)
carried-read fid (open-15 h) e = absurd (omega arith)

-- another block means what it says
meant-plainly : {m : List ℕ} {command : ℕ} (fid : ℕ) → IsBlock m FIRST command → header_command m ≡ command → asks_opened m ≡ false
    → body_meant NOBODY (body_at m command FIRST) ≡ body_meant fid (body_at m command FIRST)
unfolding body_meant body_at fid_meant asks_opened
meant-plainly fid (locking-10 p h) is e = refl
meant-plainly fid (locking-20 p h) is e = refl
meant-plainly {m} fid (read-10 h) is e = let f : eqb (fid_after_andx m FIRST) NOBODY ≡ false = rw is at e in rw f
meant-plainly {m} fid (read-12 h) is e = let f : eqb (fid_after_andx m FIRST) NOBODY ≡ false = rw is at e in rw f
meant-plainly fid (write-12 h) is e = refl
meant-plainly fid (write-14 h) is e = refl
meant-plainly fid (close h) is e = refl
meant-plainly fid (logoff h) is e = refl
meant-plainly fid (tree-disconnect h) is e = refl
meant-plainly fid (process-exit h) is e = refl
meant-plainly fid (core-read h) is e = refl
meant-plainly fid (core-write h) is e = refl
meant-plainly fid (lock-byte-range h) is e = refl
meant-plainly fid (unlock-byte-range h) is e = refl
meant-plainly fid (open-15 h) is e = refl

-- what a READ does depends on its fields alone
read-alone : (c : Caller) (t : Tables) (memory : List ℕ) (m : List ℕ) (fid : ℕ) (a b x y : List ℕ)
    → perform c t memory (body_meant fid (body_at m READ FIRST)) a b ≡ perform c t memory (body_meant fid (body_at m READ FIRST)) x y
unfolding perform body_meant body_at
read-alone c t memory m fid a b x y = refl

module _ {command : ℕ} (m : List ℕ) (h : IsBlock m FIRST command) (is : header_command m ≡ command) (ends : NamedAndx command → andx_command m FIRST ≡ NO_COMMAND)
    (fid : ℕ) (small : fid < 65536) where
  -- what the block does, with the FID that is meant
  abbrev gives : ℕ → Tables → List ℕ → List ℕ → Ran
  gives connection t memory message =
      after_given (perform (caller_of connection m) t memory (body_meant fid (body_at m command FIRST)) (area_at m FIRST) (part m (data_offset m FIRST) (data_length m FIRST))) [] FIRST t memory
      (λ j p u k. run (caller_of connection m) message j [] p u k)

  carried-as-is : (connection : ℕ) (t : Tables) (memory : List ℕ) → asks_opened m ≡ false → answered connection (carrying fid m) t memory ≡ gives connection t memory (carrying fid m)
  unfolding carrying
  carried-as-is connection t memory e = rw e (lone-gives m h is ends connection t memory ∙ rw (meant-plainly fid h is e))

  carried-changed : (connection : ℕ) (t : Tables) (memory : List ℕ) → asks_opened m ≡ true → answered connection (carrying fid m) t memory ≡ gives connection t memory (carrying fid m)
  unfolding asks_opened
  carried-changed connection t memory e =
      let read : header_command m ≡ READ = eqb-true (header_command m) READ (both_hold (eqb (header_command m) READ) (eqb (fid_after_andx m FIRST) NOBODY) e).0 in
      let r : command ≡ READ = sym is ∙ read in
      let b = carried-read fid h r in
      let is' : header_command (carrying fid m) ≡ READ = carrying-header fid m 4 (omega arith) ∙ read in
      let ends' : NamedAndx READ → andx_command (carrying fid m) FIRST ≡ NO_COMMAND = λ a. carrying-header fid m 33 (omega arith) ∙ ends (rw r a) in
      let body : body_at (carrying fid m) READ FIRST ≡ body_meant fid (body_at m READ FIRST) = carried-body fid m e small b.2 in
      lone-gives (carrying fid m) b.0 is' ends' connection t memory
      ∙ rw (
        meant-nobody (body_at (carrying fid m) READ FIRST),
        body,
        carrying-caller fid m connection,
        read-alone (caller_of connection m) t memory m fid (area_at (carrying fid m) FIRST) (part (carrying fid m) (data_offset (carrying fid m) FIRST) (data_length (carrying fid m) FIRST)) (area_at m FIRST)
            (part m (data_offset m FIRST) (data_length m FIRST)),
        r,
      )

  pub carried_gives : (connection : ℕ) (t : Tables) (memory : List ℕ) → answered connection (carrying fid m) t memory ≡ gives connection t memory (carrying fid m)
  carried_gives connection t memory = test-cases (asks_opened m) (carried-changed connection t memory) (carried-as-is connection t memory)

  -- it is read as one block, as long as the other
  changed_block : asks_opened m ≡ true → (blocks (carrying fid m) ≡ Some (block_at (carrying fid m) command FIRST End ∷ [])) × (block_end (carrying fid m) FIRST ≡ block_end m FIRST)
  unfolding asks_opened
  changed_block e =
      let read : header_command m ≡ READ = eqb-true (header_command m) READ (both_hold (eqb (header_command m) READ) (eqb (fid_after_andx m FIRST) NOBODY) e).0 in
      let r : command ≡ READ = sym is ∙ read in
      let b = carried-read fid h r in
      let is' : header_command (carrying fid m) ≡ READ = carrying-header fid m 4 (omega arith) ∙ read in
      let ends' : NamedAndx READ → andx_command (carrying fid m) FIRST ≡ NO_COMMAND = λ a. carrying-header fid m 33 (omega arith) ∙ ends (rw r a) in
      let count = carried-count fid m b.1 in
      let words = carried-words fid m in
      (rw r (one_block (carrying fid m) b.0 is' ends'), omega arith)

  same_block : asks_opened m ≡ false → (blocks (carrying fid m) ≡ Some (block_at (carrying fid m) command FIRST End ∷ [])) × (block_end (carrying fid m) FIRST ≡ block_end m FIRST)
  unfolding carrying
  same_block e = rw e (one_block m h is ends, refl)

  pub carried-block : (blocks (carrying fid m) ≡ Some (block_at (carrying fid m) command FIRST End ∷ [])) × (block_end (carrying fid m) FIRST ≡ block_end m FIRST)
  carried-block = test-cases (asks_opened m) changed_block same_block

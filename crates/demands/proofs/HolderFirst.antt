-- Of specs/HolderFirst.antt: what rests on its other theorems. Assumes nothing.
use Rattle.std.specs.Prelude.{◌≡◌, ◌↔◌, ℕ, ◌%◌, false, List, [], ◌∷◌, Some, Some as held_by}
use Rattle.std.proofs.Common.{sym, ◌∙◌, arith}
use Rattle.std.proofs.Math.Path.{ap}
use Rattle.std.proofs.Math.Logic.Iff
use Rattle.records.specs.declared.Open.{Open}
use Rattle.records.specs.declared.Tables.{Tables}
use Rattle.records.specs.Held.{locks_of}
use Rattle.locks.specs.declared.types.Holder.{Holder}
use Rattle.chain.specs.Layout.{LOCKING, READ, WRITE, CORE-READ, CORE-WRITE, LOCK_BYTE_RANGE, header_command, FIRST, fid_after_andx, lock_type, unlock_count, lock_count, read_max, data_length, first_fid, core_count, core_offset, range_length, range_offset}
use Rattle.chain.specs.Grammar.{Span, Reading}
use Rattle.chain.specs.Parse.{wide_offset, range_fields}
use Rattle.chain.specs.Chain.{blocks}
use Rattle.chain.specs.declared.block.Block.{Block}
use Rattle.invariants.specs.BlockParse.{body_at}
use Rattle.invariants.specs.Chained.{read-chained}
use Rattle.invariants.specs.Fit.{Fit}
use Rattle.message.specs.Caller.{caller_of}
use Rattle.message.specs.Refusal.{status, holder_of}
use Rattle.message.specs.declared.refusal.Status.{Status}
use Rattle.message.specs.declared.refusal.Refusal.TheVariants.{}
use Rattle.message.specs.JustOpened.{NOBODY}
use Rattle.message.specs.Message.{area_of, data_of, Ran}
use Rattle.invariants.specs.JustOpenedLaws.{meant-nobody}
use Rattle.demands.specs.Calls.{sentence-answered}
use Rattle.demands.proofs.MessageReasons.{done-exact}
use Rattle.demands.specs.LoneLock.{held-refused, Conflicts, Owner, lower_size, sizes_apart, AnyLock}
use Rattle.demands.specs.LoneCall.{WithinRange, locking_fields, locking_area}
use Rattle.demands.proofs.LoneCall.{first-conflict, alone-conflict}
use Rattle.demands.specs.Admitted.{Admitted}
use Rattle.demands.specs.CommandReasons.{OnlyTwoBits}
use Rattle.demands.specs.RefusedCall.{step-refused, Untouched}
use Rattle.demands.proofs.RefusedCall.{short-refusal}
use Rattle.demands.specs.ChainReasons.{chained-announced}
use Rattle.demands.specs.WireFields.{sender_process, read_from, write_from, core_write_fields, reading-first, one-first, first_body, first-area}
use Rattle.demands.specs.HolderExactly.{call, holder-answered}
use Rattle.demands.proofs.HolderExactlyStated.{holder-exactly}
use Rattle.demands.specs.HolderWords.{FirstInWay, CommandHeld}
use Rattle.demands.proofs.HolderLone.{through-exact, lone-first, first-lone, some_written, size-set, range-through}
use Rattle.demands.specs.HolderLone.{LoneHeld}
use Rattle.demands.specs.HolderCommand.{Names}
use Rattle.demands.proofs.HolderCommand.{perform-held}
use Rattle.demands.specs.HolderFirst.{FirstMeets, all_first, given}

module _ (connection : ℕ) (s : List ℕ) (t : Tables) (memory room : List ℕ) (fit : Fit s t memory room) (h : Holder) where
  module _ (b : Block) (bs : List Block) (e : blocks s ≡ Some (b ∷ bs)) where
    pub named-given : (g : Holder) → Names (given connection s t memory room fit h b bs e) g → (call connection s t memory room).holder ≡ held_by g
    unfolding holder_of
    named-given g n =
        let w = held-refused (given connection s t memory room fit h b bs e) g n in
        holder-answered connection s t memory room fit
        ∙ ap (λ (r : Ran). r.holder) (sentence-answered connection s t memory (b ∷ bs) e
        ∙ step-refused (caller_of connection s) s NOBODY b bs FIRST t memory w.0 (rw (meant-nobody b.body) w.1))
        ∙ w.2

    pub conflict-names : Conflicts (given connection s t memory room fit h b bs e) → (call connection s t memory room).holder ≡ held_by h → Names (given connection s t memory room fit h b bs e) h
    conflict-names w n =
        let two : held_by w.0 ≡ held_by h = sym (named-given w.0 w.1) ∙ n in
        let same : w.0 ≡ h = cc in
        w.1 ∙ ap held_by same

    pub held-given : Names (given connection s t memory room fit h b bs e) h ↔ CommandHeld (caller_of connection s) t (area_of s b) b.body h
    unfolding blocks
    held-given =
        perform-held (caller_of connection s) t memory fit.tables-sound b.body (area_of s b) (data_of s b)
        (all_first (chained-announced (read-chained s (header_command s) FIRST (b ∷ bs) e))) h

    -- so the holder is the lock in the first command's way, whatever commands follow
    pub first-held : FirstMeets (call connection s t memory room) h ↔ CommandHeld (caller_of connection s) t (area_of s b) b.body h
    first-held = (
      λ n. let said = (holder-exactly connection s t memory room ((done-exact connection s t memory room).1 fit)).0 (h, n.0) in
          held-given.0 (conflict-names ((first-conflict connection s b bs e t memory room fit).0 (said, n.1)) n.0),
      λ r. let n = held-given.1 r in (named-given h n, ((first-conflict connection s b bs e t memory room fit).1 (h, n)).1),
    )

  -- and where it is the only one, the reply is no other
  pub alone-held : (b : Block) → blocks s ≡ Some (b ∷ []) → ((call connection s t memory room).holder ≡ held_by h) ↔ CommandHeld (caller_of connection s) t (area_of s b) b.body h
  alone-held b e = (
    λ n. let said = (holder-exactly connection s t memory room ((done-exact connection s t memory room).1 fit)).0 (h, n) in
        (held-given b [] e).0 (conflict-names b [] e ((alone-conflict connection s b e t memory room fit).0 said) n),
    λ r. named-given b [] e h ((held-given b [] e).1 r),
  )

  pub alone-first : {span : Span} → Reading s (span ∷ []) → (call connection s t memory room).holder ≡ held_by h → FirstMeets (call connection s t memory room) h
  alone-first r n = let q = one-first r in (first-held q.block [] q.is_read).1 ((alone-held q.block q.is_read).0 n)

  -- "A command refused changes no table and no file byte, its own unlocks included"; its locks granted are undone
  pub first-undone : FirstMeets (call connection s t memory room) h → Untouched t memory (call connection s t memory room)
  unfolding status
  first-undone n =
      let said = (holder-exactly connection s t memory room ((done-exact connection s t memory room).1 fit)).0 (h, n.0) in
      short-refusal connection s t memory room fit (λ z. let k : 33 ≡ 0 = ap (λ (x : Status). x.code) (sym said ∙ z) in omega arith) n.1

-- by the fields of the header's command
pub first_by : (connection : ℕ) (s : List ℕ) {spans : List Span} → Reading s spans → (t : Tables) (memory room : List ℕ) → Fit s t memory room → (h : Holder) (command : ℕ)
    → header_command s ≡ command → FirstMeets (call connection s t memory room) h ↔ CommandHeld (caller_of connection s) t (locking_area s) (body_at s command FIRST) h
first_by connection s r t memory room fit h command e =
    let q = reading-first r in
    rw (first-area q.1, first_body q.1 command e) at (first-held connection s t memory room fit h q.1.block q.0 q.1.is_read)

module _ (connection : ℕ) (s : List ℕ) {spans : List Span} (r : Reading s spans) (t : Tables) (memory room : List ℕ) (fit : Fit s t memory room) (h : Holder) (o : Open)
    (valid : Admitted (caller_of connection s) t (fid_after_andx s FIRST) o) where
  -- where READ is the first command, on an open that may be read: the first "exclusive lock of another owner" that "overlaps offset and max"
  pub read_first : header_command s ≡ READ → (o.access ≡ 1 → ⊥)
      → FirstMeets (call connection s t memory room) h
      ↔ FirstInWay t o (locks_of t) (read_from s) (read_max s FIRST) (λ l. (l.shared ≡ false) × (Owner (fid_after_andx s FIRST) (sender_process s) l → ⊥)) h
  unfolding body_at wide_offset caller_of CommandHeld
  read_first e may = Iff.trans (first_by connection s r t memory room fit h READ e) (through-exact fit.tables-sound valid may)

  -- where WRITE is, on an open that may be written: the first of any that overlap it "save the writer's own exclusive ones"
  pub write-first : header_command s ≡ WRITE → (o.access ≡ 0 → ⊥)
      → FirstMeets (call connection s t memory room) h
      ↔ FirstInWay t o (locks_of t) (write_from s) (data_length s FIRST) (λ l. (l.shared ≡ false) × Owner (fid_after_andx s FIRST) (sender_process s) l → ⊥) h
  unfolding body_at wide_offset caller_of CommandHeld
  write-first e may = Iff.trans (first_by connection s r t memory room fit h WRITE e) (through-exact fit.tables-sound valid may)

  -- "A lock alone in its request, of a served type, on a valid open and within range": the first "listed lock of that file" that "overlaps it and the two aren't both
  -- shared"
  pub lone-lock-first : header_command s ≡ LOCKING → unlock_count s FIRST ≡ 0 → lock_count s FIRST ≡ 1 → OnlyTwoBits (lock_type s FIRST)
      → WithinRange (locking_fields s) (locking_area s) → FirstMeets (call connection s t memory room) h ↔ LoneHeld t o (locking_fields s) (locking_area s) h
  unfolding body_at CommandHeld
  lone-lock-first e none_out one bits low =
      let ok = fit.tables-sound in
      Iff.trans (first_by connection s r t memory room fit h LOCKING e)
      (lone-first ok (locking_fields s) (locking_area s) valid none_out one, first-lone ok (locking_fields s) (locking_area s) valid none_out one bits low)

module _ (connection : ℕ) (s : List ℕ) {spans : List Span} (r : Reading s spans) (t : Tables) (memory room : List ℕ) (fit : Fit s t memory room) (h : Holder) (o : Open)
    (valid : Admitted (caller_of connection s) t (first_fid s FIRST) o) where
  pub by-command : (command : ℕ) → header_command s ≡ command → FirstMeets (call connection s t memory room) h ↔ CommandHeld (caller_of connection s) t (locking_area s) (body_at s command FIRST) h
  by-command = first_by connection s r t memory room fit h

  -- a core READ, on an open that may be read: the first "exclusive lock of another owner" that "overlaps offset and max"
  pub core-read-first : header_command s ≡ CORE-READ → (o.access ≡ 1 → ⊥)
      → FirstMeets (call connection s t memory room) h
      ↔ FirstInWay t o (locks_of t) (core_offset s FIRST) (core_count s FIRST) (λ l. (l.shared ≡ false) × (Owner (first_fid s FIRST) (sender_process s) l → ⊥)) h
  unfolding body_at caller_of CommandHeld
  core-read-first e may = Iff.trans (by-command CORE-READ e) (through-exact fit.tables-sound valid may)

  -- a core WRITE of some bytes, on an open that may be written: the first of any that overlap it "save the writer's own exclusive ones"
  pub core-write-first : header_command s ≡ CORE-WRITE → (core_count s FIRST ≡ 0 → ⊥) → (o.access ≡ 0 → ⊥)
      → FirstMeets (call connection s t memory room) h
      ↔ FirstInWay t o (locks_of t) (core_offset s FIRST) (core_count s FIRST) (λ l. (l.shared ≡ false) × Owner (first_fid s FIRST) (sender_process s) l → ⊥) h
  unfolding body_at caller_of CommandHeld
  core-write-first e more may = Iff.trans (by-command CORE-WRITE e) (some_written fit.tables-sound (core_write_fields s) valid may more)

  -- one of count 0: the first of these that overlaps the bytes between the file's size and the offset
  pub set-size-first : header_command s ≡ CORE-WRITE → core_count s FIRST ≡ 0 → (o.access ≡ 0 → ⊥)
      → FirstMeets (call connection s t memory room) h
      ↔ FirstInWay t o (locks_of t) (lower_size t (core_offset s FIRST) o) (sizes_apart t (core_offset s FIRST) o)
      (λ l. (l.shared ≡ false) × Owner (first_fid s FIRST) (sender_process s) l → ⊥) h
  unfolding body_at caller_of CommandHeld
  set-size-first e none may = Iff.trans (by-command CORE-WRITE e) (size-set fit.tables-sound (core_write_fields s) valid may none)

  -- a LOCK_BYTE_RANGE: the first "listed lock of that file" that "overlaps it"
  pub core-lock-first : header_command s ≡ LOCK_BYTE_RANGE
      → FirstMeets (call connection s t memory room) h ↔ FirstInWay t o (locks_of t) (range_offset s FIRST % 4294967296) (range_length s FIRST % 4294967296) AnyLock h
  unfolding body_at CommandHeld
  core-lock-first e = Iff.trans (by-command LOCK_BYTE_RANGE e) (range-through fit.tables-sound (range_fields s FIRST) valid)

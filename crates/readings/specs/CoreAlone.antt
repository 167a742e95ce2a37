-- Where the core commands stand (document 02, CR 3): "Each stands alone in a message, save that READ and WRITE may end a chain after LOCKING_ANDX." It is said
-- of readings, so by the grammar. That MayFollow has nine pairs and no other: literals/specs/Successions.antt. Assumes nothing.
use Rattle.std.specs.Prelude.{◌≡◌, refl, ◌↔◌, ℕ, ◌≤◌}
use Rattle.std.proofs.Common.{sym, ap, ◌∙◌, arith}
use mathlib.Core.List.Memᴰ.{head as first}
use mathlib.Core.List.Memᴰ.{tail as later}
use mathlib.Core.List.{List, [], ◌∷◌, Memᴰ as In}
use Rattle.chain.specs.Layout.{LOCKING, CORE-READ, CORE-WRITE, LOCK_BYTE_RANGE, UNLOCK_BYTE_RANGE, header_command, FIRST, block_end, andx_command, andx_offset}
use Rattle.chain.specs.Grammar.{IsBlock, MayFollow, locking-read, locking-write, locking-core-read, locking-core-write, read-close, write-write, write_read, write-close, open-read, Plain, core-read-plain, core-write-plain, lock-byte-range-plain, unlock-byte-range-plain, Span, span_at, ReadingFrom, plain_end, andx-end, andx-next, Reading}
use Rattle.invariants.specs.BlockParse.{follow-andx, plain-not-andx}

-- "READ 0x0A, WRITE 0x0B, LOCK_BYTE_RANGE 0x0C and UNLOCK_BYTE_RANGE 0x0D": those that may end a chain, and all four
pub data EndsChain : ℕ → Type 0 where
  ends_read : EndsChain CORE-READ
  ends-write : EndsChain CORE-WRITE

pub data Core : ℕ → Type 0 where
  may-end : {command : ℕ} → EndsChain command → Core command
  core-lock : Core LOCK_BYTE_RANGE
  core-unlock : Core UNLOCK_BYTE_RANGE

-- how one stands in a list of blocks: it is the only one, or it is the second of two and the first is a LOCKING
pub data CoreStands (x : Span) : List Span → Type 0 where
  alone : CoreStands x (x ∷ [])
  behind-locking : {y : Span} → y.command ≡ LOCKING → EndsChain x.command → CoreStands x (y ∷ x ∷ [])

-- ---- by the follow table

core-plain : {command : ℕ} → Core command → Plain command
core-plain (may-end ends_read) = core-read-plain
core-plain (may-end ends-write) = core-write-plain
core-plain core-lock = lock-byte-range-plain
core-plain core-unlock = unlock-byte-range-plain

-- no command follows a core command
pub core-last : {command next : ℕ} → Core command → MayFollow command next → ⊥
core-last c m = plain-not-andx (core-plain c) (follow-andx m)

not-core : {n : ℕ} → Core n → (n ≡ 0x04 → ⊥) × (n ≡ 0x2E → ⊥) × (n ≡ 0x2F → ⊥)
not-core (may-end ends_read) = (λ e. omega arith, λ e. omega arith, λ e. omega arith)
not-core (may-end ends-write) = (λ e. omega arith, λ e. omega arith, λ e. omega arith)
not-core core-lock = (λ e. omega arith, λ e. omega arith, λ e. omega arith)
not-core core-unlock = (λ e. omega arith, λ e. omega arith, λ e. omega arith)

core-behind : {command next : ℕ} → MayFollow command next → Core next → (command ≡ LOCKING) × EndsChain next
core-behind locking-read c = absurd ((not-core c).1 refl)
core-behind locking-write c = absurd ((not-core c).2 refl)
core-behind locking-core-read c = (refl, ends_read)
core-behind locking-core-write c = (refl, ends-write)
core-behind read-close c = absurd ((not-core c).0 refl)
core-behind write-write c = absurd ((not-core c).2 refl)
core-behind write_read c = absurd ((not-core c).1 refl)
core-behind write-close c = absurd ((not-core c).0 refl)
core-behind open-read c = absurd ((not-core c).1 refl)

behind-core : {next : ℕ} → EndsChain next → MayFollow LOCKING next
behind-core ends_read = locking-core-read
behind-core ends-write = locking-core-write

-- a core command follows a command exactly if that is LOCKING and it is READ or WRITE: "LOCK and UNLOCK never follow"
pub core-follows : (command next : ℕ) → Core next → MayFollow command next ↔ ((command ≡ LOCKING) × EndsChain next)
core-follows command next c = (λ m. core-behind m c, λ h. rw h.0 (behind-core h.1))

-- no command is followed by LOCKING
locking-first : {command next : ℕ} → MayFollow command next → next ≡ LOCKING → ⊥
locking-first locking-read e = omega arith
locking-first locking-write e = omega arith
locking-first locking-core-read e = omega arith
locking-first locking-core-write e = omega arith
locking-first read-close e = omega arith
locking-first write-write e = omega arith
locking-first write_read e = omega arith
locking-first write-close e = omega arith
locking-first open-read e = omega arith

-- ---- of readings

-- the first block has the command that was asked for
first-command : {s : List ℕ} {command at : ℕ} {x : Span} {l spans : List Span} → ReadingFrom s command at spans → spans ≡ x ∷ l → x.command ≡ command
unfolding span_at
first-command {s} {command} {at} {x} (plain_end h p) e = let q : x ≡ span_at s command at = cc in ap (λ (y : Span). y.command) q
first-command {s} {command} {at} {x} (andx-end h a f) e = let q : x ≡ span_at s command at = cc in ap (λ (y : Span). y.command) q
first-command {s} {command} {at} {x} (andx-next h m g r) e = let q : x ≡ span_at s command at = cc in ap (λ (y : Span). y.command) q

-- the only block
pub in_one : {x y : Span} → In x (y ∷ []) → CoreStands x (y ∷ [])
in_one (first e) = rw e alone
in_one {y = y} (later x5) = elim x5 [ ]

-- a block in front of a reading in which a core command stands
pub in-front : {s : List ℕ} {command c at : ℕ} {x y : Span} {spans : List Span} → MayFollow command c → y.command ≡ command → ReadingFrom s c at spans → Core x.command
    → CoreStands x spans → CoreStands x (y ∷ spans)
in-front m e r core alone =
    let f = first-command r refl in
    let g = core-behind m (rw f at core) in
    behind-locking (e ∙ g.0) (rw f g.1)
in-front m e r core (behind-locking is-locking ends) = absurd (locking-first m (sym (first-command r refl) ∙ is-locking))

-- both happen: a core command's block at 32 is a reading
pub core-alone : {s : List ℕ} {command : ℕ} → Core command → header_command s ≡ command → IsBlock s FIRST command → Reading s (span_at s command FIRST ∷ [])
core-alone core e h = rw e (plain_end h (core-plain core))

-- and so is a LOCKING at 32 with a READ or a WRITE where its AndX words say, at or behind its end
pub core-ends : {s : List ℕ} {command : ℕ} → EndsChain command → header_command s ≡ LOCKING → IsBlock s FIRST LOCKING → andx_command s FIRST ≡ command
    → block_end s FIRST ≤ andx_offset s FIRST → IsBlock s (andx_offset s FIRST) command
    → Reading s (span_at s LOCKING FIRST ∷ span_at s command (andx_offset s FIRST) ∷ [])
core-ends {s} ends e locking is from h =
    let b : IsBlock s (andx_offset s FIRST) (andx_command s FIRST) = rw is h in
    let p : Plain (andx_command s FIRST) = rw is (core-plain (may-end ends)) in
    rw (e, ← is) (andx-next locking (rw is (behind-core ends)) from (plain_end b p))

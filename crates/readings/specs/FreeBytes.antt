-- "Bytes between or after blocks are free": a reading depends on the bytes of its blocks alone, and of these on those that are looked at.
-- Assumes nothing.
use Rattle.std.specs.Prelude.{◌≡◌, ℕ, ◌+◌, ◌-◌, ◌≤◌, ◌<◌, length}
use Rattle.std.proofs.Math.Path.{refl}
use Rattle.std.proofs.Common.{arith}
use mathlib.Core.List.{List, Memᴰ as In}
use Rattle.wire.specs.LittleEndian.{byte_at}
use Rattle.chain.specs.Grammar.{IsBlock, Span, span_at}
use Rattle.chain.specs.declared.block.Body.{Body}
use Rattle.chain.specs.declared.block.Body.TheVariants.{Locking, Read, Write, Close, Logoff, TreeDisconnect, ProcessExit, CoreRead, CoreWrite, LockByteRange, UnlockByteRange, Open}
use Rattle.invariants.specs.BlockParse.{block_size}
use Rattle.readings.specs.Unread.{Unread}
use Rattle.readings.specs.Moved.{moved_body}

-- a block of s stands unchanged at the same place in t
pub record Stands (s t : List ℕ) (x : Span) : Type 0 where
  pub same : (k : ℕ) → x.place ≤ k → k < x.place + x.size → byte_at t k ≡ byte_at s k
  pub inside : x.place + x.size ≤ length t

-- a block of s stands at the same place in t, but for bytes that are not looked at
pub record Alike (s t : List ℕ) (x : Span) : Type 0 where
  pub same : (k : ℕ) → k < x.size → (Unread s x.place x.command k → ⊥) → byte_at t (x.place + k) ≡ byte_at s (x.place + k)
  pub inside : x.place + x.size ≤ length t

-- one that stands unchanged does so
pub stands_alike : {s t : List ℕ} {x : Span} → Stands s t x → Alike s t x
stands_alike {x = x} stands =
    record { same = λ k l _. stands.same (x.place + k) (omega arith) (omega arith); inside = stands.inside }

-- a block that moved nowhere has the same fields
pub moved_nowhere : (at : ℕ) (b : Body) → moved_body at at b ≡ b
unfolding moved_body
moved_nowhere at (Locking f) = refl
moved_nowhere at (Read f) = refl
moved_nowhere at (Write f) = let e : f.from + at - at ≡ f.from = omega arith in rw e
moved_nowhere at (Close fid) = refl
moved_nowhere at Logoff = refl
moved_nowhere at TreeDisconnect = refl
moved_nowhere at ProcessExit = refl
moved_nowhere at (CoreRead f) = refl
moved_nowhere at (CoreWrite f) = let e : f.from + at - at ≡ f.from = omega arith in rw e
moved_nowhere at (LockByteRange f) = refl
moved_nowhere at (UnlockByteRange f) = refl
moved_nowhere at (Open f) = refl

module _ {s t : List ℕ} {command at : ℕ} (h : IsBlock s at command) (alike : Alike s t (span_at s command at)) where
  -- its bytes that are looked at
  pub byte-same : (k : ℕ) → k < block_size s at → (Unread s at command k → ⊥) → byte_at t (at + k) ≡ byte_at s (at + k)
  unfolding span_at
  byte-same k l n = alike.same k l n

-- the blocks of a list stand unchanged in another message, or but for bytes that are not looked at
abbrev pub AllStand : List ℕ → List ℕ → List Span → Type 0
AllStand s t spans = (x : Span) → In x spans → Stands s t x

abbrev pub AllAlike : List ℕ → List ℕ → List Span → Type 0
AllAlike s t spans = (x : Span) → In x spans → Alike s t x

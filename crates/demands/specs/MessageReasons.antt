-- The number of a message's call and the one reason for it, in plain words (document 01, "What a call returns": rows 2, 4 and 1, "Order: 2, 4, 7, 6, 8, 9,
-- 5, 1; each is given only for its reason"). A reason names the failure of those before it in that order. Assumes nothing.
use Rattle.std.specs.Prelude.{◌≡◌, ◌↔◌, ◌⊎◌, ℕ, ◌≤◌, ◌<◌, true, false, ◌&&◌, ◌||◌, List, leb, ltb, eqb}
use Rattle.std.proofs.Math.Logic.{inl, inr}
use Rattle.std.proofs.Common.{arith}
use Rattle.std.proofs.Math.Bool.{not}
use Rattle.std.proofs.Math.ListN.{length}
use borrow.Author.Tests.{ltb-true, ltb-false, lt-ltb, le-ltb, leb-true, le-leb, eqb-true, eqb-false, eq-eqb, ne_eqb, not-true, not-false}
use Rattle.lists.specs.Truth.{fails, both_hold, either-holds, neither-holds, holds-second, not-holds, not-decided-twice}
use Rattle.wire.specs.LittleEndian.{byte_at}
use Rattle.records.specs.declared.Tables.{Tables}
use Rattle.soundness.specs.Sound.{sound}
use Rattle.chain.specs.Header.{starts_smb, is_reply, dropped}
use Rattle.message.specs.Message.{answered, Taken, not_taken, replied, take-message}
use Rattle.invariants.specs.GivenCases.{cond-case}
use Rattle.invariants.specs.Fit.{Fit}

-- ---- the reasons

-- "FF 53 4D 42"
abbrev pub StartsSmb : List ℕ → Type 0
StartsSmb s = (byte_at s 0 ≡ 0xFF) × (byte_at s 1 ≡ 0x53) × (byte_at s 2 ≡ 0x4D) × (byte_at s 3 ≡ 0x42)

-- "message dropped: under 35 or over 8,192 bytes, not starting FF 53 4D 42, or Flags bit 0x80 set": Flags stands at 9. A byte is below 256, so that its bit
-- 0x80 is set just if it is 128 or more.
pub data Dropped (s : List ℕ) : Type 0 where
  too_short : length s < 35 → Dropped s
  too_long : 8192 < length s → Dropped s
  not-smb : (StartsSmb s → ⊥) → Dropped s
  is-reply : 128 ≤ byte_at s 9 → Dropped s

-- taking a message: "2 reply room under 12,292 bytes, or file memory not 65,536", "4 tables not sound", "1 message dropped", "0 done"
pub data MessageReason (s : List ℕ) (t : Tables) (memory room : List ℕ) : ℕ → Type 0 where
  message-room : (length room < 12292) ⊎ (length memory ≡ 65536 → ⊥) → MessageReason s t memory room 2
  message-unsound : 12292 ≤ length room → length memory ≡ 65536 → sound t ≡ false → MessageReason s t memory room 4
  message-dropped : 12292 ≤ length room → length memory ≡ 65536 → sound t ≡ true → Dropped s → MessageReason s t memory room 1
  message-done : 12292 ≤ length room → length memory ≡ 65536 → sound t ≡ true → (Dropped s → ⊥) → MessageReason s t memory room 0

-- ---- the tests behind them

smb-says : (s : List ℕ) → starts_smb s ≡ true → StartsSmb s
unfolding starts_smb
smb-says s e =
    let a = both_hold (eqb (byte_at s 0) 0xFF) (eqb (byte_at s 1) 0x53 && (eqb (byte_at s 2) 0x4D && eqb (byte_at s 3) 0x42)) e in
    let b = both_hold (eqb (byte_at s 1) 0x53) (eqb (byte_at s 2) 0x4D && eqb (byte_at s 3) 0x42) a.1 in
    let c = both_hold (eqb (byte_at s 2) 0x4D) (eqb (byte_at s 3) 0x42) b.1 in
    (eqb-true (byte_at s 0) 0xFF a.0, eqb-true (byte_at s 1) 0x53 b.0, eqb-true (byte_at s 2) 0x4D c.0, eqb-true (byte_at s 3) 0x42 c.1)

smb-holds : (s : List ℕ) → StartsSmb s → starts_smb s ≡ true
unfolding starts_smb
smb-holds s h = rw (h.0, h.1, h.2, h.3)

dropped-says : (s : List ℕ) → dropped s ≡ true → Dropped s
unfolding dropped is_reply
dropped-says s e =
    elim (either-holds (ltb (length s) 35) (ltb 8192 (length s) || (not (starts_smb s) || is_reply s)) e) [
      | inl a ↦ too_short (ltb-true (length s) 35 a)
      | inr b ↦ elim (either-holds (ltb 8192 (length s)) (not (starts_smb s) || is_reply s) b) [
        | inl a ↦ too_long (ltb-true 8192 (length s) a)
        | inr c ↦ elim (either-holds (not (starts_smb s)) (is_reply s) c) [
          | inl a ↦ not-smb (λ h. not-decided-twice (starts_smb s) (smb-holds s h) (not-true (starts_smb s) a))
          | inr a ↦ is-reply (leb-true 128 (byte_at s 9) a)
        ]
      ]
    ]

dropped-holds : (s : List ℕ) → Dropped s → dropped s ≡ true
unfolding dropped is_reply
dropped-holds s (too_short h) = rw (lt-ltb (length s) 35 h)
dropped-holds s (too_long h) = holds-second (ltb (length s) 35) _ (rw (lt-ltb 8192 (length s) h))
dropped-holds s (not-smb h) =
    holds-second (ltb (length s) 35) _ (holds-second (ltb 8192 (length s)) _ (rw (fails (starts_smb s) (λ e. h (smb-says s e)))))
dropped-holds s (is-reply h) =
    holds-second (ltb (length s) 35) _ (holds-second (ltb 8192 (length s)) _ (holds-second (not (starts_smb s)) (leb 128 (byte_at s 9)) (le-leb 128 (byte_at s 9) h)))

-- "Row 1": which messages are dropped, in plain words
pub dropped-exact : (s : List ℕ) → (dropped s ≡ true) ↔ Dropped s
dropped-exact s = (dropped-says s, dropped-holds s)

pub kept-says : (s : List ℕ) → dropped s ≡ false → Dropped s → ⊥
kept-says s e h = not-decided-twice (dropped s) (dropped-holds s h) e

kept-holds : (s : List ℕ) → (Dropped s → ⊥) → dropped s ≡ false
kept-holds s h = fails (dropped s) (λ e. h (dropped-says s e))

-- ---- the number

module _ (connection : ℕ) (s : List ℕ) (t : Tables) (memory room : List ℕ) where
  -- "each is given only for its reason": taking a message
  pub take-message-reason : MessageReason s t memory room (take-message connection s t memory room).number
  unfolding take-message not_taken replied
  take-message-reason =
      cond-case (λ (r : Taken). MessageReason s t memory room r.number) (ltb (length room) 12292 || not (eqb (length memory) 65536)) (not_taken 2 t memory room) _
      (λ u. elim (either-holds (ltb (length room) 12292) (not (eqb (length memory) 65536)) u) [
        | inl a ↦ message-room (inl (ltb-true (length room) 12292 a))
        | inr a ↦ message-room (inr (eqb-false (length memory) 65536 (not-true (eqb (length memory) 65536) a)))
      ]) λ u.
      let a = neither-holds (ltb (length room) 12292) (not (eqb (length memory) 65536)) u in
      let enough : 12292 ≤ length room = ltb-false (length room) 12292 a.0 in
      let whole : length memory ≡ 65536 = eqb-true (length memory) 65536 (not-false (eqb (length memory) 65536) a.1) in
      cond-case (λ (r : Taken). MessageReason s t memory room r.number) (not (sound t)) (not_taken 4 t memory room) _
      (λ v. message-unsound enough whole (not-true (sound t) v)) λ v.
      cond-case (λ (r : Taken). MessageReason s t memory room r.number) (dropped s) (not_taken 1 t memory room) (replied s room (answered connection s t memory))
      (λ w. message-dropped enough whole (not-false (sound t) v) (dropped-says s w)) λ w.
      message-done enough whole (not-false (sound t) v) (kept-says s w)

  -- "Order: 2, 4, 7, 6, 8, 9, 5, 1": where the reason holds, its number is given
  pub take-message-given : {n : ℕ} → MessageReason s t memory room n → (take-message connection s t memory room).number ≡ n
  unfolding take-message not_taken replied
  take-message-given (message-room (inl a)) = rw (lt-ltb (length room) 12292 a)
  take-message-given (message-room (inr a)) =
      rw (holds-second (ltb (length room) 12292) (not (eqb (length memory) 65536)) (not-holds (eqb (length memory) 65536) (ne_eqb (length memory) 65536 a)))
  take-message-given (message-unsound a b c) = rw (le-ltb (length room) 12292 a, eq-eqb (length memory) 65536 b, c)
  take-message-given (message-dropped a b c d) = rw (le-ltb (length room) 12292 a, eq-eqb (length memory) 65536 b, c, dropped-holds s d)
  take-message-given (message-done a b c d) = rw (le-ltb (length room) 12292 a, eq-eqb (length memory) 65536 b, c, kept-holds s d)

  -- "Fit to be answered: rows 1, 2 and 4 don't apply": exactly then the number is 0
  pub done-fit : {n : ℕ} → MessageReason s t memory room n → n ≡ 0 → Fit s t memory room
  done-fit (message-room a) e = absurd (let z : ⊥ = omega arith in z)
  done-fit (message-unsound a b c) e = absurd (let z : ⊥ = omega arith in z)
  done-fit (message-dropped a b c d) e = absurd (let z : ⊥ = omega arith in z)
  done-fit (message-done a b c d) e = record { room-enough = a; memory-whole = b; tables-sound = c; not-dropped = kept-holds s d }

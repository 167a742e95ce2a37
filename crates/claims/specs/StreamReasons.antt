-- The numbers of the stream's reader and writer and the one reason for each, in plain words (document 02, CR 1: "Refusals that stop the reader, in this order", "Writer's,
-- nothing written"). Assumes nothing.
use Rattle.std.proofs.Math.Path.{◌≡◌}
use Rattle.std.specs.Prelude.{refl, ◌↔◌, ◌⊎◌, ℕ, ◌+◌, ◌*◌, ◌/◌, ◌%◌, ◌≤◌, ◌<◌, true, not, List, [], ◌∷◌, length, eqb, ltb}
use Rattle.std.proofs.Common.{sym, ◌∙◌, arith}
use Rattle.std.proofs.Math.Logic.{inl, inr}
use borrow.Author.Tests.{ltb-true, ltb-false, lt-ltb, le-ltb, eqb-true, eqb-false, eq-eqb, ne_eqb, not-true, not-false}
use Rattle.lists.specs.Truth.{either-holds, neither-holds, holds-second}
use Rattle.lists.specs.Put.{put}
use Rattle.stream.specs.Stream.{length_of, known, judge_length, judge, header_of, begins, begins_by, first, first_of, begun, stopped, carried_by, carried}
use Rattle.stream.specs.Writer.{Wrote, written_of, framed, write}
use Rattle.stream.specs.Stream.{Judged}
use Rattle.stream.specs.Stream.{Stop, KeepAlive, Message}
use Rattle.invariants.specs.GivenCases.{cond-case}
use Rattle.claims.specs.StreamLaws.{carried_step}

-- ---- a header

-- "1 another type, 2 reserved flag bits, 3 a keep-alive with length, 4 a length above 8,192": flags other than the lowest bit are reserved, so that a byte of
-- flags above 1 has one; the lowest is the 17th bit of the length. Each names the failure of those before it.
pub data StopReason (kind flags high low : ℕ) : ℕ → Type 0 where
  another-type : (kind ≡ 0x00 → ⊥) → (kind ≡ 0x85 → ⊥) → StopReason kind flags high low 1
  reserved-flags : (kind ≡ 0x00) ⊎ (kind ≡ 0x85) → 1 < flags → StopReason kind flags high low 2
  keep-alive-with-length : kind ≡ 0x85 → flags ≤ 1 → 0 < flags * 65536 + high * 256 + low → StopReason kind flags high low 3
  too_long : kind ≡ 0x00 → flags ≤ 1 → 8192 < flags * 65536 + high * 256 + low → StopReason kind flags high low 4

known-says : (kind : ℕ) → known kind ≡ true → (kind ≡ 0x00) ⊎ (kind ≡ 0x85)
unfolding known
known-says kind e =
    elim (either-holds (eqb kind 0) (eqb kind 133) e) [
      | inl a ↦ inl (eqb-true kind 0 a)
      | inr a ↦ inr (eqb-true kind 133 a)
    ]

known-holds : (kind : ℕ) → (kind ≡ 0x00) ⊎ (kind ≡ 0x85) → known kind ≡ true
unfolding known
known-holds kind (inl e) = rw (eq-eqb kind 0 e)
known-holds kind (inr e) = holds-second (eqb kind 0) (eqb kind 133) (eq-eqb kind 133 e)

-- the lowest bit of flags without reserved bits
one_bit : (flags high low : ℕ) → flags ≤ 1 → length_of flags high low ≡ flags * 65536 + high * 256 + low
unfolding length_of
one_bit flags high low h = let e : flags % 2 ≡ flags = omega arith in rw e

module _ (kind flags high low : ℕ) where
  stop-says : (n : ℕ) → judge kind flags high low ≡ Stop n → StopReason kind flags high low n
  unfolding judge judge_length known
  stop-says n =
      cond-case (λ (j : Judged). j ≡ Stop n → StopReason kind flags high low n) (not (known kind)) (Stop 1) _
      (λ u e. let z : 1 ≡ n = cc in
      let k = neither-holds (eqb kind 0) (eqb kind 133) (not-true (known kind) u) in
      rw (← z) (another-type (eqb-false kind 0 k.0) (eqb-false kind 133 k.1)))
      (λ u. let k : (kind ≡ 0x00) ⊎ (kind ≡ 0x85) = known-says kind (not-false (known kind) u) in
      cond-case (λ (j : Judged). j ≡ Stop n → StopReason kind flags high low n) (ltb 1 flags) (Stop 2) _
      (λ v e. let z : 2 ≡ n = cc in rw (← z) (reserved-flags k (ltb-true 1 flags v)))
      (λ v. let f : flags ≤ 1 = ltb-false 1 flags v in
      cond-case (λ (j : Judged). j ≡ Stop n → StopReason kind flags high low n) (eqb kind 133) _ _
      (λ w. cond-case (λ (j : Judged). j ≡ Stop n → StopReason kind flags high low n) (eqb (length_of flags high low) 0) KeepAlive (Stop 3)
      (λ x e. let z : ◌≡◌ {A = ℕ} 0 1 = cc in absurd (omega arith))
      (λ x e. let z : 3 ≡ n = cc in let y : (length_of flags high low ≡ 0 → ⊥) = eqb-false (length_of flags high low) 0 x in
      rw (← z) (keep-alive-with-length (eqb-true kind 133 w) f (let o = one_bit flags high low f in omega arith))))
      (λ w. cond-case (λ (j : Judged). j ≡ Stop n → StopReason kind flags high low n) (ltb 8192 (length_of flags high low)) (Stop 4) (Message (length_of flags high low))
      (λ x e. let z : 4 ≡ n = cc in rw (← z) (too_long (elim k [ inl a ↦ a | inr b ↦ absurd (eqb-false kind 133 w b) ]) f (rw (one_bit flags high low f) at (ltb-true 8192 (length_of flags high low) x))))
      (λ x e. let z : ◌≡◌ {A = ℕ} 0 1 = cc in absurd (omega arith)))))

  stop-given : (n : ℕ) → StopReason kind flags high low n → judge kind flags high low ≡ Stop n
  unfolding judge judge_length known
  stop-given n (another-type a b) = rw (ne_eqb kind 0 a, ne_eqb kind 133 b)
  stop-given n (reserved-flags k f) = rw (known-holds kind k, lt-ltb 1 flags f)
  stop-given n (keep-alive-with-length e f l) = let o = one_bit flags high low f in rw (e, le-ltb 1 flags f, ne_eqb (length_of flags high low) 0 (λ z. omega arith))
  stop-given n (too_long e f l) = let o = one_bit flags high low f in rw (e, le-ltb 1 flags f, lt-ltb 8192 (length_of flags high low) (omega arith))

  -- a header stops the reader with a number exactly for that number's reason
  pub stop-exact : (n : ℕ) → (judge kind flags high low ≡ Stop n) ↔ StopReason kind flags high low n
  stop-exact n = (stop-says n, stop-given n)

-- ---- what a header does to a stream

-- "messages before stand": it stops the reader there, and nothing behind it counts
pub header-stops : (kind flags high low n : ℕ) → StopReason kind flags high low n → (rest : List ℕ)
    → carried (kind ∷ flags ∷ high ∷ low ∷ rest) ≡ record { messages = []; left = stopped n }
unfolding carried_by first first_of begins begins_by
header-stops kind flags high low n why rest =
    carried_step (kind ∷ flags ∷ high ∷ low ∷ rest) ∙ rw ((stop-exact kind flags high low n).1 why)

-- "0x85 is a keep-alive, passed over"
pub keep-alive-passed : (rest : List ℕ) → carried (0x85 ∷ 0 ∷ 0 ∷ 0 ∷ rest) ≡ carried rest
unfolding first begins begins_by judge judge_length known length_of
keep-alive-passed rest = carried_step (0x85 ∷ 0 ∷ 0 ∷ 0 ∷ rest) ∙ sym (carried_step rest)

-- "A header is judged once its four bytes are in"
pub not-judged : (s : List ℕ) → length s < 4 → carried s ≡ record { messages = []; left = begun s }
unfolding carried_by first first_of begins
not-judged [] h = carried_step []
not-judged (a ∷ []) h = carried_step (a ∷ [])
not-judged (a ∷ b ∷ []) h = carried_step (a ∷ b ∷ [])
not-judged (a ∷ b ∷ c ∷ []) h = carried_step (a ∷ b ∷ c ∷ [])
not-judged (a ∷ b ∷ c ∷ d ∷ s) h = absurd (let z : ⊥ = omega arith in z)

-- ---- the writer

-- "the writer takes up to 12,292"; "1 for a longer message, then 2 for too little room"
pub data WriteReason (message room : List ℕ) : ℕ → Type 0 where
  longer-message : 12292 < length message → WriteReason message room 1
  too-little-room : length message ≤ 12292 → length room < length message + 4 → WriteReason message room 2
  written : length message ≤ 12292 → length message + 4 ≤ length room → WriteReason message room 0

module _ (message room : List ℕ) where
  pub write-reason : WriteReason message room (write message room).answer.number
  unfolding write written_of
  write-reason =
      cond-case (λ (w : Wrote). WriteReason message room w.answer.number) (ltb 12292 (length message)) (record { answer = written_of 1 0; room = room }) _
      (λ u. longer-message (ltb-true 12292 (length message) u))
      (λ u. cond-case (λ (w : Wrote). WriteReason message room w.answer.number) (ltb (length room) (length message + 4)) (record { answer = written_of 2 0; room = room }) _
      (λ v. too-little-room (ltb-false 12292 (length message) u) (ltb-true (length room) (length message + 4) v))
      (λ v. written (ltb-false 12292 (length message) u) (ltb-false (length room) (length message + 4) v)))

  pub write-given : (n : ℕ) → WriteReason message room n → (write message room).answer.number ≡ n
  unfolding write written_of
  write-given n (longer-message h) = rw (lt-ltb 12292 (length message) h)
  write-given n (too-little-room h k) = rw (le-ltb 12292 (length message) h, lt-ltb (length room) (length message + 4) k)
  write-given n (written h k) = rw (le-ltb 12292 (length message) h, le-ltb (length room) (length message + 4) k)

  -- "nothing written"
  pub write-nothing : ((write message room).answer.number ≡ 0 → ⊥) → (write message room).room ≡ room
  unfolding write written_of
  write-nothing =
      cond-case (λ (w : Wrote). (w.answer.number ≡ 0 → ⊥) → w.room ≡ room) (ltb 12292 (length message)) (record { answer = written_of 1 0; room = room }) _ (λ _ n. refl)
      (λ _. cond-case (λ (w : Wrote). (w.answer.number ≡ 0 → ⊥) → w.room ≡ room) (ltb (length room) (length message + 4)) (record { answer = written_of 2 0; room = room }) _ (λ _ n. refl)
      (λ _ n. absurd (n refl)))

  -- the header, its length high byte first, then the message; bytes behind stand
  pub write_done : length message ≤ 12292 → length message + 4 ≤ length room
      → write message room ≡ record { answer = record { number = 0; length = length message + 4 }; room = put room 0 (0 ∷ 0 ∷ length message / 256 ∷ length message % 256 ∷ message) }
  unfolding write written_of framed header_of
  write_done h k = rw (le-ltb 12292 (length message) h, le-ltb (length room) (length message + 4) k)

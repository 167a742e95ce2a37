-- From a message of one command whose reply's Status is 0/0 to the command: it was done, and what it left and said is what the call left and wrote.
-- Assumes nothing.
use Rattle.std.specs.Prelude.{◌≡◌, ℕ, ◌+◌, ◌≤◌, false, length, None as Nobody, None as no_link}
use Rattle.std.proofs.Math.Path.{ap}
use Rattle.std.proofs.Common.{arith}
use mathlib.Core.List.{List, [], ◌∷◌, ◌++◌, append-nil}
use Rattle.lists.specs.Put.{put}
use Rattle.records.specs.declared.Tables.{Tables}
use Rattle.chain.specs.Layout.{FIRST}
use Rattle.chain.specs.Header.{dropped}
use Rattle.chain.specs.declared.block.Block.{Block}
use Rattle.message.specs.declared.caller.Caller.{Caller}
use Rattle.message.specs.Refusal.{status, success}
use Rattle.message.specs.declared.refusal.Status.{Status}
use Rattle.message.specs.Command.{Said, done}
use Rattle.message.specs.JustOpened.{NOBODY}
use Rattle.message.specs.Reply.{reply_header, reply_block, reply_size}
use Rattle.message.specs.Message.{after, link_to, after_given, run, Taken}
use Rattle.demands.specs.Taken.{not_short}
use Rattle.demands.specs.RefusedCall.{gives}
use Rattle.demands.specs.Admitted.{NoSessionFor, no-session}

-- ---- from the call to its command

-- 0/0 has no code
pub coded-not-done : {P : Type 0} (n : Status) → 1 ≤ n.code → n ≡ status 0 0 → P
unfolding status
coded-not-done n h e = let z : n.code ≡ 0 = ap (λ (x : Status). x.code) e in absurd (omega arith)

-- a message that is not dropped has a header
pub long-enough : (s : List ℕ) → dropped s ≡ false → 32 ≤ length s
long-enough s e = let n : 35 ≤ length s = not_short s e in omega arith

-- the one command of the message was done, and what it left and said is what the call left and wrote
pub record Carried (c : Caller) (s : List ℕ) (b : Block) (t : Tables) (memory room : List ℕ) (call : Taken) : Type 0 where
  pub said : Said
  pub given : gives c s NOBODY b t memory ≡ done call.tables call.memory said
  pub reply : call.room ≡ put room 0 (reply_header s success ++ reply_block said FIRST no_link)
  pub reply-length : call.length ≡ 32 + reply_size said
  pub nobody-holds : call.holder ≡ Nobody

-- commands of which the one was done
pub run-one : (c : Caller) (s : List ℕ) (b : Block) (t : Tables) (memory : List ℕ) {u : Tables} {m : List ℕ} {said : Said} → gives c s NOBODY b t memory ≡ done u m said
    → run c s NOBODY (b ∷ []) FIRST t memory ≡ record { forms = success; holder = Nobody; tables = u; memory = m; blocks = reply_block said FIRST no_link }
unfolding run after_given after link_to
run-one c s b t memory {u} {m} {said} e =
    rw e (ap (λ (l : List ℕ). record { forms = success; holder = Nobody; tables = u; memory = m; blocks = l }) (append-nil (reply_block said FIRST no_link)))

-- ---- from a command that is done to what it asked

-- one that is missing has a code
pub session-code : {c : Caller} {t : Tables} {n : Status} → NoSessionFor c t n → 1 ≤ n.code
unfolding status
session-code (no-session h) = omega arith

-- Of specs/Possible.antt: what rests on its other theorems. Assumes nothing.
use Rattle.std.specs.Prelude.{◌≡◌, ℕ, ◌+◌, false, replicate, None as Nobody}
use Rattle.std.proofs.Common.{ap, ◌∙◌, arith}
use mathlib.Core.List.{List, []}
use Rattle.std.proofs.lemmas.List.{length-replicate}
use Rattle.records.specs.declared.Tables.{Tables}
use Rattle.chain.specs.Grammar.{Sentence}
use Rattle.chain.specs.Header.{dropped}
use Rattle.message.specs.HeldBy.{HeldBy}
use Rattle.message.specs.Message.{Taken, replied}
use Rattle.invariants.specs.Sound.{Good}
use Rattle.invariants.specs.Fit.{fit-answered}
use Rattle.claims.specs.Cases.{message}
use Rattle.demands.specs.NotServed.{known-locking}
use Rattle.demands.specs.SentenceCases.{message-60-none}
use Rattle.demands.proofs.Calls.{status-call}
use Rattle.demands.specs.Calls.{length-call}
use Rattle.order.specs.Call.{gives, Answerable, BeginsKnown, Says}
use Rattle.order.specs.Possible.{answer-to, answers-given, asked, good, kept-60, kept-61, plant, plant-sound, process_nine}

-- an open for both, one for writing, and the first beside the lock
pub plant-good : Good (plant 2 0) × Good (plant 1 0) × Good (plant 2 1)
plant-good = (good 2 0 plant-sound.0, good 1 0 plant-sound.1, good 2 1 plant-sound.2)

pub answerable : (s : List ℕ) (t : Tables) → Good t → dropped s ≡ false → Answerable (asked s t)
unfolding asked
answerable s t ok kept =
    record {
      fit = record {
        room-enough = rw (length-replicate {A = ℕ} 12292 0) (omega arith);
        memory-whole = length-replicate {A = ℕ} 65536 0;
        tables-sound = ok.sound;
        not-dropped = kept;
      };
      good = ok;
    }

pub chain-answerable : Answerable (asked (message 61 []) (plant 2 0))
chain-answerable = answerable (message 61 []) (plant 2 0) plant-good.0 kept-61

pub no-chain : Answerable (asked (message 60 []) (plant 2 0)) × BeginsKnown (asked (message 60 []) (plant 2 0)) × (Sentence (message 60 []) → ⊥)
unfolding asked message
no-chain = (answerable (message 60 []) (plant 2 0) plant-good.0 kept-60, known-locking, message-60-none)

pub call-says : (t : Tables) (ok : Good t) (class code size : ℕ) (held : HeldBy) → answer-to (message 61 []) t class code size held
    → Says (asked (message 61 []) t) class code × ((gives (asked (message 61 []) t)).length ≡ 32 + size) × ((gives (asked (message 61 []) t)).holder ≡ held)
unfolding asked answer-to replied
call-says t ok class code size held h =
    let fit = (answerable (message 61 []) t ok kept-61).fit in (
      status-call 5 (message 61 []) t (replicate 65536 0) (replicate 12292 0) fit ∙ h.0,
      length-call 5 (message 61 []) t (replicate 65536 0) (replicate 12292 0) fit ∙ ap (λ (n : ℕ). 32 + n) h.1,
      ap (λ (k : Taken). k.holder) (fit-answered 5 (message 61 []) t (replicate 65536 0) (replicate 12292 0) fit) ∙ h.2,
    )

pub chain-done : Says (asked (message 61 []) (plant 2 0)) 0 0 × ((gives (asked (message 61 []) (plant 2 0))).length ≡ 66)
    × ((gives (asked (message 61 []) (plant 2 0))).holder ≡ Nobody)
chain-done = call-says (plant 2 0) plant-good.0 0 0 34 Nobody answers-given.0

pub second-refused : Says (asked (message 61 []) (plant 1 0)) 1 5 × ((gives (asked (message 61 []) (plant 1 0))).length ≡ 42)
    × ((gives (asked (message 61 []) (plant 1 0))).holder ≡ Nobody)
second-refused = call-says (plant 1 0) plant-good.1 1 5 10 Nobody answers-given.1

pub lock-refused : Says (asked (message 61 []) (plant 2 1)) 1 33 × ((gives (asked (message 61 []) (plant 2 1))).length ≡ 35)
    × ((gives (asked (message 61 []) (plant 2 1))).holder ≡ process_nine)
lock-refused = call-says (plant 2 1) plant-good.2 1 33 3 process_nine answers-given.2

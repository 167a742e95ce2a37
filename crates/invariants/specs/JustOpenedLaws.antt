-- At the start of a chain, and behind any request but OPEN_ANDX, FID 0xFFFF means itself (document 02, CR 6): every request is meant as it stands.
-- Assumes nothing.
use Rattle.std.specs.Prelude.{◌≡◌, refl, ℕ, List, ◌∷◌, eqb}
use Rattle.std.proofs.Common.{sym, ap, eqb-true}
use Rattle.records.specs.declared.Tables.{Tables}
use Rattle.chain.specs.declared.block.Body.{Body}
use Rattle.chain.specs.declared.block.Body.TheVariants.{Locking, Read, Write, Close, Logoff, TreeDisconnect, ProcessExit, CoreRead, CoreWrite, LockByteRange, UnlockByteRange, Open}
use Rattle.chain.specs.declared.block.Block.{Block}
use Rattle.message.specs.declared.caller.Caller.{Caller}
use Rattle.message.specs.Command.{perform}
use Rattle.message.specs.JustOpened.{NOBODY, fid_meant, body_meant}
use Rattle.message.specs.Message.{area_of, data_of, after_given, run}
use Rattle.invariants.specs.GivenCases.{cond-case}

-- 0xFFFF means itself, and another FID does anyway
pub fid-nobody : (fid : ℕ) → fid_meant NOBODY fid ≡ fid
unfolding fid_meant
fid-nobody fid = cond-case (λ (n : ℕ). n ≡ fid) (eqb fid NOBODY) NOBODY fid (λ e. sym (eqb-true fid NOBODY e)) (λ _. refl)

pub meant-nobody : (b : Body) → body_meant NOBODY b ≡ b
unfolding body_meant
meant-nobody (Locking f) = refl
meant-nobody (Read f) = ap (λ (n : ℕ). Read (record { fid = n; offset = f.offset; max = f.max })) (fid-nobody f.fid)
meant-nobody (Write f) = refl
meant-nobody (Close fid) = refl
meant-nobody Logoff = refl
meant-nobody TreeDisconnect = refl
meant-nobody ProcessExit = refl
meant-nobody (CoreRead f) = refl
meant-nobody (CoreWrite f) = refl
meant-nobody (LockByteRange f) = refl
meant-nobody (UnlockByteRange f) = refl
meant-nobody (Open f) = refl

-- a chain's first command is carried out as it stands
pub run-first : (c : Caller) (s : List ℕ) (b : Block) (bs : List Block) (place : ℕ) (t : Tables) (memory : List ℕ)
    → run c s NOBODY (b ∷ bs) place t memory
    ≡ after_given (perform c t memory b.body (area_of s b) (data_of s b)) bs place t memory (λ j p u m. run c s j bs p u m)
unfolding run
run-first c s b bs place t memory = rw (meant-nobody b.body)

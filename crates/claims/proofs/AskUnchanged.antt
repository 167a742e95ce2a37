-- Of specs/AskUnchanged.antt: what rests on its other theorems. Assumes nothing.
use Rattle.std.specs.Prelude.{◌≡◌, ◌↔◌, ℕ, Bool, cond, not}
use Rattle.std.proofs.Math.Path.{refl, sym, ap}
use Rattle.std.proofs.Common.{◌∙◌, arith}
use Rattle.std.proofs.Math.Bool.{true, false}
use mathlib.Core.List.{Memᴰ as In}
use Rattle.lists.specs.Truth.{fails}
use Rattle.lists.specs.Walk.{found}
use Rattle.records.specs.declared.Open.{Open}
use Rattle.records.specs.declared.Tables.{Tables}
use Rattle.records.specs.Held.{opens_of}
use Rattle.soundness.specs.Sound.{sound}
use Rattle.host.specs.declared.answer.Returned.{Returned}
use Rattle.host.specs.HostCall.{refused, done, is_unchanged, unchanged_at, ask_unchanged}
use Rattle.claims.specs.AskUnchanged.{AskReason, UpToDate, ask-open, asked_of, has-fid, up-to-date}
use Rattle.claims.specs.AskUnchanged.{ask-unsound}

module _ (t : Tables) (fid : ℕ) where
  pub by-sound : (b : Bool) → sound t ≡ b → AskReason t fid (cond (not b) (refused 4 t) (unchanged_at t (found (has-fid t fid) (opens_of t)))).number
  unfolding refused
  by-sound true e = (asked_of t fid) (found (has-fid t fid) (opens_of t)) refl e
  by-sound false e = ask-unsound e

  -- each number for its reason
  pub ask-reason : AskReason t fid (ask_unchanged t fid).number
  unfolding ask_unchanged has-fid
  ask-reason = by-sound (sound t) refl

-- the answer about an open: "unchanged" exactly if it is up to date, otherwise "changed"
pub answer-of : (t : Tables) (o : Open) → sound t ≡ true → In o (opens_of t) → ((ask_unchanged t o.fid).id ≡ 1) ↔ UpToDate t o
unfolding done
answer-of t o s m =
    let same = ap (λ (a : Returned). a.id) (ask-open t o.fid s o m refl) in (
      λ e. (up-to-date t o).0 (chosen-one (is_unchanged t o) (sym same ∙ e)),
      λ u. same ∙ ap (λ (b : Bool). cond b 1 0) ((up-to-date t o).1 u),
    )
  where
    chosen-one : (b : Bool) → ◌≡◌ {A = ℕ} (cond b 1 0) 1 → b ≡ true
    chosen-one true e = refl
    chosen-one false e = absurd (let z : ⊥ = omega arith in z)

pub other-answer : (t : Tables) (o : Open) → sound t ≡ true → In o (opens_of t) → ((ask_unchanged t o.fid).id ≡ 0) ↔ (UpToDate t o → ⊥)
unfolding done
other-answer t o s m =
    let same = ap (λ (a : Returned). a.id) (ask-open t o.fid s o m refl) in (
      λ e u. let one = (answer-of t o s m).1 u in omega arith,
      λ n. same ∙ ap (λ (b : Bool). cond b 1 0) (fails (is_unchanged t o) (λ e. n ((up-to-date t o).0 e))),
    )

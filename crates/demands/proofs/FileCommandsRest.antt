-- Of specs/FileCommands.antt: what rests on its other theorems. Assumes nothing.
use Rattle.std.specs.Prelude.{◌≡◌, ℕ, ◌≤◌, List, length}
use Rattle.std.proofs.Common.{sym, ◌∙◌, arith, eq-eqb, ne_eqb}
use Rattle.std.proofs.Math.Path.{ap}
use Rattle.std.proofs.Math.Decide.{ℕ_discrete}
use Rattle.records.specs.declared.Open.{Open}
use Rattle.records.specs.declared.Tables.{Tables}
use Rattle.chain.specs.declared.block.WriteFields.{WriteFields}
use Rattle.message.specs.declared.caller.Caller.{Caller}
use Rattle.message.specs.Command.{Said, done, wrote, core_wrote, do_write, core_said, do_core_write}
use Rattle.invariants.specs.Sound.{Good}
use Rattle.demands.specs.Admitted.{Admitted}
use Rattle.demands.proofs.FileCommands.{set-size-left, write-leaves}
use Rattle.demands.proofs.FileCommandsStated.{write-says}
use Rattle.demands.specs.FileCommands.{WroteFile, as_core_lem}

module _ (c : Caller) (t : Tables) (memory : List ℕ) (full : length memory ≡ 65536) (g : Good t) {u : Tables} {m : List ℕ} where
  -- a write of some bytes is done as the counterpart is, and says the count
  pub core-write-given : {said : Said} (f : WriteFields) (bytes : List ℕ) (o : Open) → Admitted c t f.fid o → 1 ≤ f.count → do_core_write c t memory f bytes ≡ done u m said
      → (do_write c t memory f bytes ≡ done u m (wrote f.count)) × (said ≡ core_wrote f.count)
  unfolding do_core_write core_said
  core-write-given f bytes o a some_bytes e =
      let d = as_core_lem (do_write c t memory f bytes) (rw (ne_eqb f.count 0 (λ z. omega arith)) at e) in
      let says = (write-says c t memory full g) f bytes o a d.1 in
      (d.1 ∙ ap (done u m) says, d.2 ∙ ap core_said says)

  -- so it leaves what the counterpart leaves; count 0 is SetSize.antt
  pub core-write-leaves : {said : Said} (f : WriteFields) (bytes : List ℕ) (o : Open) → Admitted c t f.fid o → length bytes ≡ f.count → 1 ≤ f.count
      → do_core_write c t memory f bytes ≡ done u m said → WroteFile t u o.file f.offset bytes memory m
  core-write-leaves f bytes o a n some_bytes e = (write-leaves c t memory full g) f bytes o a n some_bytes (core-write-given f bytes o a some_bytes e).0

  -- the count that its reply block says is the one asked for, whether 0 or more
  pub core-write-says : {said : Said} (f : WriteFields) (bytes : List ℕ) (o : Open) → Admitted c t f.fid o → do_core_write c t memory f bytes ≡ done u m said
      → said ≡ core_wrote f.count
  unfolding do_core_write
  core-write-says f bytes o a e =
      elim (ℕ_discrete f.count 0) [
        | yes z ↦ ((set-size-left c t memory full g) f o a (rw (eq-eqb f.count 0 z) at e)).3 ∙ ap core_wrote (sym z)
        | no n ↦ (core-write-given f bytes o a (omega arith) e).1
      ]

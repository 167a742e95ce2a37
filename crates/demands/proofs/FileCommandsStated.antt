-- Of specs/FileCommands.antt: what rests on its other theorems. Assumes nothing.
use Rattle.std.specs.Prelude.{◌≡◌, ℕ, List, length}
use Rattle.records.specs.declared.Open.{Open}
use Rattle.records.specs.declared.Tables.{Tables}
use Rattle.chain.specs.declared.block.WriteFields.{WriteFields}
use Rattle.message.specs.declared.caller.Caller.{Caller}
use Rattle.message.specs.Command.{Said, done, wrote, do_write}
use Rattle.invariants.specs.Sound.{Good}
use Rattle.demands.specs.Admitted.{Admitted}
use Rattle.demands.proofs.FileCommands.{write-left}

module _ (c : Caller) (t : Tables) (memory : List ℕ) (full : length memory ≡ 65536) (g : Good t) {u : Tables} {m : List ℕ} where
  -- "WRITE: 6 words: AndX, count, ..": the count that its reply block says is the one asked for, whether 0 or more
  pub write-says : {said : Said} (f : WriteFields) (bytes : List ℕ) (o : Open) → Admitted c t f.fid o → do_write c t memory f bytes ≡ done u m said → said ≡ wrote f.count
  write-says f bytes o a e = ((write-left c t memory full g) f bytes o a e).3

-- Of specs/EndOne.antt: what rests on its other theorems. Assumes nothing.
use Rattle.std.specs.Prelude.{◌≡◌, refl, true}
use Rattle.records.specs.declared.Tables.{Tables}
use Rattle.soundness.specs.Sound.{sound}
use Rattle.removal.specs.Removal.{remove}
use Rattle.host.specs.declared.ending.One.{One}
use Rattle.host.specs.declared.ending.One.TheVariants.{Session as OneSession, Tree as OneTree, Open as OneOpen}
use Rattle.host.specs.HostCall.{done, gone_with, end_one}
use Rattle.invariants.specs.HostCases.{end_one-either}
use Rattle.claims.specs.HostAnswer.{refused-not-done}
use Rattle.claims.specs.HostFrames.{removed-counts}
use Rattle.claims.proofs.RemovalPlain.{close-plain, disconnect-plain, logoff-plain}
use Rattle.claims.specs.EndOne.{OneEnded, WithoutOne}

pub without-one : (t : Tables) → sound t ≡ true → (one : One) → WithoutOne one t (remove (gone_with one) t)
unfolding WithoutOne gone_with
without-one t e (OneSession uid) = logoff-plain t e uid
without-one t e (OneTree tid) = disconnect-plain t e tid
without-one t e (OneOpen fid) = close-plain t e fid

pub end_one-frame : (t : Tables) (one : One) → (end_one t one).number ≡ 0 → OneEnded t one (end_one t one)
unfolding done
end_one-frame t one =
    end_one-either t (λ a. a.number ≡ 0 → OneEnded t one a) (refused-not-done (OneEnded t one) t) one
    λ tables there e. record {
      records = without-one t tables one;
      counts = removed-counts t (gone_with one);
      no_number = refl;
    }

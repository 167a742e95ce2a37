-- Of specs/HostFrames.antt: what rests on its other theorems. Assumes nothing.
use Rattle.std.specs.Prelude.{◌≡◌, refl, ℕ}
use Rattle.records.specs.declared.Tables.{Tables}
use Rattle.removal.specs.declared.Gone.TheVariants.{Connection}
use Rattle.host.specs.HostCall.{done, drop_connection}
use Rattle.invariants.specs.HostCases.{drop_connection-either}
use Rattle.claims.specs.HostAnswer.{refused-not-done}
use Rattle.claims.proofs.RemovalPlain.{drop-plain}
use Rattle.claims.specs.HostFrames.{ConnectionDropped, removed-counts}

module _ (t : Tables) where
  -- "drop a connection"
  pub drop_connection-frame : (connection : ℕ) → (drop_connection t connection).number ≡ 0
      → ConnectionDropped t connection (drop_connection t connection)
  unfolding done
  drop_connection-frame connection =
      drop_connection-either t (λ a. a.number ≡ 0 → ConnectionDropped t connection a)
      (refused-not-done (ConnectionDropped t connection) t) connection
      λ tables e. record {
        records = drop-plain t tables connection;
        counts = (removed-counts t) (Connection connection);
        no_number = refl;
      }

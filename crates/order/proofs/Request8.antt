-- Of specs/Request8.antt: what rests on its other theorems. Assumes nothing.
use Rattle.std.proofs.Common.{ap, arith}
use Rattle.std.proofs.lemmas.List.{get_or-replicate}
use Rattle.records.specs.declared.File.{File}
use Rattle.records.specs.Change.{changes_of}
use Rattle.records.specs.Empty.{no_file}
use Rattle.host.specs.HostCall.{no_tables}
use Rattle.claims.specs.HostFrames.{load_file-frame}
use Rattle.claims.proofs.SoundPlain.{sound-plain}
use Rattle.demands.proofs.Effects.{write-reading, core-write-reading}
use Rattle.demands.specs.HolderLone.{same-open}
use Rattle.demands.proofs.SetSize.{set-size-reading}
use Rattle.order.specs.Demand1.{demand-1}
use Rattle.order.specs.Demand2.{demand-2}
use Rattle.order.specs.Demand3.{demand-3}
use Rattle.order.specs.Request8.{ChangeNumber, Request8, answers-so, raises, remembers-so, staffing-so}

pub numbers-raised : ChangeNumber
unfolding changes_of no_tables
numbers-raised =
    record {
      bits = λ t s f m. let p = ((sound-plain t).0 s).changes f m in omega arith;
      starts = λ file low. ap (λ (f : File). f.changes) (get_or-replicate 16 file no_file no_file (omega arith));
      write = λ c o d valid more.
          let w = write-reading c.connection c.message d.1.reading c.tables c.memory c.room d.0.good d.0.fit d.2 d.1.is in
          rw (← (same-open d.0.fit.tables-sound valid w.admitted)) (raises (w.wrote-file more).number);
      write-none = λ c d none.
          ((write-reading c.connection c.message d.1.reading c.tables c.memory c.room d.0.good d.0.fit d.2 d.1.is).wrote_none none).same_tables;
      core-write = λ c o d valid more.
          let w = core-write-reading c.connection c.message d.1.reading c.tables c.memory c.room d.0.good d.0.fit d.2 d.1.is more in
          rw (← (same-open d.0.fit.tables-sound valid w.admitted)) (raises w.wrote-file.number);
      size-altered = λ c o d valid none.
          let w = set-size-reading c.connection c.message d.1.reading c.tables c.memory c.room d.0.good d.0.fit d.2 d.1.is none in
          rw (← (same-open d.0.fit.tables-sound valid w.admitted)) (λ alters. raises (w.sets.number alters));
      size_same = λ c o d valid none.
          let w = set-size-reading c.connection c.message d.1.reading c.tables c.memory c.room d.0.good d.0.fit d.2 d.1.is none in
          rw (← (same-open d.0.fit.tables-sound valid w.admitted)) (λ same. (w.sets.nothing-changed same).0);
      load = λ t g file bytes memory e. raises (load_file-frame t g.shaped file bytes memory e).its-changes;
    }

pub request-8 : Request8
request-8 =
    record { change-number = numbers-raised; remembers = remembers-so; answers = answers-so; staffing = staffing-so; first = demand-1; second = demand-2; third = demand-3 }

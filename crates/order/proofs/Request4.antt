-- Of specs/Request4.antt: what rests on its other theorems. Assumes nothing.
use Rattle.std.specs.Prelude.{◌≡◌, refl}
use Rattle.std.proofs.Common.{sym, ◌∙◌}
use Rattle.message.specs.Caller.{caller_of}
use Rattle.claims.specs.HostFrames.{add_open-frame}
use Rattle.demands.proofs.ReplyHeader.{reply-header as header-given}
use Rattle.demands.proofs.FirstReadings.{first-set-size-reading}
use Rattle.demands.proofs.LockEffects.{locking-reading, lock-reading}
use Rattle.demands.specs.Processes.{sender-process, sender-32, same-process, other-process, range-process}
use Rattle.demands.proofs.Processes.{lock-taken, not_own, bars-read, bars-write, bars-core-read, bars-core-write, unlock-refused, core-unlock-refused, own-sender}
use Rattle.demands.proofs.ProcessesStated.{names-not}
use Rattle.order.specs.Call.{gives, sender}
use Rattle.order.specs.Request4.{Request4, exit-left}

pub request-4 : Request4
unfolding caller_of
request-4 =
    record {
      whole-process = record {
        both_halves = λ c. sender-process c.connection c.message;
        no-more-bits = λ c b. sender-32 c.message b;
        same = λ c d b e. same-process c.message d.message b e;
      };
      whole-range = record {
        of_range = λ c b k r on. range-process c.message b on;
        taken = λ c b d none one.
            lock-taken c.connection c.message b c.tables c.memory (gives c)
            (locking-reading c.connection c.message d.1.reading c.tables c.memory c.room d.0.good d.0.fit d.2 d.1.is) none one;
        core-range = λ c. refl;
        core-taken = λ c d.
            let w = lock-reading c.connection c.message d.1.reading c.tables c.memory c.room d.0.good d.0.fit d.2 d.1.is in
            (w.lock, w.held, w.of-process);
        open-keeps = λ t uid tid process file access done.
            let a = add_open-frame t uid tid process file access done in
            (a.new, a.opens, a.its-process);
      };
      different-owners = record {
        not-its-own = λ c d b e u. not_own d.message c.message e b u;
        read-barred = λ c d b e u spans o a r is valid access l listed owner exclusive over.
            bars-read c.connection c.message d.message b e u r c.tables c.memory c.room a.fit o valid l listed owner exclusive is access over;
        write-barred = λ c d b e u spans o a r is valid access l listed owner exclusive over.
            bars-write c.connection c.message d.message b e u r c.tables c.memory c.room a.fit o valid l listed owner exclusive is access over;
        core-read-barred = λ c d b e u spans o a r is valid access l listed owner exclusive over.
            bars-core-read c.connection c.message d.message b e u r c.tables c.memory c.room a.fit o valid l listed owner exclusive is access over;
        core-write-barred = λ c d b e u spans o a r is more valid access l listed owner exclusive over.
            bars-core-write c.connection c.message d.message b e u r c.tables c.memory c.room a.fit o valid l listed owner exclusive is more access over;
        size-barred = λ c d b e u spans o a r is none valid access l listed owner exclusive over.
            (first-set-size-reading c.connection c.message r c.tables c.memory c.room a.fit o valid is none access).1
            (record {
              lock = l;
              listed = listed;
              of-file = (o, valid.opened.listed, valid.opened.of-fid ∙ sym owner.0, refl);
              overlap = over;
              clash = λ h. not_own d.message c.message e b u _ l owner h.1;
            });
        not_named = λ c d b e other j k q r l on granted asked fid. names-not d.message c.message e b other on granted asked fid;
        core-not-named = λ c d b e u l is fid named. other-process d.message c.message e b u (sym is ∙ named.of-process);
        unlock-refused = λ c b a one some bits o valid others.
            unlock-refused c.connection c.message b one.reading c.tables c.memory c.room a.fit one.is some bits o valid others;
        core-unlock-refused = λ c b a one o valid others.
            core-unlock-refused c.connection c.message b one.reading c.tables c.memory c.room a.fit one.is o valid others;
      };
      exit-of-one = record {
        left-and-gone = exit-left;
        other-left = λ c d b e u done o i is.
            let other : o.process ≡ (sender c).process → ⊥ = λ h. other-process d.message c.message e b u (sym is ∙ h) in
            ((exit-left c done).open-left o i (λ h. other h.1), (exit-left c done).lock-left o i (λ h. other h.1));
      };
      same-sender = λ c spans r x i just. own-sender c.connection c.message r just x;
      replies = λ c a. header-given c.connection c.message c.tables c.memory c.room a.fit;
    }

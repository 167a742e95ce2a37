-- Of specs/Request3.antt: what rests on its other theorems. Assumes nothing.
use Rattle.std.specs.Prelude.{ℕ, ltb}
use Rattle.std.proofs.Common.{sym, ap, subst, ◌∙◌, inl, inr, arith, ltb-true, ltb-false}
use Rattle.lists.specs.Truth.{decided}
use Rattle.records.specs.declared.Open.{Open}
use Rattle.chain.specs.Layout.{FIRST, core_offset}
use Rattle.message.specs.Refusal.{status}
use Rattle.demands.specs.NotServed.{known-core-read, known-core-write, known-lock, known-unlock}
use Rattle.demands.specs.WireFields.{write_from, write_data, core_data}
use Rattle.demands.specs.HolderLone.{same-open}
use Rattle.demands.proofs.DataBlock.{bad-data-block}
use Rattle.demands.specs.FileCommands.{WroteFile}
use Rattle.demands.proofs.Effects.{read-reading, write-reading, core-read-reading, core-write-reading}
use Rattle.demands.specs.SetSize.{SizeSet}
use Rattle.demands.proofs.Processes.{own-sender}
use Rattle.demands.specs.Taken.{not-long}
use Rattle.demands.proofs.CoreMoved.{core-sent}
use Rattle.demands.specs.OldBytes.{ZeroFrom, zero-in-reply, zero-in-core-reply}
use Rattle.demands.proofs.OldBytes.{cut-then-grown, cut-then-written, never-shows, first-never-shows}
use Rattle.order.specs.Call.{gives}
use Rattle.order.specs.Demand1.{demand-1}
use Rattle.order.specs.Demand3.{demand-3}
use Rattle.order.specs.Request3.{LockBetween, OldBytesNeverShow, Request3, SetsTheSize, counterparts, file-low, left-good, left-whole, longest-reply, moved, never-arise, nothing-unlocked, on-wire, size-covers, size-done, size-past, size-set, standing, two-codes}

pub sizes : SetsTheSize
unfolding status
sizes =
    record {
      sets = λ c o a z. (size-set c o a z).1;
      covers = size-covers;
      past = λ c o a. (
        λ h. let free : LockBetween c o → ⊥ = λ b. let n = two-codes h ((size-covers c o a).1 b) in omega arith in (
          free,
          elim (decided (ltb 4096 (core_offset c.message FIRST))) [
            | inl e ↦ ltb-true 4096 (core_offset c.message FIRST) e
            | inr e ↦ let n = two-codes h (size-done c o a free (ltb-false 4096 (core_offset c.message FIRST) e)) in absurd (let z : ⊥ = omega arith in z)
          ],
        ),
        λ h. size-past c o a h.0 h.1,
      );
      not-past = λ c o a. (
        λ h. (λ b. let n = two-codes h ((size-covers c o a).1 b) in omega arith, (size-set c o a h).0),
        λ h. size-done c o a h.0 h.1,
      );
    }

pub old-bytes : OldBytesNeverShow
old-bytes =
    record {
      then-grown = λ c d o p a z on b y same.
          cut-then-grown (size-set c o a z).1
          (moved (λ t file memory. SizeSet t (gives d).tables file (core_offset d.message FIRST) memory (gives d).memory) on.same_tables same on.same_memory (size-set d p b y).1)
          (left-good d b.answerable) (left-whole d b.answerable) (file-low c o a);
      then-core-written = λ c d o p a z on done some valid same.
          let w = core-write-reading d.connection d.message done.1.reading d.tables d.memory d.room done.0.good done.0.fit done.2 done.1.is some in
          let through = ap (λ (q : Open). q.file) (same-open done.0.fit.tables-sound valid w.admitted) in
          cut-then-written (size-set c o a z).1
          (moved (λ t file memory. WroteFile t (gives d).tables file (core_offset d.message FIRST) (core_data d.message) memory (gives d).memory) on.same_tables (through ∙ same)
          on.same_memory w.wrote-file)
          (left-good d done.0) (left-whole d done.0) (file-low c o a);
      then-written = λ c d o p a z on done some valid same.
          let w = write-reading d.connection d.message done.1.reading d.tables d.memory d.room done.0.good done.0.fit done.2 done.1.is in
          let through = ap (λ (q : Open). q.file) (same-open done.0.fit.tables-sound valid w.admitted) in
          cut-then-written (size-set c o a z).1
          (moved (λ t file memory. WroteFile t (gives d).tables file (write_from d.message) (write_data d.message) memory (gives d).memory) on.same_tables (through ∙ same)
          on.same_memory (w.wrote-file some))
          (left-good d done.0) (left-whole d done.0) (file-low c o a);
      core-read-back = λ c o from to d valid zeros i few low high.
          let w = core-read-reading c.connection c.message d.1.reading c.tables c.memory c.room d.0.good d.0.fit d.2 d.1.is in
          let through = ap (λ (q : Open). q.file) (same-open d.0.fit.tables-sound valid w.admitted) in
          zero-in-core-reply w (subst (λ (file : ℕ). ZeroFrom c.tables c.memory file from to) (sym through) zeros) i (rw w.count-said at few) low high;
      read_back = λ c o from to d valid zeros i few low high.
          let w = read-reading c.connection c.message d.1.reading c.tables c.memory c.room d.0.good d.0.fit d.2 d.1.is in
          let through = ap (λ (q : Open). q.file) (same-open d.0.fit.tables-sound valid w.admitted) in
          zero-in-reply w (subst (λ (file : ℕ). ZeroFrom c.tables c.memory file from to) (sym through) zeros) i (rw w.length-said at few) low high;
      never = never-shows;
      nor-before = first-never-shows;
    }

pub request-3 : Request3
request-3 =
    record {
      on-the-wire = on-wire;
      stands-alone = standing;
      sent-alone = λ c spans r a x i ends just.
          (core-sent c.message r (not-long c.message a.fit.not-dropped) x i ends just, own-sender c.connection c.message r just x);
      sets-the-size = sizes;
      same-as-counterpart = counterparts;
      rows-gained = record {
        demand = demand-3;
        known = (known-core-read, known-core-write, known-lock, known-unlock);
        room = demand-1.room-suffices;
        longest = λ c command. longest-reply c;
      };
      refusals = record {
        statuses = demand-1.status-for-its-reason;
        unlock-of-nothing = nothing-unlocked;
        cannot-arise = never-arise;
        bad-data-block = λ c a bad. bad-data-block c.connection c.message bad c.tables c.memory c.room a.fit;
      };
      old-bytes-never-show = old-bytes;
    }

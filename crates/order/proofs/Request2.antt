-- Of specs/Request2.antt: what rests on its other theorems. Assumes nothing.
use mathlib.Core.List.{◌∷◌, ◌++◌}
use Rattle.message.specs.Caller.{caller_of}
use Rattle.invariants.specs.ReaderSound.{reader-sound}
use Rattle.demands.proofs.HolderExactlyStated.{holder-exactly}
use Rattle.demands.proofs.HolderExactly.{nobody-exactly}
use Rattle.demands.specs.HolderExactly.{undone-nobody}
use Rattle.demands.proofs.HolderStands.{holder-exact, tables_then}
use Rattle.demands.proofs.HolderOpen.{holder-found}
use Rattle.demands.proofs.HolderBytes.{holder-bytes}
use Rattle.demands.proofs.HolderFirst.{alone-first, first-undone, read_first, write-first, lone-lock-first, core-read-first, core-write-first, set-size-first, core-lock-first}
use Rattle.demands.proofs.HolderWire.{lock-first, lock-own, lock-listed, range-first}
use Rattle.order.proofs.Possible2.{two-answerable, first-refuses}
use Rattle.order.specs.Request2.{Request2, replies-stand-so}

pub request-2 : Request2
unfolding caller_of
request-2 =
    record {
      place-of-the-first = record {
        lock = λ c spans h a r e. lock-first c.connection c.message r c.tables c.memory c.room a.fit e h;
        lone-lock = λ c spans o h a r asks bits valid low.
            lone-lock-first c.connection c.message r c.tables c.memory c.room a.fit h o valid asks.is-locking asks.no-unlock asks.one-lock bits low;
        read = λ c spans o h a r e valid access. read_first c.connection c.message r c.tables c.memory c.room a.fit h o valid e access;
        write = λ c spans o h a r e valid access. write-first c.connection c.message r c.tables c.memory c.room a.fit h o valid e access;
        core-lock = λ c spans h a r e. range-first c.connection c.message r c.tables c.memory c.room a.fit e h;
        core-lone-lock = λ c spans o h a r e valid. core-lock-first c.connection c.message r c.tables c.memory c.room a.fit h o valid e;
        core-read = λ c spans o h a r e valid access. core-read-first c.connection c.message r c.tables c.memory c.room a.fit h o valid e access;
        core-write = λ c spans o h a r e more valid access.
            core-write-first c.connection c.message r c.tables c.memory c.room a.fit h o valid e more access;
        set-size = λ c spans o h a r e none valid access. set-size-first c.connection c.message r c.tables c.memory c.room a.fit h o valid e none access;
        alone = λ c span h a r. alone-first c.connection c.message c.tables c.memory c.room a.fit h r;
      };
      beside-the-reply = record {
        exactly-conflict = λ c. holder-exactly c.connection c.message c.tables c.memory c.room;
        nobody-else = λ c. nobody-exactly c.connection c.message c.tables c.memory c.room;
        not_done = λ c. undone-nobody c.connection c.message c.tables c.memory c.room;
        chain = λ c h a. holder-exact c.connection c.message c.tables c.memory c.room a.good a.fit h;
        begun-on = λ c h a. tables_then c.connection c.message c.tables c.memory c.room a.good a.fit h;
        of-a-reading = λ c h m. reader-sound c.message (m.front ++ (m.command ∷ m.later)) m.read;
        terminal = λ c h good. holder-found c.connection c.message c.tables c.memory c.room good h;
        bytes = λ c h good. holder-bytes c.connection c.message c.tables c.memory c.room good h;
      };
      granted-earlier = record {
        own = λ c spans h a r e. lock-own c.connection c.message r c.tables c.memory c.room a.fit e h;
        listed = λ c spans h a r e. lock-listed c.connection c.message r c.tables c.memory c.room a.fit e h;
        undone = λ c h a. first-undone c.connection c.message c.tables c.memory c.room a.fit h;
        happens = (two-answerable, first-refuses.0, first-refuses.1);
      };
      replies-stand = replies-stand-so;
    }

-- Of specs/CallEffects.antt: what rests on its other theorems. Assumes nothing.
use Rattle.std.specs.Prelude.{◌≡◌, List, [], ◌∷◌, ◌++◌, Some, None as no_link}
use Prim.Native.Nat.{ℕ}
use Rattle.lists.specs.Put.{put}
use Rattle.wire.specs.LittleEndian.{le16_at}
use Rattle.records.specs.declared.Tables.{Tables}
use Rattle.chain.specs.Layout.{FIRST}
use Rattle.chain.specs.Chain.{blocks}
use Rattle.chain.specs.declared.block.WriteFields.{WriteFields}
use Rattle.chain.specs.declared.block.Body.TheVariants.{Write as WriteBody}
use Rattle.chain.specs.declared.block.Block.{Block}
use Rattle.message.specs.Refusal.{status, success}
use Rattle.message.specs.Command.{wrote}
use Rattle.message.specs.Reply.{reply_header, reply_block}
use Rattle.message.specs.Message.{data_of, take-message}
use Rattle.invariants.specs.Sound.{Good}
use Rattle.invariants.specs.Fit.{Fit}
use Rattle.demands.specs.StatusRead.{status_read}
use Rattle.demands.proofs.FileCommandsStated.{write-says}
use Rattle.demands.specs.ReplyBytes.{write-count}
use Rattle.demands.proofs.CallEffects.{the-command, write-call, write-given, write-open}
use Rattle.demands.specs.CallEffects.{call, caller, counted, few-written, long}

module _ (connection : ℕ) (s : List ℕ) (b : Block) (e : blocks s ≡ Some (b ∷ [])) (t : Tables) (memory room : List ℕ) (g : Good t) (fit : Fit s t memory room)
    (z : status_read (take-message connection s t memory room).room ≡ status 0 0) where
  -- "WRITE: 6 words: AndX, count": the reply says the count, none included
  pub write-count-call : (f : WriteFields) → b.body ≡ WriteBody f → le16_at (call connection s b e t memory room g fit z).room 37 ≡ f.count
  write-count-call f is =
      let o = (write-open connection s b e t memory room g fit z) f is in
      let w = write-says (caller connection s b e t memory room g fit z) t memory fit.memory-whole g f (data_of s b) o.0 o.1 ((write-given connection s b e t memory room g fit z) f is) in
      let r : (call connection s b e t memory room g fit z).room ≡ put room 0 (reply_header s success ++ reply_block (wrote f.count) FIRST no_link) = rw w at (the-command connection s b e t memory room g fit z).reply in
      rw r (write-count s (long connection s b e t memory room g fit z) room f.count ((few-written connection s b e t memory room g fit z) f (data_of s b) ((counted connection s b e t memory room g fit z) f is) ((write-call connection s b e t memory room g fit z) f is)))

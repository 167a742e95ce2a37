-- What a message of one command that is done gives and leaves, said of the call (document 01, "Locks, reads and writes" and "Reply blocks"; document 02, CR 3).
-- Assumes nothing.
use Rattle.std.specs.Prelude.{◌≡◌, List, [], ◌∷◌, take, drop, Some}
use Rattle.std.proofs.Common.{sym, ap, ◌∙◌}
use Prim.Native.Nat.{ℕ, ◌+◌, ◌≤◌, ◌<◌}
use native.Mathlib.Omega.{arith}
use Rattle.std.proofs.Math.ListN.{length}
use Rattle.std.proofs.Math.Decide.{ℕ_discrete}
use Rattle.wire.specs.LittleEndian.{le16_at}
use Rattle.records.specs.declared.Open.{Open}
use Rattle.records.specs.declared.Tables.{Tables}
use Rattle.invariants.specs.SoundParts.{sound-says}
use Rattle.chain.specs.Layout.{header_command, FIRST}
use Rattle.chain.specs.Chain.{blocks}
use Rattle.chain.specs.declared.block.ReadFields.{ReadFields}
use Rattle.chain.specs.declared.block.WriteFields.{WriteFields}
use Rattle.chain.specs.declared.block.Body.{Body}
use Rattle.chain.specs.declared.block.Body.TheVariants.{Write as WriteBody, CoreWrite as CoreWriteBody}
use Rattle.chain.specs.declared.block.Block.{Block}
use Rattle.invariants.specs.BlockParse.{block_at}
use Rattle.invariants.specs.Chained.{Chained, chained-end, chained_more, read-chained}
use Rattle.message.specs.Caller.{caller_of}
use Rattle.message.specs.declared.caller.Caller.{Caller}
use Rattle.message.specs.Refusal.{status}
use Rattle.message.specs.Contents.{size_of}
use Rattle.message.specs.Command.{Said, Given, done, perform}
use Rattle.message.specs.JustOpened.{NOBODY}
use Rattle.message.specs.Message.{area_of, data_of, Taken, take-message}
use Rattle.invariants.specs.Sound.{Good, size-most}
use Rattle.invariants.specs.Fit.{Fit, take-message-good}
use Rattle.demands.specs.StatusRead.{status_read}
use Rattle.invariants.specs.JustOpenedLaws.{meant-nobody}
use Rattle.demands.specs.Remembering.{OnlyRemembers}
use Rattle.demands.specs.RefusedCall.{gives}
use Rattle.demands.specs.Admitted.{Admitted}
use Rattle.demands.specs.FileCommands.{Yields, WroteFile, data-counted, core-counted}
use Rattle.demands.specs.DoneCall.{long-enough}
use Rattle.demands.specs.ReplyBytes.{CoreReadBlock}

-- ---- the plain words

-- a WRITE of some bytes through an open that the caller may use
pub record WriteCall (c : Caller) (t : Tables) (f : WriteFields) (bytes memory : List ℕ) (call : Taken) : Type 0 where
  -- the open of that FID, UID and TID
  pub through : Open
  pub admitted : Admitted c t f.fid through
  -- its file has the bytes and the size; every other byte, size and table is as before
  pub wrote-file : WroteFile t call.tables through.file f.offset bytes memory call.memory

-- a READ through an open that the caller may use
pub record ReadCall (c : Caller) (t : Tables) (f : ReadFields) (memory : List ℕ) (call : Taken) : Type 0 where
  -- the open of that FID, UID and TID
  pub through : Open
  pub admitted : Admitted c t f.fid through
  -- "the file's bytes in the range below its size"
  pub bytes : List ℕ
  pub yields : Yields through.file (size_of t through.file) f.offset f.max memory bytes
  -- "the bytes are the data": the reply block stands at 32, and its data 27 bytes behind
  pub in-reply : take (length bytes) (drop 59 call.room) ≡ bytes
  -- "length, data offset": the words in front of them say so
  pub length-said : le16_at call.room 43 ≡ length bytes
  pub offset-said : le16_at call.room 45 ≡ 59
  -- and the reply ends with them
  pub reply-ends : call.length ≡ 59 + length bytes
  -- nothing is changed but what the open remembers
  pub leaves : OnlyRemembers t through memory call

-- a core READ through an open that the caller may use
pub record CoreReadCall (c : Caller) (t : Tables) (f : ReadFields) (memory : List ℕ) (call : Taken) : Type 0 where
  pub through : Open
  pub admitted : Admitted c t f.fid through
  pub bytes : List ℕ
  pub yields : Yields through.file (size_of t through.file) f.offset f.max memory bytes
  -- they stand in its reply block, and the reply ends with them
  pub in-reply : CoreReadBlock bytes call.room
  pub reply-ends : call.length ≡ 48 + length bytes
  pub leaves : OnlyRemembers t through memory call

-- ---- the command behind them

-- a WRITE's data is as long as its count
one-counted : {s : List ℕ} {command at : ℕ} {b : Block} → Chained s command at (b ∷ []) → (f : WriteFields) → b.body ≡ WriteBody f → length (data_of s b) ≡ f.count
unfolding block_at
one-counted (chained-end h l) f same = data-counted h _ f same
one-counted (chained_more h l rest) f same = elim rest [ ]

one-filled : {s : List ℕ} {command at : ℕ} {b : Block} → Chained s command at (b ∷ []) → (f : WriteFields) → b.body ≡ CoreWriteBody f → length (drop 3 (area_of s b)) ≡ f.count
unfolding block_at
one-filled (chained-end h l) f same = core-counted h _ f same
one-filled (chained_more h l rest) f same = elim rest [ ]

-- what the command of a known body gives
pub gives-body : (c : Caller) (s : List ℕ) (b : Block) (t : Tables) (memory : List ℕ) (body : Body) {g : Given} → b.body ≡ body → gives c s NOBODY b t memory ≡ g
    → perform c t memory body (area_of s b) (data_of s b) ≡ g
gives-body c s b t memory body is e = ap (λ (x : Body). perform c t memory x (area_of s b) (data_of s b)) (sym is ∙ sym (meant-nobody b.body)) ∙ e

-- what is left by a removal that is done
pub removed : (P : Tables → Type 0) {after u : Tables} {memory m : List ℕ} {x y : Said} → P after → done after memory x ≡ done u m y → P u × (m ≡ memory)
removed P {after} {u} {memory} {m} p e = let a : after ≡ u = cc in let b : m ≡ memory = cc in (rw (← a) p, b)

-- ---- a message of one command, fit to be answered, on good tables, whose reply's Status is 0/0

module _ (connection : ℕ) (s : List ℕ) (b : Block) (e : blocks s ≡ Some (b ∷ [])) (t : Tables) (memory room : List ℕ) (g : Good t) (fit : Fit s t memory room)
    (z : status_read (take-message connection s t memory room).room ≡ status 0 0) where
  abbrev pub caller : Caller
  caller = caller_of connection s

  abbrev pub call : Taken
  call = take-message connection s t memory room

  pub long : 32 ≤ length s
  long = long-enough s fit.not-dropped

  -- ---- WRITE

  pub counted : (f : WriteFields) → b.body ≡ WriteBody f → length (data_of s b) ≡ f.count
  unfolding blocks
  counted f is = one-counted (read-chained s (header_command s) FIRST (b ∷ []) e) f is

  -- a count that was written is no more than a file's size
  pub few-written : (f : WriteFields) (bytes : List ℕ) → length bytes ≡ f.count → (1 ≤ f.count → WriteCall caller t f bytes memory call) → f.count < 65536
  few-written f bytes long wrote-some =
      elim (ℕ_discrete f.count 0) [
        | yes none ↦ omega arith
        | no n ↦
            let w = wrote-some (omega arith) in
            let after = take-message-good connection s t memory room g in
            let most : size_of call.tables w.through.file ≤ 4096 = size-most call.tables w.through.file (sound-says call.tables after.sound) in
            let size = w.wrote-file.size in
            omega arith
      ]

  -- ---- READ

  -- ---- the core READ and WRITE (document 02, CR 3)

  pub core-filled : (f : WriteFields) → b.body ≡ CoreWriteBody f → length (drop 3 (area_of s b)) ≡ f.count
  unfolding blocks
  core-filled f is = one-filled (read-chained s (header_command s) FIRST (b ∷ []) e) f is
  -- ---- the removals

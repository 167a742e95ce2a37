-- Of specs/CallEffects.antt: what rests on its other theorems. Assumes nothing.
use Rattle.std.specs.Prelude.{◌≡◌, List, [], ◌∷◌, ◌++◌, drop, Some, None as no_link}
use Rattle.std.proofs.Common.{◌∙◌, eq-eqb, ne_eqb}
use Prim.Native.Nat.{ℕ, min, ◌+◌, ◌-◌, ◌≤◌, ◌<◌}
use native.Mathlib.Omega.{arith}
use Rattle.std.proofs.Math.ListN.{length}
use Rattle.std.proofs.Math.Decide.{ℕ_discrete}
use Rattle.lists.specs.Put.{put}
use Rattle.records.specs.declared.Open.{Open}
use Rattle.records.specs.declared.Tables.{Tables}
use Rattle.removal.specs.Removal.{remove}
use Rattle.removal.specs.declared.Gone.TheVariants.{Session as UserGone, Tree as TreeGone, Open as OpenGone, Process as ProcessGone}
use Rattle.claims.specs.RemovalPlain.{Closed, Disconnected, LoggedOff, Exited}
use Rattle.claims.proofs.RemovalPlain.{close-plain, disconnect-plain, logoff-plain, exit_plain}
use Rattle.invariants.specs.SoundParts.{sound-says}
use Rattle.chain.specs.Layout.{FIRST}
use Rattle.chain.specs.Chain.{blocks}
use Rattle.chain.specs.declared.block.ReadFields.{ReadFields}
use Rattle.chain.specs.declared.block.WriteFields.{WriteFields}
use Rattle.chain.specs.declared.block.Body.TheVariants.{Read as ReadBody, Write as WriteBody, Close, Logoff, TreeDisconnect, ProcessExit, CoreRead as CoreReadBody, CoreWrite as CoreWriteBody}
use Rattle.chain.specs.declared.block.Block.{Block}
use Rattle.message.specs.Refusal.{status, success}
use Rattle.message.specs.Contents.{size_of, read_bytes}
use Rattle.message.specs.Command.{read, plain, logged_off, core_read, core_wrote, done, do_read, do_write, as_core, do_set_size, do_core_write, perform}
use Rattle.message.specs.Reply.{reply_header, reply_block, reply_size}
use Rattle.message.specs.Message.{area_of, data_of, take-message}
use Rattle.invariants.specs.Sound.{Good, size-most}
use Rattle.invariants.specs.Fit.{Fit}
use Rattle.demands.specs.StatusRead.{status_read}
use Rattle.demands.specs.Remembering.{only-remembers}
use Rattle.demands.specs.RefusedCall.{Untouched}
use Rattle.demands.specs.Admitted.{Admitted}
use Rattle.demands.specs.FileCommands.{as_core_lem}
use Rattle.demands.proofs.FileCommands.{read_left, read-yields, write-leaves, write-nothing, core-read-left, core-read-yields}
use Rattle.demands.proofs.FileCommandsRest.{core-write-leaves, core-write-says}
use Rattle.demands.specs.DoneCall.{Carried}
use Rattle.demands.proofs.DoneCall.{carried, past-session, past-tree, past_open}
use Rattle.demands.specs.ReplyBytes.{CoreWriteBlock, read-data, read_length, read-offset, core-read-block, core-write-block}
use Rattle.demands.specs.CallEffects.{CoreReadCall, ReadCall, WriteCall, call, caller, core-filled, counted, few-written, gives-body, long, removed}

module _ (connection : ℕ) (s : List ℕ) (b : Block) (e : blocks s ≡ Some (b ∷ [])) (t : Tables) (memory room : List ℕ) (g : Good t) (fit : Fit s t memory room)
    (z : status_read (take-message connection s t memory room).room ≡ status 0 0) where
  pub the-command : Carried (caller connection s b e t memory room g fit z) s b t memory room (call connection s b e t memory room g fit z)
  the-command = carried connection s b e t memory room fit z

  pub write-given : (f : WriteFields) → b.body ≡ WriteBody f → do_write (caller connection s b e t memory room g fit z) t memory f (data_of s b) ≡ done (call connection s b e t memory room g fit z).tables (call connection s b e t memory room g fit z).memory the-command.said
  unfolding perform
  write-given f is = gives-body (caller connection s b e t memory room g fit z) s b t memory (WriteBody f) is the-command.given

  pub write-open : (f : WriteFields) → b.body ≡ WriteBody f → (o : Open) × Admitted (caller connection s b e t memory room g fit z) t f.fid o
  unfolding do_write
  write-open f is = let o = past_open (caller connection s b e t memory room g fit z) t f.fid _ (write-given f is) in (o.0, o.1)

  -- "Bytes between the old size and the write become 0, and a size below the write's end becomes that end"
  pub write-call : (f : WriteFields) → b.body ≡ WriteBody f → 1 ≤ f.count → WriteCall (caller connection s b e t memory room g fit z) t f (data_of s b) memory (call connection s b e t memory room g fit z)
  write-call f is some_bytes =
      let o = write-open f is in
      let w = write-leaves (caller connection s b e t memory room g fit z) t memory fit.memory-whole g f (data_of s b) o.0 o.1 ((counted connection s b e t memory room g fit z) f is) some_bytes (write-given f is) in
      record { through = o.0; admitted = o.1; wrote-file = w }

  -- "Length 0 writes nothing, changes no size"
  pub write-none-call : (f : WriteFields) → b.body ≡ WriteBody f → f.count ≡ 0 → Untouched t memory (call connection s b e t memory room g fit z)
  write-none-call f is none =
      let o = write-open f is in
      let w = write-nothing (caller connection s b e t memory room g fit z) t memory fit.memory-whole g f (data_of s b) o.0 o.1 ((counted connection s b e t memory room g fit z) f is) none (write-given f is) in
      record { same_tables = w.0; same_memory = w.1 }

  pub read-given : (f : ReadFields) → b.body ≡ ReadBody f → do_read (caller connection s b e t memory room g fit z) t memory f ≡ done (call connection s b e t memory room g fit z).tables (call connection s b e t memory room g fit z).memory the-command.said
  unfolding perform
  read-given f is = gives-body (caller connection s b e t memory room g fit z) s b t memory (ReadBody f) is the-command.given

  pub read-open : (f : ReadFields) → b.body ≡ ReadBody f → (o : Open) × Admitted (caller connection s b e t memory room g fit z) t f.fid o
  unfolding do_read
  read-open f is = let o = past_open (caller connection s b e t memory room g fit z) t f.fid _ (read-given f is) in (o.0, o.1)

  -- "It yields the file's bytes in the range below its size": they stand in the reply
  pub read-call : (f : ReadFields) → b.body ≡ ReadBody f → ReadCall (caller connection s b e t memory room g fit z) t f memory (call connection s b e t memory room g fit z)
  unfolding reply_size
  read-call f is =
      let o = read-open f is in
      let l = read_left (caller connection s b e t memory room g fit z) t memory fit.memory-whole g f o.0 o.1 (read-given f is) in
      let bytes = read_bytes t memory o.0.file f.offset f.max in
      let d : do_read (caller connection s b e t memory room g fit z) t memory f ≡ done (call connection s b e t memory room g fit z).tables (call connection s b e t memory room g fit z).memory (read bytes) = rw l.2 at (read-given f is) in
      let y = read-yields (caller connection s b e t memory room g fit z) t memory fit.memory-whole g f o.0 o.1 bytes d in
      let r : (call connection s b e t memory room g fit z).room ≡ put room 0 (reply_header s success ++ reply_block (read bytes) FIRST no_link) = rw l.2 at the-command.reply in
      let ends : (call connection s b e t memory room g fit z).length ≡ 32 + (27 + length bytes) = rw l.2 at the-command.reply-length in
      let most : size_of t o.0.file ≤ 4096 = size-most t o.0.file (sound-says t g.sound) in
      let n : length bytes ≡ min f.max (size_of t o.0.file - f.offset) = y.so-many in
      let few : length bytes < 65536 = omega arith in
      record {
        through = o.0;
        admitted = o.1;
        bytes = bytes;
        yields = y;
        in-reply = rw r (read-data s (long connection s b e t memory room g fit z) room bytes);
        length-said = rw r (read_length s (long connection s b e t memory room g fit z) room bytes few);
        offset-said = rw r (read-offset s (long connection s b e t memory room g fit z) room bytes);
        reply-ends = ends ∙ (let n : 32 + (27 + length bytes) ≡ 59 + length bytes = omega arith in n);
        leaves = only-remembers t o.0 memory (call connection s b e t memory room g fit z) o.1.opened.listed o.1.opened.of-fid l.0 l.1;
      }

  pub core-read-given : (f : ReadFields) → b.body ≡ CoreReadBody f → as_core (do_read (caller connection s b e t memory room g fit z) t memory f) ≡ done (call connection s b e t memory room g fit z).tables (call connection s b e t memory room g fit z).memory the-command.said
  unfolding perform
  core-read-given f is = gives-body (caller connection s b e t memory room g fit z) s b t memory (CoreReadBody f) is the-command.given

  -- "the rules of their AndX counterparts": the bytes of a READ, in the core READ's block
  pub core-read-call : (f : ReadFields) → b.body ≡ CoreReadBody f → CoreReadCall (caller connection s b e t memory room g fit z) t f memory (call connection s b e t memory room g fit z)
  unfolding do_read reply_size
  core-read-call f is =
      let o = past_open (caller connection s b e t memory room g fit z) t f.fid _ (as_core_lem (do_read (caller connection s b e t memory room g fit z) t memory f) (core-read-given f is)).1 in
      let l = core-read-left (caller connection s b e t memory room g fit z) t memory fit.memory-whole g f o.0 o.1 (core-read-given f is) in
      let bytes = read_bytes t memory o.0.file f.offset f.max in
      let d : as_core (do_read (caller connection s b e t memory room g fit z) t memory f) ≡ done (call connection s b e t memory room g fit z).tables (call connection s b e t memory room g fit z).memory (core_read bytes) = rw l.2 at (core-read-given f is) in
      let y = core-read-yields (caller connection s b e t memory room g fit z) t memory fit.memory-whole g f o.0 o.1 bytes d in
      let r : (call connection s b e t memory room g fit z).room ≡ put room 0 (reply_header s success ++ reply_block (core_read bytes) FIRST no_link) = rw l.2 at the-command.reply in
      let ends : (call connection s b e t memory room g fit z).length ≡ 32 + (16 + length bytes) = rw l.2 at the-command.reply-length in
      let most : size_of t o.0.file ≤ 4096 = size-most t o.0.file (sound-says t g.sound) in
      let n : length bytes ≡ min f.max (size_of t o.0.file - f.offset) = y.so-many in
      let few : length bytes < 65533 = omega arith in
      record {
        through = o.0;
        admitted = o.1;
        bytes = bytes;
        yields = y;
        in-reply = rw r (core-read-block s (long connection s b e t memory room g fit z) room bytes few);
        reply-ends = ends ∙ (let n : 32 + (16 + length bytes) ≡ 48 + length bytes = omega arith in n);
        leaves = only-remembers t o.0 memory (call connection s b e t memory room g fit z) o.1.opened.listed o.1.opened.of-fid l.0 l.1;
      }

  pub core-write-done : (f : WriteFields) → b.body ≡ CoreWriteBody f
      → do_core_write (caller connection s b e t memory room g fit z) t memory f (drop 3 (area_of s b)) ≡ done (call connection s b e t memory room g fit z).tables (call connection s b e t memory room g fit z).memory the-command.said
  unfolding perform
  core-write-done f is = gives-body (caller connection s b e t memory room g fit z) s b t memory (CoreWriteBody f) is the-command.given

  pub core-write-open : (f : WriteFields) → b.body ≡ CoreWriteBody f → (o : Open) × Admitted (caller connection s b e t memory room g fit z) t f.fid o
  unfolding do_core_write do_set_size do_write
  core-write-open f is =
      elim (ℕ_discrete f.count 0) [
        | yes none ↦ let o = past_open (caller connection s b e t memory room g fit z) t f.fid _ (rw (eq-eqb f.count 0 none) at (core-write-done f is)) in (o.0, o.1)
        | no n ↦
            let some_bytes = as_core_lem (do_write (caller connection s b e t memory room g fit z) t memory f (drop 3 (area_of s b))) (rw (ne_eqb f.count 0 n) at (core-write-done f is)) in
            let o = past_open (caller connection s b e t memory room g fit z) t f.fid _ some_bytes.1 in
            (o.0, o.1)
      ]

  -- some bytes, which stand behind the mark and the length of the data block; count 0 is SetSize.antt
  pub core-write-call : (f : WriteFields) → b.body ≡ CoreWriteBody f → 1 ≤ f.count → WriteCall (caller connection s b e t memory room g fit z) t f (drop 3 (area_of s b)) memory (call connection s b e t memory room g fit z)
  core-write-call f is some_bytes =
      let o = core-write-open f is in
      let w = core-write-leaves (caller connection s b e t memory room g fit z) t memory fit.memory-whole g f (drop 3 (area_of s b)) o.0 o.1 ((core-filled connection s b e t memory room g fit z) f is) some_bytes (core-write-done f is) in
      record { through = o.0; admitted = o.1; wrote-file = w }

  -- its reply says the count, 0 included
  pub core-write-reply : (f : WriteFields) → b.body ≡ CoreWriteBody f → CoreWriteBlock f.count (call connection s b e t memory room g fit z).room × ((call connection s b e t memory room g fit z).length ≡ 37)
  unfolding reply_size
  core-write-reply f is =
      let o = core-write-open f is in
      let w = core-write-says (caller connection s b e t memory room g fit z) t memory fit.memory-whole g f (drop 3 (area_of s b)) o.0 o.1 (core-write-done f is) in
      let r : (call connection s b e t memory room g fit z).room ≡ put room 0 (reply_header s success ++ reply_block (core_wrote f.count) FIRST no_link) = rw w at the-command.reply in
      (rw r (core-write-block s (long connection s b e t memory room g fit z) room f.count ((few-written connection s b e t memory room g fit z) f (drop 3 (area_of s b)) ((core-filled connection s b e t memory room g fit z) f is) (core-write-call f is))), rw w at the-command.reply-length)

  -- "CLOSE removes the open and its locks"
  pub close-call : (fid : ℕ) → b.body ≡ Close fid → Closed fid t (call connection s b e t memory room g fit z).tables × ((call connection s b e t memory room g fit z).memory ≡ memory)
  unfolding perform
  close-call fid is =
      let o = past_open (caller connection s b e t memory room g fit z) t fid (λ o. done (remove (OpenGone fid) t) memory plain) (gives-body (caller connection s b e t memory room g fit z) s b t memory (Close fid) is the-command.given) in
      removed (Closed fid t) (close-plain t g.sound fid) o.2

  -- "TREE_DISCONNECT removes the tree and its opens"
  pub disconnect-call : b.body ≡ TreeDisconnect → Disconnected (caller connection s b e t memory room g fit z).tid t (call connection s b e t memory room g fit z).tables × ((call connection s b e t memory room g fit z).memory ≡ memory)
  unfolding perform
  disconnect-call is =
      removed (Disconnected (caller connection s b e t memory room g fit z).tid t) (disconnect-plain t g.sound (caller connection s b e t memory room g fit z).tid)
      (past-tree (caller connection s b e t memory room g fit z) t (done (remove (TreeGone (caller connection s b e t memory room g fit z).tid) t) memory plain) (gives-body (caller connection s b e t memory room g fit z) s b t memory TreeDisconnect is the-command.given))

  -- "LOGOFF the session and its trees"
  pub logoff-call : b.body ≡ Logoff → LoggedOff (caller connection s b e t memory room g fit z).uid t (call connection s b e t memory room g fit z).tables × ((call connection s b e t memory room g fit z).memory ≡ memory)
  unfolding perform
  logoff-call is =
      removed (LoggedOff (caller connection s b e t memory room g fit z).uid t) (logoff-plain t g.sound (caller connection s b e t memory room g fit z).uid)
      (past-session (caller connection s b e t memory room g fit z) t (done (remove (UserGone (caller connection s b e t memory room g fit z).uid) t) memory logged_off) (gives-body (caller connection s b e t memory room g fit z) s b t memory Logoff is the-command.given))

  -- "PROCESS_EXIT the opens of that UID and process"
  pub exit-call : b.body ≡ ProcessExit → Exited (caller connection s b e t memory room g fit z).uid (caller connection s b e t memory room g fit z).process t (call connection s b e t memory room g fit z).tables × ((call connection s b e t memory room g fit z).memory ≡ memory)
  unfolding perform
  exit-call is =
      removed (Exited (caller connection s b e t memory room g fit z).uid (caller connection s b e t memory room g fit z).process t) (exit_plain t g.sound (caller connection s b e t memory room g fit z).uid (caller connection s b e t memory room g fit z).process)
      (past-session (caller connection s b e t memory room g fit z) t (done (remove (ProcessGone (caller connection s b e t memory room g fit z).uid (caller connection s b e t memory room g fit z).process) t) memory plain) (gives-body (caller connection s b e t memory room g fit z) s b t memory ProcessExit is the-command.given))

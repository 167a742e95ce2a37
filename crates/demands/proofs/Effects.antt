-- Of specs/Effects.antt: what rests on its other theorems. Assumes nothing.
use Rattle.std.specs.Prelude.{◌≡◌, ℕ, ◌≤◌, ◌<◌}
use Rattle.std.proofs.Math.Path.{sym, ap}
use Rattle.std.proofs.Common.{◌∙◌}
use native.Mathlib.Omega.{arith}
use mathlib.Core.List.{List, [], ◌∷◌}
use Rattle.std.proofs.Math.ListN.{length, drop, get_or}
use Rattle.std.proofs.Math.Seq.{get_or-take, get_or-drop}
use Rattle.wire.specs.LittleEndian.{le16_at}
use Rattle.records.specs.declared.Tables.{Tables}
use Rattle.claims.specs.RemovalPlain.{Disconnected, LoggedOff}
use Rattle.chain.specs.Layout.{READ, WRITE, TREE_DISCONNECT, LOGOFF, CORE-READ, CORE-WRITE, header_command, FIRST, data_length, data_offset, core_count, marked_data}
use Rattle.chain.specs.Grammar.{Span, Reading}
use Rattle.chain.specs.Parse.{wide_offset}
use Rattle.chain.specs.declared.block.Body.TheVariants.{Write as WriteBody, CoreWrite as CoreWriteBody}
use Rattle.invariants.specs.BlockParse.{body_at}
use Rattle.invariants.specs.Sound.{Good}
use Rattle.invariants.specs.Fit.{Fit}
use Rattle.message.specs.Caller.{caller_of}
use Rattle.message.specs.Refusal.{status}
use Rattle.message.specs.Message.{area_of, data_of, take-message}
use Rattle.demands.specs.StatusRead.{status_read}
use Rattle.demands.specs.FileCommands.{WroteFile}
use Rattle.demands.proofs.FileCommands.{write-leaves, write-nothing}
use Rattle.demands.specs.CallEffects.{ReadCall, CoreReadCall, counted, core-filled}
use Rattle.demands.proofs.CallEffects.{read-call, write-given, write-open, core-read-call, core-write-call, core-write-reply, disconnect-call, logoff-call}
use Rattle.demands.proofs.CallEffectsStated.{write-count-call}
use Rattle.demands.specs.WireFields.{read_fields, write_from, write_fields, write_data, core_read_fields, core_write_fields, core_data, first_body, first-data, first-core-data}
use Rattle.demands.specs.Effects.{CoreReadDone, CoreWriteDone, ReadDone, WriteDone, call, only}

module _ (connection : ℕ) (s : List ℕ) {span : Span} (r : Reading s (span ∷ [])) (t : Tables) (memory room : List ℕ) (g : Good t) (fit : Fit s t memory room)
    (z : status_read (take-message connection s t memory room).room ≡ status 0 0) where
  -- "It yields the file's bytes in the range below its size"
  pub read-reading : header_command s ≡ READ → ReadDone connection s t memory (call connection s r t memory room g fit z)
  unfolding body_at wide_offset
  read-reading e =
      let d : ReadCall (caller_of connection s) t (read_fields s) memory (call connection s r t memory room g fit z) =
      read-call connection s (only connection s r t memory room g fit z).block (only connection s r t memory room g fit z).is_read t memory room g fit z (read_fields s) (first_body (only connection s r t memory room g fit z) READ e) in
      let bytes = d.bytes in
      record {
        through = d.through;
        admitted = d.admitted;
        count = length bytes;
        so-many = d.yields.so-many;
        which = λ i h.
            sym (get_or-take (length bytes) (drop 59 (call connection s r t memory room g fit z).room) i 0 h ∙ get_or-drop 59 (call connection s r t memory room g fit z).room i 0)
            ∙ ap (λ (l : List ℕ). get_or l i 0) d.in-reply
            ∙ d.yields.which i h;
        length-said = d.length-said;
        offset-said = d.offset-said;
        reply-ends = d.reply-ends;
        leaves = d.leaves;
      }

  -- "Bytes between the old size and the write become 0, and a size below the write's end becomes that end"
  pub write-reading : header_command s ≡ WRITE → WriteDone connection s t memory (call connection s r t memory room g fit z)
  unfolding body_at wide_offset
  write-reading e =
      let b = (only connection s r t memory room g fit z).block in
      let is : b.body ≡ WriteBody (write_fields s) = first_body (only connection s r t memory room g fit z) WRITE e in
      let same : data_of s b ≡ write_data s = first-data (only connection s r t memory room g fit z) in
      let long = rw same at (counted connection s b (only connection s r t memory room g fit z).is_read t memory room g fit z (write_fields s) is) in
      let o = write-open connection s b (only connection s r t memory room g fit z).is_read t memory room g fit z (write_fields s) is in
      let given = rw same at (write-given connection s b (only connection s r t memory room g fit z).is_read t memory room g fit z (write_fields s) is) in
      let some_bytes : 1 ≤ data_length s FIRST → WroteFile t (call connection s r t memory room g fit z).tables o.0.file (write_from s) (write_data s) memory (call connection s r t memory room g fit z).memory =
      λ n. write-leaves (caller_of connection s) t memory fit.memory-whole g (write_fields s) (write_data s) o.0 o.1 long n given in
      record {
        through = o.0;
        admitted = o.1;
        so-many = long;
        wrote-file = some_bytes;
        which = λ i h.
            (some_bytes (let n : 1 ≤ data_length s FIRST = omega arith in n)).bytes_left.the-bytes i (let n : i < length (write_data s) = omega arith in n)
            ∙ get_or-take (data_length s FIRST) (drop (data_offset s FIRST) s) i 0 h
            ∙ get_or-drop (data_offset s FIRST) s i 0;
        wrote_none = λ n.
            let w = write-nothing (caller_of connection s) t memory fit.memory-whole g (write_fields s) (write_data s) o.0 o.1 long n given in
            record { same_tables = w.0; same_memory = w.1 };
        count-said = write-count-call connection s b (only connection s r t memory room g fit z).is_read t memory room g fit z (write_fields s) is;
      }

  -- "the rules of their AndX counterparts"
  pub core-read-reading : header_command s ≡ CORE-READ → CoreReadDone connection s t memory (call connection s r t memory room g fit z)
  unfolding body_at
  core-read-reading e =
      let d : CoreReadCall (caller_of connection s) t (core_read_fields s) memory (call connection s r t memory room g fit z) =
      core-read-call connection s (only connection s r t memory room g fit z).block (only connection s r t memory room g fit z).is_read t memory room g fit z (core_read_fields s) (first_body (only connection s r t memory room g fit z) CORE-READ e) in
      let bytes = d.bytes in
      let held = d.in-reply in
      record {
        through = d.through;
        admitted = d.admitted;
        count = length bytes;
        so-many = d.yields.so-many;
        which = λ i h.
            sym (get_or-take (length bytes) (drop 48 (call connection s r t memory room g fit z).room) i 0 h ∙ get_or-drop 48 (call connection s r t memory room g fit z).room i 0)
            ∙ ap (λ (l : List ℕ). get_or l i 0) held.the_data
            ∙ d.yields.which i h;
        words = held.words;
        count-said = held.count;
        zeros = held.zeros;
        byte-count = held.byte-count;
        mark = held.mark;
        length-said = held.data-length;
        reply-ends = d.reply-ends;
        leaves = d.leaves;
      }

  pub core-write-reading : header_command s ≡ CORE-WRITE → 1 ≤ core_count s FIRST → CoreWriteDone connection s t memory (call connection s r t memory room g fit z)
  unfolding body_at
  core-write-reading e some_bytes =
      let b = (only connection s r t memory room g fit z).block in
      let f = core_write_fields s in
      let is : b.body ≡ CoreWriteBody f = first_body (only connection s r t memory room g fit z) CORE-WRITE e in
      let filled = core-filled connection s b (only connection s r t memory room g fit z).is_read t memory room g fit z f is in
      let same : drop 3 (area_of s b) ≡ core_data s = first-core-data (only connection s r t memory room g fit z) filled in
      let long : length (core_data s) ≡ core_count s FIRST = rw same at filled in
      let d = rw same at (core-write-call connection s b (only connection s r t memory room g fit z).is_read t memory room g fit z f is some_bytes) in
      let said = core-write-reply connection s b (only connection s r t memory room g fit z).is_read t memory room g fit z f is in
      record {
        through = d.through;
        admitted = d.admitted;
        so-many = long;
        wrote-file = d.wrote-file;
        which = λ i h.
            d.wrote-file.bytes_left.the-bytes i (let n : i < length (core_data s) = omega arith in n)
            ∙ get_or-take (core_count s FIRST) (drop (marked_data s FIRST) s) i 0 h
            ∙ get_or-drop (marked_data s FIRST) s i 0;
        reply = said.0;
        reply-ends = said.1;
      }

  -- "TREE_DISCONNECT removes the tree and its opens": TID stands at 24
  pub disconnect-reading : header_command s ≡ TREE_DISCONNECT → Disconnected (le16_at s 24) t (call connection s r t memory room g fit z).tables × ((call connection s r t memory room g fit z).memory ≡ memory)
  unfolding body_at caller_of
  disconnect-reading e = disconnect-call connection s (only connection s r t memory room g fit z).block (only connection s r t memory room g fit z).is_read t memory room g fit z (first_body (only connection s r t memory room g fit z) TREE_DISCONNECT e)

  -- "LOGOFF the session and its trees": UID at 28
  pub logoff-reading : header_command s ≡ LOGOFF → LoggedOff (le16_at s 28) t (call connection s r t memory room g fit z).tables × ((call connection s r t memory room g fit z).memory ≡ memory)
  unfolding body_at caller_of
  logoff-reading e = logoff-call connection s (only connection s r t memory room g fit z).block (only connection s r t memory room g fit z).is_read t memory room g fit z (first_body (only connection s r t memory room g fit z) LOGOFF e)

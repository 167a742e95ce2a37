-- Of specs/FileCommands.antt: what rests on its other theorems. Assumes nothing.
use Rattle.std.specs.Prelude.{◌≡◌, ℕ, max, ◌+◌, ◌≤◌, Bool, false, List, length, get_or, eqb, ltb}
use Rattle.std.proofs.Common.{sym, ◌∙◌, arith, ltb-false}
use Rattle.std.proofs.Math.Path.{ap}
use Rattle.records.specs.declared.Open.{Open}
use Rattle.records.specs.declared.Tables.{Tables}
use Rattle.records.specs.Change.{changes_of, with_read}
use Rattle.records.specs.Empty.{no_open}
use Rattle.records.specs.Held.{opens_of}
use Rattle.locks.specs.declared.types.Ask.{Ask}
use Rattle.claims.proofs.SoundPlain.{sound-plain}
use Rattle.chain.specs.declared.block.ReadFields.{ReadFields}
use Rattle.chain.specs.declared.block.WriteFields.{WriteFields}
use Rattle.message.specs.declared.caller.Caller.{Caller}
use Rattle.message.specs.declared.refusal.Refusal.TheVariants.{NoAccess, NoSpace}
use Rattle.message.specs.Contents.{size_of, read_bytes, grown, written, resized, sized_to}
use Rattle.message.specs.Command.{Given, Said, done, read, wrote, core_read, core_wrote, do_read, writing, ends_past, do_write, core_said, as_core, do_set_size}
use Rattle.invariants.specs.Sound.{Good}
use Rattle.demands.specs.MemorySize.{write-ends}
use Rattle.demands.specs.Admitted.{Admitted, with-open}
use Rattle.demands.proofs.Admitted.{admitted-may}
use Rattle.demands.specs.FileBytes.{read_length, read_byte, resized-size, resized-number, resized-others, resized-records, written-nothing, resized-nothing}
use Rattle.demands.proofs.FileBytes.{written-bytes}
use Rattle.demands.specs.FileCommands.{WroteFile, Yields, as_core_lem, catalogue-kept, not-barred, not-refused, same_bytes}

module _ (c : Caller) (t : Tables) (memory : List ℕ) (full : length memory ≡ 65536) (g : Good t) {u : Tables} {m : List ℕ} where
  -- of the tables it leaves all but what its open remembers (document 02, CR 8), and the files; it says the bytes that it read through the open's file
  pub read_left : {said : Said} (f : ReadFields) (o : Open) → Admitted c t f.fid o → do_read c t memory f ≡ done u m said
      → (u ≡ with_read t f.fid (changes_of t o.file)) × (m ≡ memory) × (said ≡ read (read_bytes t memory o.file f.offset f.max))
  unfolding do_read
  read_left {said} f o a e =
      let w = admitted-may c t f.fid g.sound o a in
      let h = not-refused (eqb (get_or (opens_of t) w.0 no_open).access 1) NoAccess _ (sym (with-open c t f.fid w.0 _ w.1) ∙ e) in
      let d : done (with_read t f.fid (changes_of t (get_or (opens_of t) w.0 no_open).file)) memory (read (read_bytes t memory (get_or (opens_of t) w.0 no_open).file f.offset f.max)) ≡ done u m said =
      not-barred t _ _ h.1 in
      let d' : done (with_read t f.fid (changes_of t o.file)) memory (read (read_bytes t memory o.file f.offset f.max)) ≡ done u m said = rw w.2 at d in
      (cc, cc, cc)

  -- and these are the file's bytes in the range
  pub read-yields : (f : ReadFields) (o : Open) → Admitted c t f.fid o → (bytes : List ℕ) → do_read c t memory f ≡ done u m (read bytes)
      → Yields o.file (size_of t o.file) f.offset f.max memory bytes
  read-yields f o a bytes e =
      let d = same_bytes (read_left f o a e).2 in
      let low : o.file ≤ 15 = ((sound-plain t).0 g.sound).files o a.opened.listed in
      rw d (record { so-many = read_length t memory o.file f.offset g.sound full low f.max; which = read_byte t memory o.file f.offset g.sound full low f.max })

  -- whatever it asks of the locks and leaves: it ends inside the file's room and leaves that through the open
  pub writing-left : {said : Said} (fid : ℕ) (ask : Open → Ask) (past : Bool) (next : Open → Given) (o : Open) → Admitted c t fid o → writing c t fid ask past next ≡ done u m said
      → (past ≡ false) × (next o ≡ done u m said)
  writing-left fid ask past next o a e =
      let w = admitted-may c t fid g.sound o a in
      let h = not-refused (eqb (get_or (opens_of t) w.0 no_open).access 0) NoAccess _ (sym (with-open c t fid w.0 _ w.1) ∙ e) in
      let s = not-refused past NoSpace _ (not-barred t _ _ h.1) in
      (s.0, rw w.2 at s.1)

  -- it leaves what the definitions say of the open's file, inside the file's room, and says the count
  pub write-left : {said : Said} (f : WriteFields) (bytes : List ℕ) (o : Open) → Admitted c t f.fid o → do_write c t memory f bytes ≡ done u m said
      → (ends_past f.offset f.count ≡ false) × (u ≡ resized t o.file f.offset f.count) × (m ≡ written t memory o.file f.offset bytes) × (said ≡ wrote f.count)
  unfolding do_write
  write-left f bytes o a e = let s = writing-left f.fid _ (ends_past f.offset f.count) _ o a e in let d = s.1 in (s.0, cc, cc, cc)

  -- a write of some bytes; what it says is `write-says`
  pub write-leaves : {said : Said} (f : WriteFields) (bytes : List ℕ) (o : Open) → Admitted c t f.fid o → length bytes ≡ f.count → 1 ≤ f.count
      → do_write c t memory f bytes ≡ done u m said → WroteFile t u o.file f.offset bytes memory m
  write-leaves f bytes o a n some_bytes e =
      let w = write-left f bytes o a e in
      let low : o.file ≤ 15 = ((sound-plain t).0 g.sound).files o a.opened.listed in
      let ends : f.offset + f.count ≤ 4096 = write-ends f.offset f.count w.0 (λ z. omega arith) in
      rw (w.1, w.2)
      (record {
        bytes_left = written-bytes t memory o.file f.offset g.sound full low bytes (omega arith) (omega arith);
        size = resized-size t o.file f.offset f.count some_bytes g.shaped low ∙ ap (λ (k : ℕ). max (size_of t o.file) (f.offset + k)) (sym n);
        number = resized-number t o.file f.offset f.count some_bytes g.shaped low;
        other-files = resized-others t o.file f.offset f.count some_bytes;
        other-tables = resized-records t o.file f.offset f.count some_bytes;
        catalogue = catalogue-kept t _ (resized-records t o.file f.offset f.count some_bytes);
      })

  -- "Length 0 writes nothing, changes no size"; what it says is `write-says`
  pub write-nothing : {said : Said} (f : WriteFields) (bytes : List ℕ) (o : Open) → Admitted c t f.fid o → length bytes ≡ f.count → f.count ≡ 0
      → do_write c t memory f bytes ≡ done u m said → (u ≡ t) × (m ≡ memory)
  write-nothing f bytes o a n z e =
      let w = write-left f bytes o a e in
      (w.1 ∙ ap (resized t o.file f.offset) z ∙ resized-nothing t o.file f.offset, w.2 ∙ written-nothing t memory o.file f.offset bytes (n ∙ z))

  -- what the counterpart leaves, and its bytes in the core command's reply block
  pub core-read-left : {said : Said} (f : ReadFields) (o : Open) → Admitted c t f.fid o → as_core (do_read c t memory f) ≡ done u m said
      → (u ≡ with_read t f.fid (changes_of t o.file)) × (m ≡ memory) × (said ≡ core_read (read_bytes t memory o.file f.offset f.max))
  unfolding core_said
  core-read-left f o a e =
      let d = as_core_lem (do_read c t memory f) e in
      let l = read_left f o a d.1 in
      (l.0, l.1, d.2 ∙ ap core_said l.2)

  pub core-read-yields : (f : ReadFields) (o : Open) → Admitted c t f.fid o → (bytes : List ℕ) → as_core (do_read c t memory f) ≡ done u m (core_read bytes)
      → Yields o.file (size_of t o.file) f.offset f.max memory bytes
  unfolding core_said
  core-read-yields f o a bytes e =
      let d = as_core_lem (do_read c t memory f) e in
      let l = read_left f o a d.1 in
      let q : core_read bytes ≡ core_read (read_bytes t memory o.file f.offset f.max) = d.2 ∙ ap core_said l.2 in
      let same : bytes ≡ read_bytes t memory o.file f.offset f.max = cc in
      read-yields f o a bytes (d.1 ∙ ap (done u m) (l.2 ∙ ap read (sym same)))

  -- count 0 sets the size, inside the file's room: it leaves what the definitions say of the open's file
  pub set-size-left : {said : Said} (f : WriteFields) (o : Open) → Admitted c t f.fid o → do_set_size c t memory f ≡ done u m said
      → (f.offset ≤ 4096) × (u ≡ sized_to t o.file f.offset) × (m ≡ grown t memory o.file f.offset) × (said ≡ core_wrote 0)
  unfolding do_set_size
  set-size-left f o a e =
      let s = writing-left f.fid _ (ltb 4096 f.offset) _ o a e in
      let d = s.1 in
      (ltb-false 4096 f.offset s.0, cc, cc, cc)

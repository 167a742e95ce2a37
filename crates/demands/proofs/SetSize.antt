-- Of specs/SetSize.antt: what rests on its other theorems. Assumes nothing.
use Rattle.std.specs.Prelude.{◌≡◌, ℕ, ◌+◌, ◌-◌, ◌*◌, ◌≤◌, ◌<◌, List, [], ◌∷◌, length, take, get_or, replicate, ltb, Some}
use Rattle.std.proofs.Common.{sym, ◌∙◌, inl, inr, arith, get_or-take, get_or-append-add, ext_get_or, ltb-true, ltb-false, eq-eqb}
use Rattle.std.proofs.Math.Path.{ap}
use Rattle.std.proofs.lemmas.List.{get_or-replicate}
use Rattle.std.proofs.Math.ListN.{get_or-append}
use Rattle.lists.specs.Truth.{decided}
use Rattle.records.specs.declared.Open.{Open}
use Rattle.records.specs.declared.File.{File}
use Rattle.records.specs.declared.Tables.{Tables}
use Rattle.records.specs.Change.{changes_of}
use Rattle.records.specs.Empty.{no_file}
use Rattle.claims.proofs.SoundPlain.{sound-plain}
use Rattle.invariants.specs.SoundParts.{sound-says}
use Rattle.invariants.specs.Sound.{Good, size-most}
use Rattle.invariants.specs.Fit.{Fit}
use Rattle.invariants.specs.BlockParse.{body_at}
use Rattle.chain.specs.Layout.{CORE-WRITE, header_command, FIRST, first_fid, core_count, core_offset}
use Rattle.chain.specs.Grammar.{Span, Reading}
use Rattle.chain.specs.Chain.{blocks}
use Rattle.chain.specs.declared.block.WriteFields.{WriteFields}
use Rattle.chain.specs.declared.block.Body.TheVariants.{CoreWrite as CoreWriteBody}
use Rattle.chain.specs.declared.block.Block.{Block}
use Rattle.message.specs.Caller.{caller_of}
use Rattle.message.specs.declared.caller.Caller.{Caller}
use Rattle.message.specs.Refusal.{status}
use Rattle.message.specs.Contents.{size_of, contents, grown, sized_to}
use Rattle.message.specs.Command.{Said, done, do_set_size, do_core_write}
use Rattle.message.specs.Message.{take-message}
use Rattle.demands.specs.StatusRead.{status_read}
use Rattle.demands.specs.Admitted.{Admitted}
use Rattle.demands.specs.FileBytes.{Grew, contents-byte, contents-length, contents-same, file-inside, grown-bytes, change-here, sized-changes, sized_same, sized-others, sized-records}
use Rattle.demands.specs.FileCommands.{catalogue-kept}
use Rattle.demands.proofs.FileCommands.{set-size-left}
use Rattle.demands.proofs.CallEffects.{core-write-done, core-write-open, core-write-reply}
use Rattle.demands.specs.WireFields.{core_write_fields, one-first, first_body}
use Rattle.demands.specs.SetSize.{SetSizeDone, SizeSet, filled, filled-length, old-length, shrunk, sized}

module _ (t : Tables) (memory : List ℕ) (file size : ℕ) (g : Good t) (full : length memory ≡ 65536) (low : file ≤ 15) (within : size ≤ 4096) where
  pub grew : Grew file (size_of t file) size memory (grown t memory file size)
  grew = grown-bytes t memory file size g.sound full low within

  pub set-byte : (i : ℕ) → i < size → get_or (grown t memory file size) (file * 4096 + i) 0 ≡ get_or (filled t memory file size g full low within) i 0
  set-byte i h =
      let n = (old-length t memory file size g full low within) in
      elim (decided (ltb i (size_of t file))) [
        | inl e ↦
            let below : i < size_of t file = ltb-true i (size_of t file) e in
            let inside : i < length (contents t memory file) = omega arith in
            grew.in-front (file * 4096 + i) (omega arith)
            ∙ sym (get_or-append (contents t memory file) (replicate (size - size_of t file) 0) 0 i inside ∙ contents-byte t memory file i below)
        | inr e ↦
            let above : size_of t file ≤ i = ltb-false i (size_of t file) e in
            let place : i ≡ length (contents t memory file) + (i - size_of t file) = omega arith in
            let few : i - size_of t file < size - size_of t file = omega arith in
            grew.the-zeros (file * 4096 + i) (omega arith) (omega arith)
            ∙ sym (ap (λ (k : ℕ). get_or (filled t memory file size g full low within) k 0) place
            ∙ get_or-append-add (contents t memory file) (replicate (size - size_of t file) 0) (i - size_of t file) 0
            ∙ get_or-replicate (size - size_of t file) (i - size_of t file) 0 0 few)
      ]

  pub set-contents : contents (sized_to t file size) (grown t memory file size) file ≡ take size (filled t memory file size g full low within)
  set-contents =
      let long = grew.same_length in
      let now = (sized t memory file size g full low within) in
      let inside : file * 4096 + size_of (sized_to t file size) file ≤ length (grown t memory file size) = omega arith in
      let n = contents-length (sized_to t file size) (grown t memory file size) file inside in
      ext_get_or 0 (contents (sized_to t file size) (grown t memory file size) file) (take size (filled t memory file size g full low within)) (n ∙ now ∙ sym (filled-length t memory file size g full low within))
      (λ i h. let few : i < size_of (sized_to t file size) file = omega arith in
      let few' : i < size = omega arith in
      contents-byte (sized_to t file size) (grown t memory file size) file i few ∙ set-byte i few' ∙ sym (get_or-take size (filled t memory file size g full low within) i 0 few'))

  pub others-stand : (x : ℕ) → x ≤ 15 → (x ≡ file → ⊥) → contents (sized_to t file size) (grown t memory file size) x ≡ contents t memory x
  unfolding size_of
  others-stand x h different =
      let most : size_of t x ≤ 4096 = size-most t x (sound-says t g.sound) in
      contents-same t (sized_to t file size) memory (grown t memory file size) x (file-inside t memory x g.sound full h) grew.same_length
      (ap (λ (f : File). f.size) (sized-others t file size x different)) (λ i few. grew.other-files x i different (omega arith))

  -- "sets the file's size to the offset"
  pub size-set : SizeSet t (sized_to t file size) file size memory (grown t memory file size)
  unfolding changes_of
  size-set =
      record {
        new-size = (sized t memory file size g full low within);
        other-files = sized-others t file size;
        number = λ n. ap (λ (u : Tables). (get_or u.files file no_file).changes) (sized-changes t file size n) ∙ ap (λ (f : File). f.changes) (change-here t file size g.shaped low);
        whole = sized-changes t file size;
        catalogue = catalogue-kept t (sized_to t file size) (sized-records t file size);
        new-contents = set-contents;
        bytes_left = grew;
        other-contents = others-stand;
        none-changed = (shrunk t memory file size g full low within);
        nothing-changed = λ e. (sized_same t file size e, (shrunk t memory file size g full low within) (omega arith));
      }

module _ (c : Caller) (t : Tables) (memory : List ℕ) (full : length memory ≡ 65536) (g : Good t) {u : Tables} {m : List ℕ} {said : Said} where
  -- it is done where the offset is not past 4,096, and sets the size of the open's file
  pub set-size-leaves : (f : WriteFields) (o : Open) → Admitted c t f.fid o → do_set_size c t memory f ≡ done u m said
      → (f.offset ≤ 4096) × SizeSet t u o.file f.offset memory m
  set-size-leaves f o a e =
      let l = set-size-left c t memory full g f o a e in
      let low : o.file ≤ 15 = ((sound-plain t).0 g.sound).files o a.opened.listed in
      (l.0, rw (l.1, l.2) (size-set t memory o.file f.offset g full low l.0))

  -- whatever its data block holds
  pub core-write-none : (f : WriteFields) (bytes : List ℕ) (o : Open) → Admitted c t f.fid o → f.count ≡ 0 → do_core_write c t memory f bytes ≡ done u m said
      → (f.offset ≤ 4096) × SizeSet t u o.file f.offset memory m
  unfolding do_core_write
  core-write-none f bytes o a z e = set-size-leaves f o a (rw (eq-eqb f.count 0 z) at e)

pub set-size-call : (connection : ℕ) (s : List ℕ) (b : Block) → blocks s ≡ Some (b ∷ []) → (t : Tables) (memory room : List ℕ) → Good t → Fit s t memory room
    → status_read (take-message connection s t memory room).room ≡ status 0 0 → (f : WriteFields) → b.body ≡ CoreWriteBody f → f.count ≡ 0
    → SetSizeDone (caller_of connection s) t f.fid f.offset memory (take-message connection s t memory room)
set-size-call connection s b e t memory room g fit z f is none =
    let o = core-write-open connection s b e t memory room g fit z f is in
    let l = core-write-none (caller_of connection s) t memory fit.memory-whole g f _ o.0 o.1 none (core-write-done connection s b e t memory room g fit z f is) in
    let said = core-write-reply connection s b e t memory room g fit z f is in
    record { through = o.0; admitted = o.1; not-past = l.0; sets = l.1; reply = rw none at said.0; reply-ends = said.1 }

-- said of the message's bytes: FID, count and offset are its words
pub set-size-reading : (connection : ℕ) (s : List ℕ) {span : Span} → Reading s (span ∷ []) → (t : Tables) (memory room : List ℕ) → Good t → Fit s t memory room
    → status_read (take-message connection s t memory room).room ≡ status 0 0 → header_command s ≡ CORE-WRITE → core_count s FIRST ≡ 0
    → SetSizeDone (caller_of connection s) t (first_fid s FIRST) (core_offset s FIRST) memory (take-message connection s t memory room)
unfolding body_at
set-size-reading connection s r t memory room g fit z e none =
    let only = one-first r in
    set-size-call connection s only.block only.is_read t memory room g fit z (core_write_fields s) (first_body only CORE-WRITE e) none

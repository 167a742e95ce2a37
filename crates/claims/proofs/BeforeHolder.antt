-- Of specs/BeforeHolder.antt: what rests on its other theorems. Assumes nothing.
use Rattle.std.specs.Prelude.{◌≡◌, ℕ, ◌+◌, ◌*◌, ◌/◌, ◌%◌, ◌<◌, Bool, false, not, ◌||◌, length, drop, ltb, eqb, Option, None, Some}
use Rattle.std.proofs.Math.Path.{refl}
use Rattle.std.proofs.Common.{◌∙◌, ap, arith}
use mathlib.Core.List.{List, [], ◌∷◌}
use Rattle.lists.specs.Walk.{any}
use Rattle.wire.specs.LittleEndian.{byte_at}
use Rattle.records.specs.declared.Lock.{Lock}
use Rattle.records.specs.declared.Tables.{Tables}
use Rattle.records.specs.Held.{opens_of, locks_of}
use Rattle.locks.specs.Wire.{range_size, small_form}
use Rattle.locks.specs.Request.{ranges_of, release_all, range_passes, after_releases, request, settle, locking}
use Rattle.locks.specs.declared.types.LockRange.{LockRange}
use Rattle.locks.specs.declared.types.Request.{Request}
use Rattle.locks.specs.declared.types.Purpose.TheVariants.{Write as Writing}
use Rattle.soundness.specs.File.{file_of}
use Rattle.soundness.specs.Sound.{sound}
use Rattle.chain.specs.Layout.{header_command, FIRST}
use Rattle.chain.specs.Header.{dropped}
use Rattle.chain.specs.Chain.{blocks}
use Rattle.chain.specs.declared.block.LockingFields.{LockingFields}
use Rattle.chain.specs.declared.block.WriteFields.{WriteFields}
use Rattle.chain.specs.declared.block.RangeFields.{RangeFields}
use Rattle.chain.specs.declared.block.Body.{Body}
use Rattle.chain.specs.declared.block.Body.TheVariants.{Locking as LockingBody, Read as ReadBody, Write as WriteBody, Close, Logoff, TreeDisconnect, ProcessExit, CoreRead as CoreReadBody, CoreWrite as CoreWriteBody, LockByteRange, UnlockByteRange, Open as OpenBody}
use Rattle.chain.specs.declared.block.Block.{Block}
use Rattle.message.specs.Caller.{caller_of}
use Rattle.message.specs.declared.caller.Caller.{Caller}
use Rattle.message.specs.Contents.{size_of}
use Rattle.message.specs.Refusal.{status, forms_of}
use Rattle.message.specs.Command.{served_type, request_of, locking_end, locking_after, do_locking, ask_by, ends_past, do_write, range_by, one_range, do_range, between_sizes, do_set_size, do_core_write, perform}
use Rattle.message.specs.JustOpened.{NOBODY, body_meant}
use Rattle.message.specs.Message.{area_of, data_of, Ran, run, served, only_status, run_chain, answered, reply_of, Taken, not_taken, replied, take-message}
use Rattle.message.specs.Reply.{two, four, nt_bit, status_number, reply_header}
use Rattle.message.specs.declared.refusal.Forms.{Forms}
use Rattle.claims.specs.StatusList.{smb-bytes, answered-ended}
use Rattle.claims.proofs.StatusList.{ended-says}
use Rattle.claims.specs.YesOrNo.{onward, plainly, after_releases_before, request_before, locking_before, write_before, range_before, set_size_before, core_write_before, perform_before, RanBefore, refused_before, run_before, chain_before, answered_before, TakenBefore, header01, untaken, replied_before, take_before}
use Rattle.claims.specs.BeforeHolder.{bit-clear, both-chosen, but_status, chosen, core-before, given-before, grants-before, open-before, ran_without, read-before, result_gives, status-before, without_holder, writing-before}

module _ (t : Tables) (memory : List ℕ) where
  -- behind its unlocks
  pub releases-before : (fid : ℕ) (shared : Bool) (locks : List LockRange) (o : Option (List Lock))
      → after_releases_before t memory fid shared locks o ≡ (result_gives t memory) (after_releases (file_of (opens_of t)) fid shared locks o)
  unfolding after_releases_before after_releases result_gives plainly onward locking_after settle locking_end forms_of
  releases-before fid shared locks None = refl
  releases-before fid shared locks (Some list) = chosen (result_gives t memory) (any range_passes locks) refl ((grants-before t memory) fid shared locks list)

  -- the request as a whole
  pub request-before : (q : Request) (area : List ℕ)
      → request_before t memory q area ≡ plainly (locking_after t memory (locking (file_of (opens_of t)) t.locks t.nlocks q area))
  unfolding request_before locking request result_gives plainly onward locking_after settle locking_end forms_of
  request-before q area =
      chosen (result_gives t memory) (eqb (length area) ((q.unlocks + q.locks) * range_size q.large))
      (releases-before q.fid q.shared (ranges_of q area q.unlocks q.locks)
      (release_all (file_of (opens_of t)) q.fid (ranges_of q area 0 q.unlocks) (locks_of t)))
      refl

module _ (c : Caller) (t : Tables) (memory : List ℕ) where
  pub locking-before : (f : LockingFields) (area : List ℕ) → locking_before c t memory f area ≡ plainly (do_locking c t memory f area)
  unfolding locking_before do_locking plainly onward forms_of
  locking-before f area =
      open-before c t f.fid _ _ (λ o. chosen plainly (served_type f.kind) (request-before t memory (request_of c f) area) refl)

  pub write-before : (f : WriteFields) (bytes : List ℕ) → write_before c t memory f bytes ≡ plainly (do_write c t memory f bytes)
  unfolding write_before do_write plainly onward
  write-before f bytes =
      writing-before c t f.fid (λ o. ask_by c f.fid f.offset f.count Writing) (ends_past f.offset f.count) _ _ (λ o. refl)

  pub set-size-before : (f : WriteFields) → set_size_before c t memory f ≡ plainly (do_set_size c t memory f)
  unfolding set_size_before do_set_size plainly onward
  set-size-before f =
      writing-before c t f.fid (λ o. between_sizes c f.fid (size_of t o.file) f.offset) (ltb 4096 f.offset) _ _ (λ o. refl)

  pub core-write-before : (f : WriteFields) (bytes : List ℕ) → core_write_before c t memory f bytes ≡ plainly (do_core_write c t memory f bytes)
  unfolding core_write_before do_core_write
  core-write-before f bytes = chosen plainly (eqb f.count 0) (set-size-before f) (core-before _ _ (write-before f bytes))

  pub range-before : (f : RangeFields) (unlocks locks : ℕ) → range_before c t memory f unlocks locks ≡ plainly (do_range c t memory f unlocks locks)
  unfolding range_before do_range
  range-before f unlocks locks = core-before _ _ (locking-before (one_range f unlocks locks) (small_form (range_by c f)))

  -- every command
  pub perform-before : (b : Body) (area bytes : List ℕ) → perform_before c t memory b area bytes ≡ plainly (perform c t memory b area bytes)
  unfolding perform_before perform
  perform-before (LockingBody f) area bytes = locking-before f area
  perform-before (ReadBody f) area bytes = (read-before c t memory) f
  perform-before (WriteBody f) area bytes = write-before f bytes
  perform-before (Close fid) area bytes = refl
  perform-before Logoff area bytes = refl
  perform-before TreeDisconnect area bytes = refl
  perform-before ProcessExit area bytes = refl
  perform-before (CoreReadBody f) area bytes = core-before _ _ ((read-before c t memory) f)
  perform-before (CoreWriteBody f) area bytes = core-write-before f (drop 3 area)
  perform-before (LockByteRange f) area bytes = range-before f 0 1
  perform-before (UnlockByteRange f) area bytes = range-before f 1 0
  perform-before (OpenBody f) area bytes = refl

-- "command by command"
pub run-before : (c : Caller) (s : List ℕ) (just : ℕ) (bs : List Block) (place : ℕ) (t : Tables) (memory : List ℕ)
    → run_before c s just bs place t memory ≡ ran_without (run c s just bs place t memory)
unfolding run_before run ran_without status
run-before c s just [] place t memory = refl
run-before c s just (b ∷ bs) place t memory =
    rw (perform-before c t memory (body_meant just b.body) (area_of s b) (data_of s b))
    (given-before (perform c t memory (body_meant just b.body) (area_of s b) (data_of s b)) bs place t memory _ _ (λ j p u m. run-before c s j bs p u m))

pub chain-before : (c : Caller) (s : List ℕ) (o : Option (List Block)) (t : Tables) (memory : List ℕ)
    → chain_before c s o t memory ≡ ran_without (run_chain c s o t memory)
unfolding chain_before run_chain only_status refused_before ran_without forms_of
chain-before c s None t memory = refl
chain-before c s (Some bs) t memory = run-before c s NOBODY bs FIRST t memory

pub answered-before : (connection : ℕ) (s : List ℕ) (t : Tables) (memory : List ℕ)
    → answered_before connection s t memory ≡ ran_without (answered connection s t memory)
unfolding answered_before answered only_status refused_before ran_without forms_of
answered-before connection s t memory = chosen ran_without (served (header_command s)) (chain-before (caller_of connection s) s (blocks s) t memory) refl

-- the header is document 01's where the bit is not set
pub header-before : (s : List ℕ) (f : Forms) → f.status.class < 256 → nt_bit s ≡ false → reply_header s f ≡ header01 s f.status
unfolding reply_header header01 two four status_number nt_bit
header-before s f small clear =
    let b : byte_at s 11 / 64 % 2 ≡ 0 = bit-clear (byte_at s 11 / 64 % 2) (omega arith) clear in
    let q = smb-bytes f.status small in
    rw (clear, q.0, q.1, q.2, b)

pub replied-before : (s room : List ℕ) (r : Ran) → r.forms.status.class < 256 → nt_bit s ≡ false → replied_before s room (ran_without r) ≡ without_holder (replied s room r)
unfolding replied_before ran_without without_holder replied reply_of
replied-before s room r small clear = rw (header-before s r.forms small clear)

-- CR 2: "The reply bytes do not change": nor do the number, the tables and the files. CR 7: without the bit everything is as before, every byte
pub before-holder : (connection : ℕ) (s : List ℕ) (t : Tables) (memory room : List ℕ) → nt_bit s ≡ false
    → take_before connection s t memory room ≡ without_holder (take-message connection s t memory room)
unfolding take_before take-message untaken not_taken without_holder
before-holder connection s t memory room clear =
    chosen without_holder (ltb (length room) 12292 || not (eqb (length memory) 65536)) refl
    (chosen without_holder (not (sound t)) refl
    (chosen without_holder (dropped s) refl
    (ap (replied_before s room) (answered-before connection s t memory)
    ∙ replied-before s room (answered connection s t memory) (ended-says (answered-ended connection s t memory)).class clear)))

pub before-status : (connection : ℕ) (s : List ℕ) (t : Tables) (memory room : List ℕ)
    → but_status (take_before connection s t memory room) ≡ but_status (without_holder (take-message connection s t memory room))
unfolding take_before take-message untaken not_taken without_holder
before-status connection s t memory room =
    let now : Taken → TakenBefore = λ k. but_status (without_holder k) in
    both-chosen but_status now (ltb (length room) 12292 || not (eqb (length memory) 65536)) refl
    (both-chosen but_status now (not (sound t)) refl
    (both-chosen but_status now (dropped s) refl
    (ap (λ (r : RanBefore). but_status (replied_before s room r)) (answered-before connection s t memory) ∙ status-before s room (answered connection s t memory))))

-- What an OPEN_ANDX that is done leaves and says, table by table (document 02, CR 6), said of the command, of the call and of the message's bytes: one open more, behind the
-- others; everything else stands. Assumes nothing.
use Rattle.std.specs.Prelude.{◌≡◌, refl, ℕ, ◌+◌, ◌/◌, ◌%◌, ◌<◌, Bool, true, false, List, [], ◌∷◌, ◌++◌, map, length}
use Rattle.std.proofs.Common.{length-append}
use Rattle.wire.specs.LittleEndian.{le16_at}
use Rattle.records.specs.declared.Open.{Open}
use Rattle.records.specs.declared.Tables.{Tables}
use Rattle.records.specs.Held.{opens_of, with_opens}
use Rattle.numbers.specs.Column.{fid_of}
use Rattle.invariants.specs.Shaped.{opens-with}
use Rattle.invariants.specs.Sound.{Good}
use Rattle.invariants.specs.Fit.{Fit}
use Rattle.claims.specs.RemovalPlain.{FilesStand, CatalogueStands}
use Rattle.claims.specs.HostAnswer.{NewNumber, smallest-new}
use Rattle.claims.specs.HostFrames.{SessionsStand, TreesStand, LocksStand}
use Rattle.chain.specs.Layout.{FIRST, open_flags, access_mode}
use Rattle.chain.specs.Grammar.{Span, Reading}
use Rattle.chain.specs.Parse.{open_fields}
use Rattle.chain.specs.declared.block.OpenFields.{OpenFields}
use Rattle.message.specs.Caller.{caller_of}
use Rattle.message.specs.declared.caller.Caller.{Caller}
use Rattle.message.specs.Refusal.{status}
use Rattle.message.specs.Contents.{size_of}
use Rattle.message.specs.Command.{Said, open_by, opened_said}
use Rattle.message.specs.Reply.{reply_size}
use Rattle.message.specs.Message.{Taken, take-message}
use Rattle.demands.specs.StatusRead.{status_read}
use Rattle.demands.specs.Sharing.{KeptOut}
use Rattle.demands.specs.OpenReasons.{OpenPermitted}
use Rattle.demands.specs.ReplyBytes.{OpenBlock}
use Rattle.demands.specs.WireFields.{sender_process, open_name, FirstBlock, one-first}

-- ---- the plain words

-- the tables after: one open more, behind the others, of that caller and file, with the codes asked for; it has not read; every other table, the files and the catalogue stand
pub record OpenAdded (uid tid process access sharing : ℕ) (t : Tables) (file : ℕ) (after : Tables) (new : Open) : Type 0 where
  -- "UID, TID and FID are the smallest number from 1 not in use"
  pub given_out : NewNumber 64 (map fid_of (opens_of t)) new.fid
  pub its-uid : new.uid ≡ uid
  pub its-tid : new.tid ≡ tid
  pub its-process : new.process ≡ process
  pub its-file : new.file ≡ file
  pub its-access : new.access ≡ access
  pub its-sharing : new.sharing ≡ sharing
  pub not-read : new.read ≡ false
  pub seen_none : new.seen ≡ 0
  pub opens : opens_of after ≡ opens_of t ++ (new ∷ [])
  pub open-count : after.nopens ≡ length (opens_of t) + 1
  pub sessions : SessionsStand t after
  pub trees : TreesStand t after
  pub locks : LocksStand t after
  pub files : FilesStand t after
  pub catalogue : CatalogueStands t after
  -- to the last record
  pub whole : after ≡ with_opens t (opens_of t ++ (new ∷ []))

-- ---- the command

pub record OpenLeft (c : Caller) (t : Tables) (memory : List ℕ) (f : OpenFields) (name : List ℕ) (after : Tables) (left : List ℕ) (said : Said) : Type 0 where
  -- the file that the catalogue names, and that the caller may open so
  pub file : ℕ
  pub passed : OpenPermitted c t f name file
  pub shared : KeptOut t file f.access f.sharing → ⊥
  pub new : Open
  pub added : OpenAdded c.uid c.tid c.process f.access f.sharing t file after new
  pub same_memory : left ≡ memory
  pub says : said ≡ opened_said f.full new.fid (size_of t file) f.access

pub open-added : (c : Caller) (t : Tables) (f : OpenFields) (file : ℕ) → t.nopens < 64
    → OpenAdded c.uid c.tid c.process f.access f.sharing t file (with_opens t (opens_of t ++ (open_by c t f file ∷ []))) (open_by c t f file)
unfolding with_opens open_by
open-added c t f file room =
    record {
      given_out = smallest-new fid_of 64 t.nopens t.opens room;
      its-uid = refl;
      its-tid = refl;
      its-process = refl;
      its-file = refl;
      its-access = refl;
      its-sharing = refl;
      not-read = refl;
      seen_none = refl;
      opens = opens-with t (opens_of t ++ (open_by c t f file ∷ []));
      open-count = length-append (opens_of t) (open_by c t f file ∷ []);
      sessions = (refl, refl);
      trees = (refl, refl);
      locks = (refl, refl);
      files = refl;
      catalogue = (refl, refl);
      whole = refl;
    }

-- ---- the call

-- what the call leaves and says: by the message's bytes, Flags' bit 0 standing at 37 and AccessMode at 39
pub record OpenDone (connection : ℕ) (s : List ℕ) (t : Tables) (memory : List ℕ) (call : Taken) : Type 0 where
  pub file : ℕ
  pub passed : OpenPermitted (caller_of connection s) t (open_fields s FIRST) (open_name s) file
  pub shared : KeptOut t file (access_mode s FIRST % 8) (access_mode s FIRST / 16 % 8) → ⊥
  pub new : Open
  pub added : OpenAdded (le16_at s 28) (le16_at s 24) (sender_process s) (access_mode s FIRST % 8) (access_mode s FIRST / 16 % 8) t file call.tables new
  pub same_memory : call.memory ≡ memory
  -- "zero after the FID with the block's Flags bit 0 clear; with it set the size, the access and OpenResults 1, the rest zero"
  pub short-reply : (open_flags s FIRST % 2 ≡ 1 → ⊥) → OpenBlock new.fid 0 0 0 call.room
  pub full-reply : open_flags s FIRST % 2 ≡ 1 → OpenBlock new.fid (size_of t file) (access_mode s FIRST % 8) 1 call.room
  pub reply-ends : call.length ≡ 65

pub said-size : (full : Bool) (fid size access : ℕ) → reply_size (opened_said full fid size access) ≡ 33
unfolding opened_said reply_size
said-size true fid size access = refl
said-size false fid size access = refl

-- its block, by Flags' bit 0

module _ (connection : ℕ) (s : List ℕ) {span : Span} (r : Reading s (span ∷ [])) (t : Tables) (memory room : List ℕ) (g : Good t) (fit : Fit s t memory room)
    (z : status_read (take-message connection s t memory room).room ≡ status 0 0) where
  abbrev pub caller : Caller
  caller = caller_of connection s

  abbrev pub call : Taken
  call = take-message connection s t memory room

  pub only : FirstBlock s []
  only = one-first r

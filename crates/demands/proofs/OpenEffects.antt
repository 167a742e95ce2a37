-- Of specs/OpenEffects.antt: what rests on its other theorems. Assumes nothing.
use Rattle.std.specs.Prelude.{◌≡◌, ℕ, ◌+◌, ◌%◌, ◌≤◌, ◌<◌, Bool, true, false, List, [], ◌∷◌, ◌++◌, length, None as no_link}
use Rattle.std.proofs.Common.{sym, ap, ◌∙◌, arith, eq-eqb, ne_eqb}
use Rattle.std.proofs.Math.Path.{subst}
use Rattle.lists.specs.Put.{put}
use Rattle.records.specs.declared.Tables.{Tables}
use Rattle.records.specs.Held.{opens_of, with_opens}
use Rattle.soundness.specs.Sound.{sound}
use Rattle.invariants.specs.SoundParts.{sound-says}
use Rattle.invariants.specs.Sound.{Good, size-most}
use Rattle.invariants.specs.Fit.{Fit}
use Rattle.invariants.specs.BlockParse.{body_at}
use Rattle.claims.specs.Cases.{status_in}
use Rattle.chain.specs.Layout.{OPEN, header_command, FIRST, open_flags}
use Rattle.chain.specs.Grammar.{Span, Reading}
use Rattle.chain.specs.Parse.{open_fields}
use Rattle.chain.specs.declared.block.OpenFields.{OpenFields}
use Rattle.chain.specs.declared.block.Body.TheVariants.{Open as OpenBody}
use Rattle.message.specs.Caller.{caller_of}
use Rattle.message.specs.declared.caller.Caller.{Caller}
use Rattle.message.specs.Refusal.{status, success}
use Rattle.message.specs.Contents.{size_of}
use Rattle.message.specs.Command.{Said, done, name_asked, open_by, opened_said, do_open, perform}
use Rattle.message.specs.Reply.{reply_header, reply_block}
use Rattle.message.specs.Message.{area_of, take-message}
use Rattle.demands.specs.StatusRead.{status_read}
use Rattle.demands.proofs.OpenReasons.{opened-passed, passed_is}
use Rattle.demands.specs.ReplyBytes.{OpenBlock, open_block}
use Rattle.demands.specs.DoneCall.{Carried, long-enough}
use Rattle.demands.specs.CallEffects.{gives-body}
use Rattle.demands.proofs.CallEffects.{the-command}
use Rattle.demands.specs.WireFields.{open_name, first_body, first-name}
use Rattle.demands.specs.OpenEffects.{OpenAdded, OpenDone, OpenLeft, call, caller, only, open-added, said-size}

pub opening-leaves : (c : Caller) (t : Tables) (memory : List ℕ) → sound t ≡ true → (f : OpenFields) (name : List ℕ) {u : Tables} {m : List ℕ} {said : Said}
    → do_open c t memory f name ≡ done u m said → OpenLeft c t memory f name u m said
unfolding status_in
opening-leaves c t memory ok f name {u} {m} {said} e =
    let p = opened-passed c t memory ok f name (ap status_in e) in
    let d = passed_is c t memory ok f name p in
    let new = open_by c t f p.file in
    let after : with_opens t (opens_of t ++ (new ∷ [])) ≡ u = cc in
    let left : m ≡ memory = cc in
    let says : said ≡ opened_said f.full new.fid (size_of t p.file) f.access = cc in
    record { file = p.file; passed = p.passed; shared = p.shared; new = new; added = subst (λ (x : Tables). OpenAdded c.uid c.tid c.process f.access f.sharing t p.file x new) after (open-added c t f p.file p.room); same_memory = left; says = says }

module _ (s : List ℕ) (long : 32 ≤ length s) (room : List ℕ) (full : Bool) where
  pub short-block : full ≡ false → (fid size access : ℕ) → fid < 65536
      → OpenBlock fid 0 0 0 (put room 0 (reply_header s success ++ reply_block (opened_said full fid size access) FIRST no_link))
  unfolding opened_said
  short-block e fid size access few = rw e (open_block s long room fid 0 0 0 few (omega arith) (omega arith) (omega arith))

  pub full_block : full ≡ true → (fid size access : ℕ) → fid < 65536 → size < 65536 → access < 65536
      → OpenBlock fid size access 1 (put room 0 (reply_header s success ++ reply_block (opened_said full fid size access) FIRST no_link))
  unfolding opened_said
  full_block e fid size access few small low = rw e (open_block s long room fid size access 1 few small low (omega arith))

module _ (connection : ℕ) (s : List ℕ) {span : Span} (r : Reading s (span ∷ [])) (t : Tables) (memory room : List ℕ) (g : Good t) (fit : Fit s t memory room)
    (z : status_read (take-message connection s t memory room).room ≡ status 0 0) where
  pub ran : Carried (caller connection s r t memory room g fit z) s (only connection s r t memory room g fit z).block t memory room (call connection s r t memory room g fit z)
  ran = the-command connection s (only connection s r t memory room g fit z).block (only connection s r t memory room g fit z).is_read t memory room g fit z

  pub open-reading : header_command s ≡ OPEN → OpenDone connection s t memory (call connection s r t memory room g fit z)
  unfolding caller_of perform body_at opened_said
  open-reading e =
      let f = open_fields s FIRST in
      let b = (only connection s r t memory room g fit z).block in
      let name : name_asked (area_of s b) ≡ open_name s = first-name (only connection s r t memory room g fit z) in
      let given : do_open (caller connection s r t memory room g fit z) t memory f (open_name s) ≡ done (call connection s r t memory room g fit z).tables (call connection s r t memory room g fit z).memory ran.said =
      rw name at (gives-body (caller connection s r t memory room g fit z) s b t memory (OpenBody f) (first_body (only connection s r t memory room g fit z) OPEN e) ran.given) in
      let l = opening-leaves (caller connection s r t memory room g fit z) t memory g.sound f (open_name s) given in
      let long = long-enough s fit.not-dropped in
      let low : l.new.fid ≤ 64 = l.added.given_out.high in
      let most : size_of t l.file ≤ 4096 = size-most t l.file (sound-says t g.sound) in
      let reply : (call connection s r t memory room g fit z).room ≡ put room 0 (reply_header s success ++ reply_block (opened_said f.full l.new.fid (size_of t l.file) f.access) FIRST no_link) =
      rw l.says at ran.reply in
      record {
        file = l.file;
        passed = l.passed;
        shared = l.shared;
        new = l.new;
        added = l.added;
        same_memory = l.same_memory;
        short-reply = λ n. subst (OpenBlock l.new.fid 0 0 0) (sym reply)
            (short-block s long room f.full (ne_eqb (open_flags s FIRST % 2) 1 n) l.new.fid (size_of t l.file) f.access (omega arith));
        full-reply = λ n. subst (OpenBlock l.new.fid (size_of t l.file) f.access 1) (sym reply)
            (full_block s long room f.full (eq-eqb (open_flags s FIRST % 2) 1 n) l.new.fid (size_of t l.file) f.access (omega arith) (omega arith) (omega arith));
        reply-ends = ran.reply-length ∙ rw l.says (ap (λ (n : ℕ). 32 + n) (said-size f.full l.new.fid (size_of t l.file) f.access));
      }

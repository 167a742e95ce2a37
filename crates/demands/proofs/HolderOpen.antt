-- Of specs/HolderOpen.antt: what rests on its other theorems. Assumes nothing.
use Rattle.std.specs.Prelude.{◌≡◌, ℕ, ◌+◌, ◌-◌, ◌≤◌, ◌<◌, length, get_or, Some as held_by}
use Rattle.std.proofs.Common.{sym, ap, ◌∙◌, arith, length-append, get_or-append-add}
use mathlib.Core.List.{List, ◌++◌, Memᴰ as In}
use Rattle.std.proofs.Math.ListN.{get_or-append}
use Rattle.lists.specs.Members.{map-in}
use Rattle.lists.specs.PairLaws.{place_in}
use Rattle.records.specs.declared.Lock.{Lock}
use Rattle.records.specs.declared.Tables.{Tables}
use Rattle.records.specs.Empty.{no_lock}
use Rattle.records.specs.Held.{sessions_of, opens_of, locks_of}
use Rattle.numbers.specs.Column.{uid_of, fid_of}
use Rattle.locks.specs.Request.{lock_of}
use Rattle.locks.specs.declared.types.Holder.{Holder}
use Rattle.chain.specs.declared.block.LockingFields.{LockingFields}
use Rattle.invariants.specs.Numbered.{numbered-same}
use Rattle.invariants.specs.SoundParts.{sound-says}
use Rattle.invariants.specs.Sound.{Good}
use Rattle.invariants.specs.Fit.{take-message-good}
use Rattle.claims.proofs.SoundPlain.{sound-plain}
use Rattle.message.specs.declared.caller.Caller.{Caller}
use Rattle.demands.specs.LoneLock.{shared_in}
use Rattle.demands.proofs.LockWords.{released-was}
use Rattle.demands.specs.CommandReasons.{ranges_by}
use Rattle.demands.specs.HolderExactly.{call}
use Rattle.demands.proofs.HolderExactly.{held-fit}
use Rattle.demands.specs.HolderWords.{LockHeld}
use Rattle.demands.proofs.HolderStands.{holder-exact, where-then}
use Rattle.demands.specs.HolderOpen.{HolderFound, OwnRange, granted-list, held-open, own, own_range}

module _ {c : Caller} {t : Tables} {f : LockingFields} {area : List ℕ} {h : Holder} (r : LockHeld c t f area h) where
  -- "the list as it then stands": those left, and behind them the own earlier ranges
  pub as-it-stands : r.held.standing ≡ r.left ++ (own r)
  as-it-stands = granted-list r.held.earlier

  pub there-is : get_or (r.left ++ (own r)) h.place no_lock ≡ h.lock
  there-is = ap (λ (l : List Lock). get_or l h.place no_lock) (sym as-it-stands) ∙ r.held.first.stands-there

  -- its own earlier ranges stand at the end: a place behind what the unlocks left is one of theirs
  pub holder-own : length r.left ≤ h.place → OwnRange c f area r.held.granted h.lock
  holder-own low =
      let inside : h.place < length r.held.standing = r.held.first.in_list in
      let all : length r.held.standing ≡ length r.left + length (own r) = ap length as-it-stands ∙ length-append r.left (own r) in
      let split : h.place ≡ length r.left + (h.place - length r.left) = omega arith in
      let m : h.place - length r.left < length (own r) = omega arith in
      let same : get_or (own r) (h.place - length r.left) no_lock ≡ h.lock =
      sym (get_or-append-add r.left (own r) (h.place - length r.left) no_lock) ∙ ap (λ (k : ℕ). get_or (r.left ++ (own r)) k no_lock) (sym split) ∙ there-is in
      let w = map-in (lock_of f.fid (shared_in f)) (ranges_by c.process f area f.unlocks r.held.granted) (place_in no_lock (own r) (h.place - length r.left) m) in
      own_range c f area r.held.granted h.lock w.0 w.1 (w.2 ∙ same)

  -- a place before that is one of the locks held
  pub holder-listed : h.place < length r.left → In h.lock (locks_of t)
  holder-listed low =
      let same : get_or r.left h.place no_lock ≡ h.lock = sym (get_or-append r.left (own r) no_lock h.place low) ∙ there-is in
      released-was r.unlocked (rw same at (place_in no_lock r.left h.place low))

-- of any call with a holder, on good tables: in the tables that it leaves
pub holder-found : (connection : ℕ) (s : List ℕ) (t : Tables) (memory room : List ℕ) → Good t → (h : Holder) → (call connection s t memory room).holder ≡ held_by h
    → HolderFound (call connection s t memory room).tables h
holder-found connection s t memory room g h e =
    let u = (call connection s t memory room).tables in
    let ok = (take-message-good connection s t memory room g).sound in
    let fit = held-fit connection s t memory room h e in
    let o = held-open (where-then connection s t memory room g fit h ((holder-exact connection s t memory room g fit h).0 e)) in
    let w = ((sound-plain u).0 ok).open-session o.0 o.1 in
    record {
      through = o.0;
      listed = o.1;
      of-fid = o.2;
      no_other = λ p m f. numbered-same fid_of 64 (opens_of u) (sound-says u ok).records.fids m o.1 (f ∙ sym o.2);
      session = w.0;
      session-listed = w.1;
      of-uid = w.2;
      no-other-session = λ p m f. numbered-same uid_of 16 (sessions_of u) (sound-says u ok).records.uids m w.1 (f ∙ sym w.2);
    }

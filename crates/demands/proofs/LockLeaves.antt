-- Of specs/LockLeaves.antt: what rests on its other theorems. Assumes nothing.
use Rattle.std.specs.Prelude.{◌≡◌, ℕ, ◌+◌, ◌*◌, ◌/◌, ◌%◌, ◌≤◌, true, List, [], ◌∷◌, ◌++◌, leb, eqb, Option, None, Some}
use Rattle.std.proofs.Math.Path.{refl, ap}
use Rattle.std.proofs.Common.{sym, ◌∙◌, arith, leb-true, eq-eqb}
use Rattle.std.proofs.Math.Logic.{inl, inr}
use Rattle.std.proofs.Math.ListN.{length, length-append}
use Rattle.lists.specs.Walk.{any}
use Rattle.lists.specs.Truth.{decided}
use Rattle.records.specs.declared.Open.{Open}
use Rattle.records.specs.declared.Lock.{Lock}
use Rattle.records.specs.declared.Tables.{Tables}
use Rattle.records.specs.Held.{locks_of, with_locks}
use Rattle.locks.specs.Wire.{range_size, ranges_at, small_form}
use Rattle.locks.specs.Request.{lock_of, ranges_of, release_all, Grants, granted, blocked, grant_all, after_grants, range_passes, after_releases, request, settle, locking}
use Rattle.soundness.specs.Sound.{sound}
use Rattle.claims.proofs.SoundPlain.{sound-plain}
use Rattle.chain.specs.declared.block.LockingFields.{LockingFields}
use Rattle.chain.specs.declared.block.RangeFields.{RangeFields}
use Rattle.message.specs.declared.caller.Caller.{Caller}
use Rattle.message.specs.declared.refusal.Refusal.TheVariants.{LockType}
use Rattle.message.specs.Command.{Said, done, served_type, request_of, with_lock_list, locking_end, locking_after, do_locking, core_said, range_by, one_range, do_range}
use Rattle.demands.specs.Admitted.{Admitted, with-open}
use Rattle.demands.proofs.Admitted.{admitted-may}
use Rattle.demands.specs.LockWords.{never, Released, none-released, one-released, Releasing, all-released, one-unnamed, none-granted, one-granted, Opened, Granting, all-granted, one-blocked}
use Rattle.demands.proofs.LockWords.{release-means, released-was, grant-means}
use Rattle.demands.specs.LoneLock.{shared_in, range_back, exclusive-way}
use Rattle.demands.specs.CommandReasons.{unlocks_in, locks_in}
use Rattle.demands.specs.FileCommands.{as_core_lem}
use Rattle.demands.specs.LockLeaves.{LocksLeft, RangeLocked, RangeUnlocked, core_lock, ends, file-of, list_left, test-passed}

module _ (c : Caller) (t : Tables) (memory : List ℕ) (ok : sound t ≡ true) {u : Tables} {m : List ℕ} {said : Said} (f : LockingFields) (area : List ℕ) (o : Open)
    (a : Admitted c t f.fid o) where
  pub grants-left : {left : List Lock} → Released f.fid (unlocks_in c f area) (locks_of t) left → (x : Grants) → Granting t o f.fid (shared_in f) (locks_in c f area) left x
      → ends t memory (after_grants x) ≡ done u m said → LocksLeft c t memory f area o u m said
  unfolding after_grants settle locking_after locking_end with_lock_list with_locks
  grants-left r (granted last) (all-granted g) e =
      elim (decided (leb (length last) 128)) [
        | inl b ↦ (list_left c t memory ok f area o a) r g (leb-true (length last) 128 b) (rw b at e)
        | inr b ↦ let z = rw b at e in never cc
      ]
  grants-left r (blocked h) (one-blocked b) e = never cc

  pub releases-left : (x : Option (List Lock)) → Releasing f.fid (unlocks_in c f area) (locks_of t) x
      → ends t memory (after_releases (file-of t) f.fid (shared_in f) (locks_in c f area) x) ≡ done u m said → LocksLeft c t memory f area o u m said
  unfolding after_releases settle locking_after locking_end Opened
  releases-left None (one-unnamed n) e = never cc
  releases-left (Some left) (all-released r) e =
      elim (decided (any range_passes (locks_in c f area))) [
        | inl b ↦ let z = rw b at e in never cc
        | inr b ↦ grants-left r (grant_all (file-of t) f.fid (shared_in f) (locks_in c f area) left)
            (grant-means t ok o f.fid a.opened.listed a.opened.of-fid (shared_in f) (locks_in c f area) left
            (λ l n. ((sound-plain t).0 ok).lock-open l (released-was r n)))
            (rw b at e)
      ]

  -- "Unlocks go first, in order .. Then locks in order, each against the list as it stands": just that is left, and it is all that changes
  pub locking-leaves : length area ≡ (f.unlocks + f.locks) * range_size (eqb (f.kind / 16 % 2) 1) → do_locking c t memory f area ≡ done u m said → LocksLeft c t memory f area o u m said
  unfolding do_locking request_of locking ranges_of request
  locking-leaves announced e =
      let w = admitted-may c t f.fid ok o a in
      let h = test-passed (served_type f.kind) LockType _ (sym (with-open c t f.fid w.0 _ w.1) ∙ e) in
      releases-left (release_all (file-of t) f.fid (unlocks_in c f area) (locks_of t)) (release-means (file-of t) f.fid (unlocks_in c f area) (locks_of t))
      (rw (eq-eqb (length area) ((f.unlocks + f.locks) * range_size (eqb (f.kind / 16 % 2) 1)) announced) at h)

module _ (c : Caller) (t : Tables) (memory : List ℕ) (ok : sound t ≡ true) {u : Tables} {m : List ℕ} {said : Said} (f : RangeFields) (o : Open) (a : Admitted c t f.fid o) where
  -- the LOCKING of one range
  pub one_left : (unlocks locks : ℕ) → (unlocks + locks) * 10 ≡ 10 → do_range c t memory f unlocks locks ≡ done u m said
      → (x : Said) × LocksLeft c t memory (one_range f unlocks locks) (small_form (range_by c f)) o u m x × (said ≡ core_said x)
  unfolding do_range one_range small_form range_size
  one_left unlocks locks n e =
      let d = as_core_lem (do_locking c t memory (one_range f unlocks locks) (small_form (range_by c f))) e in
      (d.0, locking-leaves c t memory ok (one_range f unlocks locks) (small_form (range_by c f)) o a (sym n) d.1, d.2)

  pub lock-range-leaves : do_range c t memory f 0 1 ≡ done u m said → RangeLocked c t memory f o u m said
  unfolding one_range ranges_at lock_of core_said
  lock-range-leaves e =
      let d = one_left 0 1 refl e in
      let l = d.1 in
      let w = rw (range_back c f, none-released l.unlocked refl) at (one-granted l.all-locked) in
      let more = length-append (locks_of t) (core_lock c f ∷ []) in
      let most : length (locks_of t ++ (core_lock c f ∷ [])) ≤ 128 = rw w.1 at l.not-over in
      record {
        free = λ x. w.0 (exclusive-way.1 x);
        not-over = omega arith;
        held = l.held ∙ w.1;
        other-tables = l.other-tables;
        whole = l.whole ∙ ap (with_locks t) w.1;
        same_memory = l.same_memory;
        says = d.2 ∙ ap core_said l.says;
      }

  pub unlock-range-leaves : do_range c t memory f 1 0 ≡ done u m said → RangeUnlocked c t memory f u m said
  unfolding one_range ranges_at core_said
  unlock-range-leaves e =
      let d = one_left 1 0 refl e in
      let l = d.1 in
      let same : locks_of u ≡ l.left = l.held ∙ none-granted l.all-locked refl in
      record {
        unlocked = rw same (one-released (rw (range_back c f) at l.unlocked));
        other-tables = l.other-tables;
        whole = l.whole ∙ ap (with_locks t) (sym l.held);
        same_memory = l.same_memory;
        says = d.2 ∙ ap core_said l.says;
      }

-- The status of a write and the one reason for it, whatever bytes it covers and whatever it comes to (document 01, "Refusals on the wire"; document 02, CR 3): what a WRITE
-- and a core WRITE of count 0 have in common. Assumes nothing.
use Rattle.std.specs.Prelude.{◌≡◌, refl, ◌⊎◌, ℕ, Bool, true, false, cond, List, get_or, eqb, Option, Some, None}
use Rattle.std.proofs.Common.{sym, ◌∙◌, arith}
use Rattle.std.proofs.Math.Path.{ap}
use Rattle.std.proofs.Math.Logic.{inl, inr}
use Rattle.records.specs.declared.Open.{Open}
use Rattle.records.specs.declared.Tables.{Tables}
use Rattle.records.specs.Empty.{no_open}
use Rattle.records.specs.Held.{opens_of, locks_of}
use Rattle.locks.specs.declared.types.Purpose.TheVariants.{Write as Writing}
use Rattle.soundness.specs.Sound.{sound}
use Rattle.claims.specs.Cases.{status_in}
use Rattle.message.specs.declared.caller.Caller.{Caller}
use Rattle.message.specs.Refusal.{status, forms_of}
use Rattle.message.specs.declared.refusal.Status.{Status}
use Rattle.message.specs.declared.refusal.Refusal.TheVariants.{NoSpace}
use Rattle.message.specs.Command.{Given, refused, done, ask_by, unless_barred, writing}
use Rattle.demands.specs.LoneLock.{held_in, nobody-holds, held-status, Conflicts, May, InWay, Owner, writing-conflict as writing-exact}
use Rattle.demands.specs.Admitted.{Admitted, NoOpenFor}

-- a write, by the locks in its way, by what makes it end past 4,096 and by what lets it fit: "or a write on access 0", 1/33, "class 3, code 39, write would end past 4,096"
pub data WritingStatus (c : Caller) (t : Tables) (fid : ℕ) (Bars : Open → Type 0) (Past Fits : Type 0) : Status → Type 0 where
  -- 2/91, 2/5 or 1/6: Admitted.antt
  write-not : {n : Status} → NoOpenFor c t fid n → WritingStatus c t fid Bars Past Fits n
  write-access : {o : Open} → Admitted c t fid o → o.access ≡ 0 → WritingStatus c t fid Bars Past Fits (status 1 5)
  write-barred : {o : Open} → Admitted c t fid o → (o.access ≡ 0 → ⊥) → Bars o → WritingStatus c t fid Bars Past Fits (status 1 33)
  write-space : {o : Open} → Admitted c t fid o → (o.access ≡ 0 → ⊥) → (Bars o → ⊥) → Past → WritingStatus c t fid Bars Past Fits (status 3 39)
  write_done : {o : Open} → Admitted c t fid o → (o.access ≡ 0 → ⊥) → (Bars o → ⊥) → Fits → WritingStatus c t fid Bars Past Fits (status 0 0)

-- ---- 1/33 and other codes

pub conflicts-status : (g : Given) → Conflicts g → status_in g ≡ status 1 33
unfolding status_in held_in
conflicts-status (refused why) h = held-status why h.0 h.1
conflicts-status (done u m said) h = absurd (nobody-holds h.1)

pub other-status : (g : Given) → ((status_in g).code ≡ 33 → ⊥) → Conflicts g → ⊥
unfolding status
other-status g n h = n (ap (λ (s : Status). s.code) (conflicts-status g h))

-- a write's end decides between 3/39 and done
end-code : (b : Bool) → (cond b (status 3 39) (status 0 0)).code ≡ 33 → ⊥
unfolding status
end-code true e = omega arith
end-code false e = omega arith

end-status : (b : Bool) (g : Given) → status_in g ≡ status 0 0 → status_in (cond b (refused NoSpace) g) ≡ cond b (status 3 39) (status 0 0)
unfolding status_in forms_of
end-status true g zero = refl
end-status false g zero = zero

-- ---- whatever a write covers and comes to

module _ (c : Caller) (t : Tables) (memory : List ℕ) (ok : sound t ≡ true) (fid : ℕ) (from size : Open → ℕ) (past : Bool) (next : Open → Given) (zero : (o : Open) → status_in (next o) ≡ status 0 0) where
  abbrev pub a_write : Given
  a_write = writing c t fid (λ o. ask_by c fid (from o) (size o) Writing) past next

  abbrev pub Bars : Open → Type 0
  Bars o = InWay t o (locks_of t) (from o) (size o) (λ l. (l.shared ≡ false) × Owner fid c.process l → ⊥)

  next-not : (o : Open) → Conflicts (next o) → ⊥
  unfolding status
  next-not o = other-status (next o) (λ e. let z : (status_in (next o)).code ≡ 0 = ap (λ (s : Status). s.code) (zero o) in omega arith)

  module _ (k : ℕ) (may : May c t fid k) where
    abbrev pub write-open : Open
    write-open = get_or (opens_of t) k no_open

    -- a lock is in the way, or the write's end decides
    pub write-ends : eqb write-open.access 0 ≡ false → (x : Option ℕ) → a_write ≡ unless_barred t x (cond past (refused NoSpace) (next write-open))
        → (Bars write-open × (status_in a_write ≡ status 1 33)) ⊎ ((Bars write-open → ⊥) × (status_in a_write ≡ cond past (status 3 39) (status 0 0)))
    unfolding unless_barred held_in
    write-ends e (Some j) g = inl ((writing-exact c t memory k ok fid from size past next next-not may e).0 (_, ap held_in g), conflicts-status a_write (_, ap held_in g))
    write-ends e None g =
        let s = ap status_in g ∙ end-status past (next write-open) (zero write-open) in
        inr (
          λ w. other-status a_write (λ q. end-code past (sym (ap (λ (s : Status). s.code) s) ∙ q)) ((writing-exact c t memory k ok fid from size past next next-not may e).1 w),
          s,
        )

-- Of specs/WritingReasons.antt: what rests on its other theorems. Assumes nothing.
use Rattle.std.specs.Prelude.{◌≡◌, ◌⊎◌, ◌↔◌, ℕ, Bool, true, false, cond, List, get_or, eqb}
use Rattle.std.proofs.Common.{sym, ◌∙◌}
use Rattle.std.proofs.Math.Path.{ap}
use Rattle.std.proofs.Math.Logic.{inl, inr}
use borrow.Author.Tests.{eqb-true, eqb-false, eq-eqb, ne_eqb}
use Rattle.lists.specs.Truth.{decided}
use Rattle.records.specs.declared.Open.{Open}
use Rattle.records.specs.declared.Tables.{Tables}
use Rattle.records.specs.Empty.{no_open}
use Rattle.records.specs.Held.{opens_of}
use Rattle.locks.specs.declared.types.Purpose.TheVariants.{Write as Writing}
use Rattle.soundness.specs.Sound.{sound}
use Rattle.claims.specs.Cases.{status_in}
use Rattle.message.specs.declared.caller.Caller.{Caller}
use Rattle.message.specs.Refusal.{status, forms_of}
use Rattle.message.specs.declared.refusal.Status.{Status}
use Rattle.message.specs.declared.refusal.Refusal.TheVariants.{NoAccess, NoSpace}
use Rattle.message.specs.Command.{Given, refused, ask_by, unless_barred, barring}
use Rattle.demands.specs.LoneLock.{May}
use Rattle.demands.specs.Admitted.{Admitted, with-open}
use Rattle.demands.proofs.Admitted.{admitted-may, open-or, open-given}
use Rattle.demands.specs.WritingReasons.{Bars, WritingStatus, a_write, write-ends, write-open}
use Rattle.demands.specs.WritingReasons.{write-access}
use Rattle.demands.specs.WritingReasons.{write-barred}
use Rattle.demands.specs.WritingReasons.{write-not}
use Rattle.demands.specs.WritingReasons.{write-space}
use Rattle.demands.specs.WritingReasons.{write_done}

module _ (c : Caller) (t : Tables) (memory : List ℕ) (ok : sound t ≡ true) (fid : ℕ) (from size : Open → ℕ) (past : Bool) (next : Open → Given) (zero : (o : Open) → status_in (next o) ≡ status 0 0) where
  module _ (k : ℕ) (may : May c t fid k) where
    pub write-refused : eqb (write-open c t memory ok fid from size past next zero k may).access 0 ≡ true → (a_write c t memory ok fid from size past next zero) ≡ refused NoAccess
    write-refused e = with-open c t fid k _ may ∙ rw e

    pub write-is : eqb (write-open c t memory ok fid from size past next zero k may).access 0 ≡ false
        → (a_write c t memory ok fid from size past next zero) ≡ unless_barred t (barring t (ask_by c fid (from (write-open c t memory ok fid from size past next zero k may)) (size (write-open c t memory ok fid from size past next zero k may)) Writing)) (cond past (refused NoSpace) (next (write-open c t memory ok fid from size past next zero k may)))
    write-is e = with-open c t fid k _ may ∙ rw e

    pub write-either : eqb (write-open c t memory ok fid from size past next zero k may).access 0 ≡ false
        → ((Bars c t memory ok fid from size past next zero) (write-open c t memory ok fid from size past next zero k may) × (status_in (a_write c t memory ok fid from size past next zero) ≡ status 1 33)) ⊎ (((Bars c t memory ok fid from size past next zero) (write-open c t memory ok fid from size past next zero k may) → ⊥) × (status_in (a_write c t memory ok fid from size past next zero) ≡ cond past (status 3 39) (status 0 0)))
    write-either e = (write-ends c t memory ok fid from size past next zero k may) e (barring t (ask_by c fid (from (write-open c t memory ok fid from size past next zero k may)) (size (write-open c t memory ok fid from size past next zero k may)) Writing)) (write-is e)

  module _ {Past Fits : Type 0} (passes : (past ≡ true) ↔ Past) (fits : (past ≡ false) ↔ Fits) where
    -- the status has its reason
    pub writing-reason : WritingStatus c t fid (Bars c t memory ok fid from size past next zero) Past Fits (status_in (a_write c t memory ok fid from size past next zero))
    unfolding status_in forms_of
    writing-reason =
        elim (open-or c t fid) [
          | inl h ↦ rw (open-given c t fid _ h.1) (write-not h.1)
          | inr (k, may, a) ↦ elim (decided (eqb (get_or (opens_of t) k no_open).access 0)) [
            | inl e ↦ rw (write-refused k may e) (write-access a (eqb-true (get_or (opens_of t) k no_open).access 0 e))
            | inr e ↦ elim (write-either k may e) [
              | inl w ↦ rw w.1 (write-barred a (eqb-false (get_or (opens_of t) k no_open).access 0 e) w.0)
              | inr w ↦ elim (decided past) [
                | inl p ↦ rw (w.1, p) (write-space a (eqb-false (get_or (opens_of t) k no_open).access 0 e) w.0 (passes.0 p))
                | inr p ↦ rw (w.1, p) (write_done a (eqb-false (get_or (opens_of t) k no_open).access 0 e) w.0 (fits.0 p))
              ]
            ]
          ]
        ]

    -- no lock in the way: the write's end decides
    pub write-free : {o : Open} → Admitted c t fid o → (o.access ≡ 0 → ⊥) → ((Bars c t memory ok fid from size past next zero) o → ⊥) → status_in (a_write c t memory ok fid from size past next zero) ≡ cond past (status 3 39) (status 0 0)
    write-free {o} a n b =
        let m = admitted-may c t fid ok o a in
        let e = ne_eqb (get_or (opens_of t) m.0 no_open).access 0 (λ x. n (ap (λ (p : Open). p.access) (sym m.2) ∙ x)) in
        let b' : (Bars c t memory ok fid from size past next zero) (get_or (opens_of t) m.0 no_open) → ⊥ = rw m.2 b in
        elim (write-either m.0 m.1 e) [ inl w ↦ absurd (b' w.0) | inr w ↦ w.1 ]

    -- and where the reason holds, the status is given
    pub writing-given : {n : Status} → WritingStatus c t fid (Bars c t memory ok fid from size past next zero) Past Fits n → status_in (a_write c t memory ok fid from size past next zero) ≡ n
    unfolding status_in forms_of
    writing-given (write-not h) = open-given c t fid _ h
    writing-given (write-access {o} a e) =
        let m = admitted-may c t fid ok o a in
        ap status_in (write-refused m.0 m.1 (eq-eqb (get_or (opens_of t) m.0 no_open).access 0 (ap (λ (p : Open). p.access) m.2 ∙ e)))
    writing-given (write-barred {o} a n b) =
        let m = admitted-may c t fid ok o a in
        let e = ne_eqb (get_or (opens_of t) m.0 no_open).access 0 (λ x. n (ap (λ (p : Open). p.access) (sym m.2) ∙ x)) in
        let b' : (Bars c t memory ok fid from size past next zero) (get_or (opens_of t) m.0 no_open) = rw m.2 b in
        elim (write-either m.0 m.1 e) [ inl w ↦ w.1 | inr w ↦ absurd (w.0 b') ]
    writing-given (write-space a n b p) = rw (write-free a n b, passes.1 p)
    writing-given (write_done a n b h) = rw (write-free a n b, fits.1 h)

-- Of specs/StatusList.antt: what rests on its other theorems. Assumes nothing.
use Rattle.std.specs.Prelude.{◌≡◌, refl, ◌↔◌, ℕ, true, not, ◌&&◌, eqb, ltb}
use Rattle.std.proofs.Common.{sym, ap, ◌∙◌, arith, eqb-true, eq-eqb, ltb-true}
use mathlib.Core.List.Memᴰ.{head as first}
use mathlib.Core.List.Memᴰ.{tail as later}
use mathlib.Core.List.{◌∷◌}
use Rattle.std.proofs.lemmas.Bool.{eqb-false, not-true}
use Rattle.lists.specs.Walk.{all}
use Rattle.lists.specs.Truth.{both_hold, not-decided-twice, test-cases}
use Rattle.lists.specs.Members.{all-each}
use Rattle.message.specs.Refusal.{status, success, forms_of, status_of, nt_of}
use Rattle.message.specs.declared.refusal.Status.{Status}
use Rattle.message.specs.declared.refusal.Forms.{Forms}
use Rattle.message.specs.HeldBy.{HeldBy}
use Rattle.message.specs.declared.refusal.Refusal.{Refusal}
use Rattle.message.specs.declared.refusal.Refusal.TheVariants.{LockNotGranted}
use Rattle.claims.specs.StatusList.{Ended, FormsSay, FoundIn, RowSays, alike_same, as_one, as_one_lem, found_in, listed, lock-codes-read, pair_test, pairs-tested, read_nt, row_test, rows-tested, same-status, same_status, some_holder, status-same, status_list, zero-read}
use Rattle.claims.specs.StatusList.{a-refusal}
use Rattle.claims.specs.StatusList.{all_done}
use Rattle.claims.specs.StatusList.{at_row}
use Rattle.claims.specs.StatusList.{nowhere}

pub test-says : (f : Forms) → row_test f ≡ true → RowSays f
unfolding row_test
test-says f e =
    let h = both_hold (ltb f.status.class 256 && (ltb f.status.code 65536 && ltb f.nt 0x100000000)) ((not (same_status f.status (status 0 0)) && not (eqb f.nt 0)) && same_status (read_nt f.nt) f.status) e in
    let a = both_hold (ltb f.status.class 256) (ltb f.status.code 65536 && ltb f.nt 0x100000000) h.0 in
    let b = both_hold (ltb f.status.code 65536) (ltb f.nt 0x100000000) a.1 in
    let c = both_hold (not (same_status f.status (status 0 0)) && not (eqb f.nt 0)) (same_status (read_nt f.nt) f.status) h.1 in
    let d = both_hold (not (same_status f.status (status 0 0))) (not (eqb f.nt 0)) c.0 in
    record {
      class = ltb-true f.status.class 256 a.0;
      code = ltb-true f.status.code 65536 b.0;
      nt = ltb-true f.nt 0x100000000 b.1;
      old-not-zero = λ z. not-decided-twice (same_status f.status (status 0 0)) (status-same f.status (status 0 0) z) (not-true (same_status f.status (status 0 0)) d.0);
      nt-not-zero = λ z. not-decided-twice (eqb f.nt 0) (eq-eqb f.nt 0 z) (not-true (eqb f.nt 0) d.1);
      reads-back = same-status (read_nt f.nt) f.status c.1;
    }

pub row-says : (why : Refusal) → RowSays (forms_of why)
row-says why = test-says (forms_of why) (all-each row_test (listed why) rows-tested)

-- "A reader of either form must find the same refusal": the old forms of two refusals are equal exactly if their NT forms are, "the two lock codes being one in the old form"
pub one-old-form : (one other : Refusal) → (status_of one ≡ status_of other) ↔ (as_one (nt_of one) ≡ as_one (nt_of other))
unfolding forms_of pair_test
one-old-form one other =
    let e : pair_test (forms_of one) (forms_of other) ≡ true = all-each (pair_test (forms_of one)) (listed other) (all-each (λ f. all (pair_test f) status_list) (listed one) pairs-tested) in
    let same : same_status (status_of one) (status_of other) ≡ eqb (as_one (nt_of one)) (as_one (nt_of other)) = alike_same (same_status (status_of one) (status_of other)) (eqb (as_one (nt_of one)) (as_one (nt_of other))) e in (
      λ h. eqb-true (as_one (nt_of one)) (as_one (nt_of other)) (sym same ∙ status-same (status_of one) (status_of other) h),
      λ h. same-status (status_of one) (status_of other) (same ∙ eq-eqb (as_one (nt_of one)) (as_one (nt_of other)) h),
    )

-- so different refusals have different NT forms where the old forms differ
pub nt-apart : (one other : Refusal) → (status_of one ≡ status_of other → ⊥) → nt_of one ≡ nt_of other → ⊥
nt-apart one other differ e = differ ((one-old-form one other).1 (ap as_one e))

-- a reader of the NT form finds the old one
pub nt-read : (why : Refusal) → read_nt (nt_of why) ≡ status_of why
unfolding forms_of
nt-read why = (row-says why).reads-back

-- none is 0
pub none-zero : (why : Refusal) → (status_of why ≡ status 0 0 → ⊥) × (nt_of why ≡ 0 → ⊥)
unfolding forms_of
none-zero why = ((row-says why).old-not-zero, (row-says why).nt-not-zero)

-- so a reader of the NT form finds a refusal in its numbers, and in no other number
pub found-row : (why : Refusal) (n : ℕ) → FoundIn n (success ∷ status_list) (status_of why) → as_one n ≡ as_one (nt_of why)
unfolding pair_test status
found-row why n (at_row f (first e) same is) = absurd ((none-zero why).0 (sym is ∙ ap (λ (g : Forms). g.status) e))
found-row why n (at_row f (later i) same is) =
    let t : pair_test f (forms_of why) ≡ true = all-each (pair_test f) (listed why) (all-each (λ g. all (pair_test g) status_list) i pairs-tested) in
    let one : eqb (as_one f.nt) (as_one (nt_of why)) ≡ true = sym (alike_same (same_status f.status (status_of why)) (eqb (as_one f.nt) (as_one (nt_of why))) t) ∙ status-same f.status (status_of why) is in
    ap as_one same ∙ eqb-true (as_one f.nt) (as_one (nt_of why)) one
found-row why n (nowhere is) =
    let low = (row-says why).class in
    let high : 256 ≡ (status_of why).class = ap (λ (s : Status). s.class) is in
    absurd (let z : ⊥ = omega arith in z)

pub lock-code : (why : Refusal) → as_one (nt_of why) ≡ 0xC0000055 → status_of why ≡ status 1 33
unfolding forms_of
lock-code why e = (one-old-form why (LockNotGranted some_holder)).1 (e ∙ sym (as_one_lem.1 0xC0000055 (λ z. omega arith)))

pub number-found : (why : Refusal) (n : ℕ) → as_one n ≡ as_one (nt_of why) → read_nt n ≡ status_of why
number-found why n e =
    test-cases (eqb n 0xC0000054)
    (λ t. let is : n ≡ 0xC0000054 = eqb-true n 0xC0000054 t in
    ap read_nt is ∙ lock-codes-read.0 ∙ sym (lock-code why (sym e ∙ ap as_one is ∙ as_one_lem.0)))
    (λ t. let plain : as_one n ≡ n = as_one_lem.1 n (eqb-false n 0xC0000054 t) in
    test-cases (eqb (nt_of why) 0xC0000054)
    (λ u. let one : as_one (nt_of why) ≡ 0xC0000055 = ap as_one (eqb-true (nt_of why) 0xC0000054 u) ∙ as_one_lem.0 in
    ap read_nt (sym plain ∙ e ∙ one) ∙ lock-codes-read.1 ∙ sym (lock-code why one))
    (λ u. ap read_nt (sym plain ∙ e ∙ as_one_lem.1 (nt_of why) (eqb-false (nt_of why) 0xC0000054 u)) ∙ nt-read why))

pub found-exactly : (n : ℕ) (why : Refusal) → (read_nt n ≡ status_of why) ↔ (as_one n ≡ as_one (nt_of why))
unfolding read_nt
found-exactly n why = (λ e. found-row why n (found_in n (success ∷ status_list) (status_of why) e), number-found why n)

pub ended-says : {f : Forms} {h : HeldBy} → Ended f h → FormsSay f
unfolding status
ended-says all_done = record { class = omega arith; code = omega arith; nt = omega arith; reads-back = zero-read; zero-old = λ _. refl; zero-nt = λ _. refl }
ended-says (a-refusal why) =
    let r = row-says why in
    record { class = r.class; code = r.code; nt = r.nt; reads-back = r.reads-back; zero-old = λ z. absurd (r.old-not-zero z); zero-nt = λ z. absurd (r.nt-not-zero z) }

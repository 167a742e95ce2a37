-- Of specs/Sharing.antt: what rests on its other theorems. Assumes nothing.
use Rattle.std.specs.Prelude.{◌≡◌, refl, ◌↔◌, ℕ, true, ◌&&◌, ◌||◌, eqb}
use Rattle.std.proofs.Math.Logic.{inl, inr}
use borrow.Author.Tests.{eqb-true, eq-eqb}
use Rattle.lists.specs.Walk.{any}
use Rattle.lists.specs.Members.{any-one, one-any}
use Rattle.lists.specs.Truth.{both_hold, hold-both, either-holds, holds-first, holds-second}
use Rattle.records.specs.declared.Open.{Open}
use Rattle.records.specs.declared.Tables.{Tables}
use Rattle.records.specs.Held.{opens_of}
use Rattle.message.specs.Sharing.{reads, writes, denies_reading, denies_writing, denied, kept_out}
use Rattle.demands.specs.Sharing.{Clashes, Denies, Doing, Has, KeptOut, denies-some, denies-test, does, has-test, prevents, test-denies, test_has}
use Rattle.demands.specs.Sharing.{asks-denied}
use Rattle.demands.specs.Sharing.{denies-had}
use Rattle.demands.specs.Sharing.{reading}
use Rattle.demands.specs.Sharing.{writing}

pub host-denies-nothing : (d : Doing) → Denies 4 d → ⊥
host-denies-nothing d w = denies-some w refl

-- something that goes with the access is denied
pub denied-says : (access sharing : ℕ) → denied access sharing ≡ true → (d : Doing) × Has access d × Denies sharing d
unfolding denied does prevents
denied-says access sharing e =
    elim (either-holds (reads access && denies_reading sharing) (writes access && denies_writing sharing) e) [
      | inl a ↦
          let b = both_hold (reads access) (denies_reading sharing) a in
          (reading, test_has access reading b.0, test-denies sharing reading b.1)
      | inr a ↦
          let b = both_hold (writes access) (denies_writing sharing) a in
          (writing, test_has access writing b.0, test-denies sharing writing b.1)
    ]

pub says-denied : (access sharing : ℕ) (d : Doing) → Has access d → Denies sharing d → denied access sharing ≡ true
unfolding denied does prevents
says-denied access sharing reading h w =
    holds-first (reads access && denies_reading sharing) (writes access && denies_writing sharing)
    (hold-both (reads access) (denies_reading sharing) (has-test h) (denies-test w))
says-denied access sharing writing h w =
    holds-second (reads access && denies_reading sharing) (writes access && denies_writing sharing)
    (hold-both (writes access) (denies_writing sharing) (has-test h) (denies-test w))

module _ (t : Tables) (file access sharing : ℕ) where
  pub kept-says : any (kept_out file access sharing) (opens_of t) ≡ true → KeptOut t file access sharing
  unfolding kept_out
  kept-says e =
      let o = any-one (kept_out file access sharing) (opens_of t) e in
      let b = both_hold (eqb o.0.file file) (denied access o.0.sharing || denied o.0.access sharing) o.2 in
      record {
        another = o.0;
        listed = o.1;
        of-file = eqb-true o.0.file file b.0;
        clash = elim (either-holds (denied access o.0.sharing) (denied o.0.access sharing) b.1) [
          | inl a ↦ let w = denied-says access o.0.sharing a in asks-denied w.0 w.1 w.2
          | inr a ↦ let w = denied-says o.0.access sharing a in denies-had w.0 w.2 w.1
        ];
      }

  pub clash-test : (o : Open) → Clashes access sharing o → (denied access o.sharing || denied o.access sharing) ≡ true
  clash-test o (asks-denied d h w) = holds-first (denied access o.sharing) (denied o.access sharing) (says-denied access o.sharing d h w)
  clash-test o (denies-had d w h) = holds-second (denied access o.sharing) (denied o.access sharing) (says-denied o.access sharing d h w)

  pub says-kept : KeptOut t file access sharing → any (kept_out file access sharing) (opens_of t) ≡ true
  unfolding kept_out
  says-kept k =
      one-any (kept_out file access sharing) k.listed
      (hold-both (eqb k.another.file file) (denied access k.another.sharing || denied k.another.access sharing) (eq-eqb k.another.file file k.of-file)
      (clash-test k.another k.clash))

  -- "An open fails if it asks what another open of the file denies or denies what one has": the test is just that
  pub kept-out-plain : any (kept_out file access sharing) (opens_of t) ≡ true ↔ KeptOut t file access sharing
  kept-out-plain = (kept-says, says-kept)

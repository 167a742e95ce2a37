-- What opens of one file deny each other, in plain words (document 02, CR 6: "access codes 0 to 2, sharing codes 1 to 4: deny both, deny write, deny read, deny none"; "An
-- open fails if it asks what another open of the file denies or denies what one has; opens by the host deny nothing"), and that the test says just that.
-- Assumes nothing.
use Rattle.std.specs.Prelude.{◌≡◌, refl, ℕ, Bool, true, eqb}
use Rattle.std.proofs.Math.Logic.{inl, inr}
use Rattle.std.proofs.Common.{arith}
use mathlib.Core.List.{Memᴰ as In}
use borrow.Author.Tests.{eqb-true}
use Rattle.lists.specs.Truth.{either-holds}
use Rattle.records.specs.declared.Open.{Open}
use Rattle.records.specs.declared.Tables.{Tables}
use Rattle.records.specs.Held.{opens_of}
use Rattle.message.specs.Sharing.{reads, writes, denies_reading, denies_writing}

-- ---- the plain words

-- what an open is for
pub data Doing : Type 0 where
  reading : Doing
  writing : Doing

-- an access code asks for it, and an open of that access has it: 0 is reading, 1 is writing, 2 is both
pub data Has : ℕ → Doing → Type 0 where
  reads-0 : Has 0 reading
  writes-1 : Has 1 writing
  reads-2 : Has 2 reading
  writes-2 : Has 2 writing

-- a sharing code denies it to others: 1 denies both, 2 writing, 3 reading, 4 nothing
pub data Denies : ℕ → Doing → Type 0 where
  reading-by-1 : Denies 1 reading
  writing-by-1 : Denies 1 writing
  writing-by-2 : Denies 2 writing
  reading-by-3 : Denies 3 reading

-- the asker "asks what another open .. denies or denies what one has"
pub data Clashes (access sharing : ℕ) (o : Open) : Type 0 where
  asks-denied : (d : Doing) → Has access d → Denies o.sharing d → Clashes access sharing o
  denies-had : (d : Doing) → Denies sharing d → Has o.access d → Clashes access sharing o

-- an open of the file, whoever has it, clashes with what is asked
pub record KeptOut (t : Tables) (file access sharing : ℕ) : Type 0 where
  pub another : Open
  pub listed : In another (opens_of t)
  pub of-file : another.file ≡ file
  pub clash : Clashes access sharing another

-- "opens by the host deny nothing": they have code 4
pub denies-some : {code : ℕ} {d : Doing} → Denies code d → code ≡ 4 → ⊥
denies-some reading-by-1 e = omega arith
denies-some writing-by-1 e = omega arith
denies-some writing-by-2 e = omega arith
denies-some reading-by-3 e = omega arith

-- ---- the tests behind them

unfoldable pub does : ℕ → Doing → Bool
unfolding reads writes
does access reading = reads access
does access writing = writes access

unfoldable pub prevents : ℕ → Doing → Bool
unfolding denies_reading denies_writing
prevents sharing reading = denies_reading sharing
prevents sharing writing = denies_writing sharing

pub has-test : {access : ℕ} {d : Doing} → Has access d → does access d ≡ true
unfolding does reads writes
has-test reads-0 = refl
has-test writes-1 = refl
has-test reads-2 = refl
has-test writes-2 = refl

pub test_has : (access : ℕ) (d : Doing) → does access d ≡ true → Has access d
unfolding does reads writes
test_has access reading e =
    elim (either-holds (eqb access 0) (eqb access 2) e) [ inl a ↦ rw (eqb-true access 0 a) reads-0 | inr a ↦ rw (eqb-true access 2 a) reads-2 ]
test_has access writing e =
    elim (either-holds (eqb access 1) (eqb access 2) e) [ inl a ↦ rw (eqb-true access 1 a) writes-1 | inr a ↦ rw (eqb-true access 2 a) writes-2 ]

pub denies-test : {sharing : ℕ} {d : Doing} → Denies sharing d → prevents sharing d ≡ true
unfolding prevents denies_reading denies_writing
denies-test reading-by-1 = refl
denies-test writing-by-1 = refl
denies-test writing-by-2 = refl
denies-test reading-by-3 = refl

pub test-denies : (sharing : ℕ) (d : Doing) → prevents sharing d ≡ true → Denies sharing d
unfolding prevents denies_reading denies_writing
test-denies sharing reading e =
    elim (either-holds (eqb sharing 1) (eqb sharing 3) e) [ inl a ↦ rw (eqb-true sharing 1 a) reading-by-1 | inr a ↦ rw (eqb-true sharing 3 a) reading-by-3 ]
test-denies sharing writing e =
    elim (either-holds (eqb sharing 1) (eqb sharing 2) e) [ inl a ↦ rw (eqb-true sharing 1 a) writing-by-1 | inr a ↦ rw (eqb-true sharing 2 a) writing-by-2 ]

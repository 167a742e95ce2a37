-- Which test a purpose is for.
-- Assumes nothing.
use mathlib.Core.Path.{◌≡◌, refl}
use Prim.Native.Nat.{ℕ}
use Rattle.records.specs.declared.Lock.{Lock}
use Rattle.locks.specs.Answer.{in_way, named, answers_for, answers}
use Rattle.locks.specs.declared.types.Ask.{Ask}
use Rattle.locks.specs.declared.types.Purpose.{Purpose}
use Rattle.locks.specs.declared.types.Purpose.TheVariants.{Grant, Read, Write, Release}

way-for : (p : Purpose) (file : ℕ → ℕ) (q : Ask) (l : Lock) → (p ≡ Release → ⊥) → in_way file q l ≡ answers_for p file q l
unfolding answers_for
way-for (Grant shared) file q l h = refl
way-for Read file q l h = refl
way-for Write file q l h = refl
way-for Release file q l h = absurd (h refl)

module _ (file : ℕ → ℕ) (q : Ask) (l : Lock) where
  -- an unlock asks for the lock that it names
  pub answers-name : q.purpose ≡ Release → named q l ≡ answers file q l
  unfolding answers answers_for
  answers-name e = rw e

  -- all else for one in the way
  pub answers-way : (q.purpose ≡ Release → ⊥) → in_way file q l ≡ answers file q l
  unfolding answers
  answers-way h = way-for q.purpose file q l h

-- What a function that answers a test says, where the code asks `if !f(..)`. Assumes nothing.
use Rattle.std.specs.Prelude.{◌≡◌, Bool, true, false, not}
use Rattle.std.proofs.Common.{sym, ◌∙◌}
use Rattle.std.proofs.lemmas.Bool.{not-true, not-false}

pub told-no : {r b : Bool} → r ≡ b → not r ≡ true → b ≡ false
told-no {r} e h = sym e ∙ not-true r h

pub told-yes : {r b : Bool} → r ≡ b → not r ≡ false → b ≡ true
told-yes {r} e h = sym e ∙ not-false r h

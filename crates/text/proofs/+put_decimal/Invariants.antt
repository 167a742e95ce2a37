use Rattle.text.proofs.+put_decimal.Given as goal

-- a tenth of a number of two digits at least is smaller, so the number falls
abbrev pub decreases-put_decimal : goal.decreases-put_decimal
decreases-put_decimal l = l.n

use Rattle.text.proofs.+put_decimal.Given as goal

-- one digit fewer in each call
abbrev pub decreases-put_decimal : goal.decreases-put_decimal
decreases-put_decimal l = l.n

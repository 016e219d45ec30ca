use Rattle.slint_literals.proofs.writing.+push_last_digits.Given as goal

-- how many digits are to be written
abbrev pub decreases-push_last_digits : goal.decreases-push_last_digits
decreases-push_last_digits l = l.count

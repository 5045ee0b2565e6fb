-- `put_digits` ends: the measure is how many digits may come.
-- Assumes nothing.
use Rattle.requests.proofs.print.+put_digits.Given as goal

abbrev pub decreases-put_digits : goal.decreases-put_digits
decreases-put_digits l = l.most

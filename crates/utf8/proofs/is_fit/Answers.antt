-- `is_fit` meets its contract: its test is that of the definition.
-- Assumes nothing.
use Rattle.utf8.specs.Check.{fits_after}
use Rattle.utf8.proofs.is_fit.Goals as goal

pub returns-then-is_open : goal.returns-then-is_open
unfolding fits_after
returns-then-is_open c = rw (← c.is_open.ensures, c.if-is_open.true) c.goes_on.ensures

pub returns : goal.returns
unfolding fits_after
returns c = rw (← c.is_open.ensures, c.if-is_open.false) c.is_start.ensures

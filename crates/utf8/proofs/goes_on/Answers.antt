-- `goes_on_lem` meets its contract: `low` and `high` are the two ends of the range.
-- Assumes nothing.
use Rattle.utf8.proofs.goes_on.Goals as goal

pub returns : goal.returns
returns c = rw (← c.low.ensures, ← c.high.ensures) c.is_within.ensures

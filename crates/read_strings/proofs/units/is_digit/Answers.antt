-- `is_digit` meets its contract: its two tests are the definition's.
-- Assumes nothing.
use Rattle.read_strings.proofs.units.is_digit.Goals as goal

pub returns : goal.returns
returns c = rw (c.is_within.ensures, c.is_within-2.ensures)

-- `is_hexed` meets its contract: its tests are the definition's.
-- Assumes nothing.
use Rattle.read_strings.proofs.units.is_hexed.Goals as goal

pub returns : goal.returns
returns c = rw (c.is_within.ensures, c.is_digit.ensures)

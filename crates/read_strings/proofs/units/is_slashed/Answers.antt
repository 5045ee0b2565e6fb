-- `is_slashed` meets its contract: its tests are the definition's.
-- Assumes nothing.
use Rattle.read_strings.proofs.units.is_slashed.Goals as goal

pub returns : goal.returns
returns c = rw (c.is_key.ensures, c.is_key-2.ensures)

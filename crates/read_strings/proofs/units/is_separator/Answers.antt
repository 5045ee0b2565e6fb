-- `is_separator` meets its contract: its tests are the definition's.
-- Assumes nothing.
use Rattle.read_strings.proofs.units.is_separator.Goals as goal

pub returns-in-Script : goal.returns-in-Script
returns-in-Script c = rw (c.in-Script.is, c.is_within.ensures)

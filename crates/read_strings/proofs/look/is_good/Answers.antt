-- `is_good` meets its contract: its tests are those of the definition.
-- Assumes nothing.
use Rattle.read_strings.proofs.look.is_good.Goals as goal

pub returns : goal.returns
returns c = rw (c.is_within.ensures, c.is_key.ensures)

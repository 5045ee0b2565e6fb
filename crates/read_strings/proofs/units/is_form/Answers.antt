-- `is_form` meets its contract: its three tests are the definition's.
-- Assumes nothing.
use Rattle.read_strings.proofs.units.is_form.Goals as goal

pub returns : goal.returns
returns c = rw (c.is_slashed.ensures, c.is_hex.ensures, c.is_separator.ensures)

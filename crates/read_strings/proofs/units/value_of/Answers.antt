-- `value_of` meets its contract: the digits are where the language has them.
-- Assumes nothing.
use Rattle.read_strings.proofs.units.value_of.Goals as goal

pub returns-in-Script : goal.returns-in-Script
returns-in-Script c = rw (c.in-Script.is, c.hex_of.ensures)

pub returns-in-Style : goal.returns-in-Style
returns-in-Style c = rw (c.in-Style.is, c.hex_of-in-Style.ensures)

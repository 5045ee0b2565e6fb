-- `is_hex` meets its contract: its tests are the definition's, in each language.
-- Assumes nothing.
use Rattle.read_strings.proofs.units.is_hex.Goals as goal

pub returns-in-Script : goal.returns-in-Script
returns-in-Script c = rw (c.in-Script.is, c.is_hexed.ensures)

pub returns-in-Style : goal.returns-in-Style
returns-in-Style c = rw (c.in-Style.is, c.is_hexed-in-Style.ensures)

-- `step_char` meets its contract, by the first byte.
-- Assumes nothing.
-- src/units.rt:167:9
-- src/units.rt:164:1
use mathlib.Core.Path.{refl}
use borrow.Author.Tests.{eq-eqb, ne_eqb}
use Rattle.read_units.proofs.units.step_char.Goals as goal

pub returns-then-first-eq38 : goal.returns-then-first-eq38
returns-then-first-eq38 c = rw (eq-eqb _ _ c.if-first-eq38.true) c.char_of-character.ensures

-- src/units.rt:164:1

pub returns-else-first-eq38 : goal.returns-else-first-eq38
returns-else-first-eq38 c = rw (ne_eqb _ _ c.if-first-eq38.false) refl

-- `step_of` meets its contract, by the first byte.
-- Assumes nothing.
-- src/units.rt:159:9
-- src/units.rt:156:1
use mathlib.Core.Path.{refl}
use native.Mathlib.Omega.{arith}
use borrow.Author.Tests.{eq-eqb, ne_eqb}
use Rattle.read_units.proofs.units.step_of.Goals as goal

pub returns-then-first-eq38 : goal.returns-then-first-eq38
returns-then-first-eq38 c = rw (eq-eqb _ _ c.if-first-eq38.true) (c.length_of-n.ensures.0, omega (arith, c.length_of-n.ensures.0), c.length_of-n.ensures.1)

-- src/units.rt:156:1

pub returns-else-first-eq38 : goal.returns-else-first-eq38
returns-else-first-eq38 c = rw (ne_eqb _ _ c.if-first-eq38.false) (refl, omega arith, omega arith)

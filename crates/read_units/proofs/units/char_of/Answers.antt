-- `char_of_lem` meets its contract: by the second byte the number of the digits, or the sum of the definition, term by term.
-- Assumes nothing.
use borrow.Author.Tests.{eq-eqb, ne_eqb}
use Rattle.read_units.proofs.units.char_of.Goals as goal

pub returns-then-second-eq35 : goal.returns-then-second-eq35
returns-then-second-eq35 c = rw (eq-eqb _ _ c.if-second-eq35.true) c.value_of-value.ensures.0

pub returns-else-second-eq35 : goal.returns-else-second-eq35
returns-else-second-eq35 c = rw (ne_eqb _ _ c.if-second-eq35.false, c.when.ensures.0, c.when-2.ensures.0, c.when-3.ensures.0, c.when-4.ensures.0)

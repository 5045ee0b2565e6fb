-- `changed` meets its contract, by its test.
-- Assumes nothing.
use borrow.Author.Tests.{eq-eqb, ne_eqb}
use Rattle.encode_ascii.proofs.characters.changed.Goals as goal

pub returns-then-written-eq1 : goal.returns-then-written-eq1
returns-then-written-eq1 c = rw (eq-eqb _ _ c.if-written-eq1.true)

pub returns-else-written-eq1 : goal.returns-else-written-eq1
returns-else-written-eq1 c = rw (ne_eqb _ _ c.if-written-eq1.false)

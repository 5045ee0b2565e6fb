-- `too_long` meets its contract, by the one test.
-- Assumes nothing.
use borrow.Author.Tests.{eq-eqb, ne_eqb}
use Rattle.requests.proofs.too_long.Goals as goal

pub returns-then-empty-eq-BAD_CONTEXT : goal.returns-then-empty-eq-BAD_CONTEXT
returns-then-empty-eq-BAD_CONTEXT c = rw (eq-eqb _ _ c.if-empty-eq-BAD_CONTEXT.true)

pub returns : goal.returns
returns c = rw (ne_eqb _ _ c.if-empty-eq-BAD_CONTEXT.false) c.from.ensures

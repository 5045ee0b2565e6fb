-- `begin` meets its contract.
-- Assumes nothing.
use borrow.Author.Tests.{lt-ltb, le-ltb}
use Rattle.page.proofs.begin.Goals as goal

pub returns-then-count-gt-FIELD_LIMIT : goal.returns-then-count-gt-FIELD_LIMIT
returns-then-count-gt-FIELD_LIMIT c = simp (lt-ltb _ _ c.if-count-gt-FIELD_LIMIT.true)

pub returns : goal.returns
returns c = simp (le-ltb _ _ c.if-count-gt-FIELD_LIMIT.false)

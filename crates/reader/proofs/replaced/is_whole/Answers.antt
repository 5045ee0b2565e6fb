-- `is_whole` meets its contract: each return by the tests that led there.
-- Assumes nothing.
use borrow.Author.Tests.{ne_eqb}
use Rattle.reader.proofs.replaced.is_whole.Goals as goal

pub returns-then-rest : goal.returns-then-rest
returns-then-rest c = rw (ne_eqb _ 226 c.if-rest.true)

pub returns-then-starts : goal.returns-then-starts
returns-then-starts c = rw (c.if-rest.false, ← c.starts.ensures, c.if-starts.true)

pub returns : goal.returns
returns c = rw (c.if-rest.false, ← c.starts.ensures, c.if-starts.false) c.starts-2.ensures

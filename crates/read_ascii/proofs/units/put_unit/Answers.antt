-- `put_unit` meets its contract.
-- Assumes nothing.
use borrow.Author.Tests.{le-leb, lt-leb}
use Rattle.read_ascii.proofs.units.put_unit.Goals as goal

pub returns-then-code-ge128 : goal.returns-then-code-ge128
returns-then-code-ge128 c = rw (le-leb 0x80 c.args.code c.if-code-ge128.true) c.put_reference.ensures

pub returns : goal.returns
returns c = rw (lt-leb 0x80 c.args.code c.if-code-ge128.false) c.put_quoted.ensures

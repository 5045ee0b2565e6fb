-- `encode_strings::rule::hex_by` meets its contract: by the notation, and in a style string by the test for NUL.
-- Assumes nothing.
-- src/rule.rt:88:29
-- src/rule.rt:89:31
-- src/rule.rt:94:27
-- src/rule.rt:84:1
-- src/rule.rt:84:1
use borrow.Author.Tests.{eq-eqb, ne_eqb}
use Rattle.encode_strings.proofs.rule.hex_by.Goals as goal

pub returns-then-b-eq0 : goal.returns-then-b-eq0
returns-then-b-eq0 c = rw (c.in-Style.is, eq-eqb _ 0 c.if-b-eq0.true)

-- src/rule.rt:84:1

pub returns-else-b-eq0 : goal.returns-else-b-eq0
returns-else-b-eq0 c = rw (c.in-Style.is, ne_eqb _ 0 c.if-b-eq0.false)

-- src/rule.rt:84:1

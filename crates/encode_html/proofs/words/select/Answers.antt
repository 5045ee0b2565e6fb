-- The test of the key, both ways.
-- Assumes nothing.
use borrow.Author.Tests.{eq-eqb, ne_eqb}
use Rattle.encode_html.proofs.words.select.Goals as goal

pub returns-then-b-key : goal.returns-then-b-key
returns-then-b-key c = rw (eq-eqb _ _ c.if-b-key.true)

pub returns-else-b-key : goal.returns-else-b-key
returns-else-b-key c = rw (ne_eqb _ _ c.if-b-key.false)

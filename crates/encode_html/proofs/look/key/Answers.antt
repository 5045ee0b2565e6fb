-- `encode_html::look::key` meets its contract: by its test.
-- Assumes nothing.
use borrow.Author.Tests.{eq-eqb, ne_eqb}
use Rattle.encode_html.proofs.look.key.Goals as goal

pub returns-then-gain-eq0 : goal.returns-then-gain-eq0
returns-then-gain-eq0 c = rw (eq-eqb _ _ c.if-gain-eq0.true)

pub returns-else-gain-eq0 : goal.returns-else-gain-eq0
returns-else-gain-eq0 c = rw (ne_eqb _ _ c.if-gain-eq0.false)

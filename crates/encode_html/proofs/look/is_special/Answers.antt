-- `encode_html::look::is_special` meets its contract: its tests are the definition's.
-- Assumes nothing.
use Rattle.encode_html.proofs.look.is_special.Goals as goal

pub returns-then-k : goal.returns-then-k
returns-then-k c = rw c.if-k.true

pub returns : goal.returns
returns c = rw c.if-k.false

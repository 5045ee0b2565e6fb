-- `escape_title` meets its contract: it is that of `encode`, whose context number is computed.
-- Assumes nothing.
use Rattle.rules.specs.Contexts.{context_of}
use Rattle.nameplate.proofs.escape_title.Goals as goal

pub returns : goal.returns
unfolding context_of
returns c = c.encode.ensures

-- `call` meets its contract: its answer is the one that the reply tells.
-- Assumes nothing.
use mathlib.Core.Path.{◌∙◌}
use Rattle.frame.proofs.call.Goals as goal

pub returns : goal.returns
returns c = (c.from.ensures ∙ c.replied.ensures.0, c.replied.ensures.1)

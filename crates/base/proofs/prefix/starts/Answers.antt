-- `starts` meets its contract: what the slices' own method says is what the rules say.
-- Assumes nothing.
use Rattle.std.proofs.Common.{◌∙◌}
use Rattle.base.proofs.Standing.{starts-stands}
use Rattle.base.proofs.prefix.starts.Goals as goal

pub returns : goal.returns
returns c = c.starts_with.ensures.value ∙ starts-stands c.args.pattern.now c.args.rest.now

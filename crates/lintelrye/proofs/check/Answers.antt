-- `check` meets its contract: it is what is left of the answer of a taking call into no bytes.
-- Assumes nothing.
use mathlib.Core.Path.{ap, ◌∙◌}
use Rattle.rules.specs.Refusals.{checked}
use Rattle.lintelrye.proofs.check.Goals as goal

pub returns : goal.returns
returns c = c.without_output.ensures ∙ ap checked (c.from.ensures ∙ c.replied-reply.ensures.0)

-- `single_key` meets its contract: that of the quotes which the string escapes.
-- Assumes nothing.
-- src/rule.rt:59:15
-- src/rule.rt:59:5
-- src/rule.rt:56:1
use mathlib.Core.Path.{ap, ◌∙◌}
use Rattle.encode_strings.specs.Strings.{single_of}
use Rattle.encode_strings.proofs.rule.single_key.Goals as goal

pub returns : goal.returns
returns c = c.single_of.ensures ∙ ap single_of c.quotes_in.ensures

-- `double_key` meets its contract: that of the quotes which the string escapes.
-- Assumes nothing.
-- src/rule.rt:66:15
-- src/rule.rt:66:5
-- src/rule.rt:63:1
use mathlib.Core.Path.{ap, ◌∙◌}
use Rattle.encode_strings.specs.Strings.{double_of}
use Rattle.encode_strings.proofs.rule.double_key.Goals as goal

pub returns : goal.returns
returns c = c.double_of.ensures ∙ ap double_of c.quotes_in.ensures

-- `base::upper_digit_value` meets its contract: its value is that of the computed law.
-- Assumes nothing.
use mathlib.Core.Path.{◌∙◌, ap}
use borrow.Author.Rules.{rules}
use Rattle.base.specs.Digits.{of_sixteen}
use Rattle.base.proofs.Digits.{upper-right}
use Rattle.base.proofs.upper_digit_value.Goals as goal

pub returns-clause-value : goal.returns-clause-value
returns-clause-value c = c.of_sixteen.ensures ∙ ap of_sixteen c.upper_value.ensures ∙ upper-right c.args.byte (search rules)

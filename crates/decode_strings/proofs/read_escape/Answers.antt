-- `read_escape` meets its contract: a row that stands there is the first match; where none does, the rule after `<` decides.
-- Assumes nothing.
use Rattle.std.proofs.Common.{◌∙◌}
use Rattle.decode_strings.proofs.Strings.{row-found, row-after}
use Rattle.decode_strings.proofs.read_escape.Goals as goal

pub returns-in-Some : goal.returns-in-Some
returns-in-Some c = (row-found c.args.language c.args.before c.args.rest.now c.in-Some.ensures, c.in-Some.ensures.within)

pub returns : goal.returns
returns c = (c.after_less.ensures.0 ∙ row-after c.args.language c.args.before c.args.rest.now c.in_default.ensures, c.after_less.ensures.1)

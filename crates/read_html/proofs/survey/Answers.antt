-- `survey` meets its contract, by the context.
-- Assumes nothing.
use Rattle.read_html.proofs.survey.Goals as goal

pub measure-requires : goal.measure-requires
measure-requires c = c.requires.0

pub returns-in-Unquoted : goal.returns-in-Unquoted
returns-in-Unquoted c = rw c.in-Unquoted.is c.measure.ensures

pub measure-requires-2 : goal.measure-requires-2
measure-requires-2 c = (c.requires.0, c.requires.1 c.in_default.not-Unquoted)

pub returns : goal.returns
returns c = c.measure-2.ensures

-- `names_upper::upper_x` meets its contract: computed, its numbers are those rows of the table.
-- Made by tools/make_names.py. Assumes nothing.
use Rattle.rules.specs.Names.{upper-X}
use Rattle.names_search.specs.Listed.{listed}
use Rattle.names_upper.proofs.upper_x.Goals as goal

pub returns : goal.returns
unfolding upper-X listed
returns c = c.find.ensures 0x58

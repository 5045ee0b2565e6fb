-- `names_upper::upper_r_1` meets its contract: computed, its numbers are those rows of the table.
-- Made by tools/make_names.py. Assumes nothing.
use Rattle.rules.specs.Names.{upper-R}
use Rattle.names_search.specs.Listed.{listed}
use Rattle.names_upper.proofs.upper_r_1.Goals as goal

pub returns : goal.returns
unfolding upper-R listed
returns c = c.find.ensures 0x52

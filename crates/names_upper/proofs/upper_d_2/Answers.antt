-- `names_upper::upper_d_2` meets its contract: computed, its numbers are those rows of the table.
-- Made by tools/make_names.py. Assumes nothing.
use Rattle.rules.specs.Names.{upper-D}
use Rattle.names_search.specs.Listed.{listed}
use Rattle.names_upper.proofs.upper_d_2.Goals as goal

pub returns : goal.returns
unfolding upper-D listed
returns c = c.find.ensures 0x44

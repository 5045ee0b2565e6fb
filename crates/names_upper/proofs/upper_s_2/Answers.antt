-- `names_upper::upper_s_2` meets its contract: computed, its numbers are those rows of the table.
-- Made by tools/make_names.py. Assumes nothing.
use Rattle.rules.specs.Names.{upper-S}
use Rattle.names_search.specs.Listed.{listed}
use Rattle.names_upper.proofs.upper_s_2.Goals as goal

pub returns : goal.returns
unfolding upper-S listed
returns c = c.find.ensures 0x53

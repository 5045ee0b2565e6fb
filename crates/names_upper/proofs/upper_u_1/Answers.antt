-- `names_upper::upper_u_1` meets its contract: computed, its numbers are those rows of the table.
-- Made by tools/make_names.py. Assumes nothing.
use Rattle.rules.specs.Names.{upper-U}
use Rattle.names_search.specs.Listed.{listed}
use Rattle.names_upper.proofs.upper_u_1.Goals as goal

pub returns : goal.returns
unfolding upper-U listed
returns c = c.find.ensures 0x55

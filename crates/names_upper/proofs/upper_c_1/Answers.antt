-- `names_upper::upper_c_1` meets its contract: computed, its numbers are those rows of the table.
-- Made by tools/make_names.py. Assumes nothing.
use Rattle.rules.specs.Names.{upper-C}
use Rattle.names_search.specs.Listed.{listed}
use Rattle.names_upper.proofs.upper_c_1.Goals as goal

pub returns : goal.returns
unfolding upper-C listed
returns c = c.find.ensures 0x43

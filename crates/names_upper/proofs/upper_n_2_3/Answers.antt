-- `names_upper::upper_n_2_3` meets its contract: computed, its numbers are those rows of the table.
-- Made by tools/make_names.py. Assumes nothing.
use Rattle.rules.specs.Names.{upper-N}
use Rattle.names_search.specs.Listed.{listed}
use Rattle.names_upper.proofs.upper_n_2_3.Goals as goal

pub returns : goal.returns
unfolding upper-N listed
returns c = c.find.ensures 0x4E

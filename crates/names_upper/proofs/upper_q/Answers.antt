-- `names_upper::upper_q` meets its contract: computed, its numbers are those rows of the table.
-- Made by tools/make_names.py. Assumes nothing.
use Rattle.rules.specs.Names.{upper-Q}
use Rattle.names_search.specs.Listed.{listed}
use Rattle.names_upper.proofs.upper_q.Goals as goal

pub returns : goal.returns
unfolding upper-Q listed
returns c = c.find.ensures 0x51

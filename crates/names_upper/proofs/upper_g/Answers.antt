-- `names_upper::upper_g` meets its contract: computed, its numbers are those rows of the table.
-- Made by tools/make_names.py. Assumes nothing.
use Rattle.rules.specs.Names.{upper-G}
use Rattle.names_search.specs.Listed.{listed}
use Rattle.names_upper.proofs.upper_g.Goals as goal

pub returns : goal.returns
unfolding upper-G listed
returns c = c.find.ensures 0x47

-- `names_upper::upper_z` meets its contract: computed, its numbers are those rows of the table.
-- Made by tools/make_names.py. Assumes nothing.
use Rattle.rules.specs.Names.{upper-Z}
use Rattle.names_search.specs.Listed.{listed}
use Rattle.names_upper.proofs.upper_z.Goals as goal

pub returns : goal.returns
unfolding upper-Z listed
returns c = c.find.ensures 0x5A

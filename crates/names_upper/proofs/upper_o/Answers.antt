-- `names_upper::upper_o` meets its contract: computed, its numbers are those rows of the table.
-- Made by tools/make_names.py. Assumes nothing.
use Rattle.rules.specs.Names.{upper-O}
use Rattle.names_search.specs.Listed.{listed}
use Rattle.names_upper.proofs.upper_o.Goals as goal

pub returns : goal.returns
unfolding upper-O listed
returns c = c.find.ensures 0x4F

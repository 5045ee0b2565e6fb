-- `names_upper::upper_b` meets its contract: computed, its numbers are those rows of the table.
-- Made by tools/make_names.py. Assumes nothing.
use Rattle.rules.specs.Names.{upper-B}
use Rattle.names_search.specs.Listed.{listed}
use Rattle.names_upper.proofs.upper_b.Goals as goal

pub returns : goal.returns
unfolding upper-B listed
returns c = c.find.ensures 0x42

-- `names_upper::upper_a` meets its contract: computed, its numbers are those rows of the table.
-- Made by tools/make_names.py. Assumes nothing.
use Rattle.rules.specs.Names.{upper-A}
use Rattle.names_search.specs.Listed.{listed}
use Rattle.names_upper.proofs.upper_a.Goals as goal

pub returns : goal.returns
unfolding upper-A listed
returns c = c.find.ensures 0x41

-- `names_upper::upper_w` meets its contract: computed, its numbers are those rows of the table.
-- Made by tools/make_names.py. Assumes nothing.
use Rattle.rules.specs.Names.{upper-W}
use Rattle.names_search.specs.Listed.{listed}
use Rattle.names_upper.proofs.upper_w.Goals as goal

pub returns : goal.returns
unfolding upper-W listed
returns c = c.find.ensures 0x57

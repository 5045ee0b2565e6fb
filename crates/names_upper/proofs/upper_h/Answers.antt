-- `names_upper::upper_h` meets its contract: computed, its numbers are those rows of the table.
-- Made by tools/make_names.py. Assumes nothing.
use Rattle.rules.specs.Names.{upper-H}
use Rattle.names_search.specs.Listed.{listed}
use Rattle.names_upper.proofs.upper_h.Goals as goal

pub returns : goal.returns
unfolding upper-H listed
returns c = c.find.ensures 0x48

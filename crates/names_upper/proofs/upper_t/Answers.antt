-- `names_upper::upper_t` meets its contract: computed, its numbers are those rows of the table.
-- Made by tools/make_names.py. Assumes nothing.
use Rattle.rules.specs.Names.{upper-T}
use Rattle.names_search.specs.Listed.{listed}
use Rattle.names_upper.proofs.upper_t.Goals as goal

pub returns : goal.returns
unfolding upper-T listed
returns c = c.find.ensures 0x54

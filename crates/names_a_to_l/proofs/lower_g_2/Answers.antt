-- `names_a_to_l::lower_g_2` meets its contract: computed, its numbers are those rows of the table.
-- Made by tools/make_names.py. Assumes nothing.
use Rattle.rules.specs.Names.{lower-g}
use Rattle.names_search.specs.Listed.{listed}
use Rattle.names_a_to_l.proofs.lower_g_2.Goals as goal

pub returns : goal.returns
unfolding lower-g listed
returns c = c.find.ensures 0x67

-- `names_a_to_l::lower_b_1` meets its contract: computed, its numbers are those rows of the table.
-- Made by tools/make_names.py. Assumes nothing.
use Rattle.rules.specs.Names.{lower-b}
use Rattle.names_search.specs.Listed.{listed}
use Rattle.names_a_to_l.proofs.lower_b_1.Goals as goal

pub returns : goal.returns
unfolding lower-b listed
returns c = c.find.ensures 0x62

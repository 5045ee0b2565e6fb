-- `names_a_to_l::lower_i_2` meets its contract: computed, its numbers are those rows of the table.
-- Made by tools/make_names.py. Assumes nothing.
use Rattle.rules.specs.Names.{lower-i}
use Rattle.names_search.specs.Listed.{listed}
use Rattle.names_a_to_l.proofs.lower_i_2.Goals as goal

pub returns : goal.returns
unfolding lower-i listed
returns c = c.find.ensures 0x69

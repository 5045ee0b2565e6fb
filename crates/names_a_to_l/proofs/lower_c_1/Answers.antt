-- `names_a_to_l::lower_c_1` meets its contract: computed, its numbers are those rows of the table.
-- Made by tools/make_names.py. Assumes nothing.
use Rattle.rules.specs.Names.{lower-c}
use Rattle.names_search.specs.Listed.{listed}
use Rattle.names_a_to_l.proofs.lower_c_1.Goals as goal

pub returns : goal.returns
unfolding lower-c listed
returns c = c.find.ensures 0x63

-- `names_a_to_l::lower_a_3` meets its contract: computed, its numbers are those rows of the table.
-- Made by tools/make_names.py. Assumes nothing.
use Rattle.rules.specs.Names.{lower-a}
use Rattle.names_search.specs.Listed.{listed}
use Rattle.names_a_to_l.proofs.lower_a_3.Goals as goal

pub returns : goal.returns
unfolding lower-a listed
returns c = c.find.ensures 0x61

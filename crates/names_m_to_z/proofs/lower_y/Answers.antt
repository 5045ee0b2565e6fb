-- `names_m_to_z::lower_y` meets its contract: computed, its numbers are those rows of the table.
-- Made by tools/make_names.py. Assumes nothing.
use Rattle.rules.specs.Names.{lower-y}
use Rattle.names_search.specs.Listed.{listed}
use Rattle.names_m_to_z.proofs.lower_y.Goals as goal

pub returns : goal.returns
unfolding lower-y listed
returns c = c.find.ensures 0x79

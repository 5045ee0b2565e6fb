-- `names_m_to_z::lower_z` meets its contract: computed, its numbers are those rows of the table.
-- Made by tools/make_names.py. Assumes nothing.
use Rattle.rules.specs.Names.{lower-z}
use Rattle.names_search.specs.Listed.{listed}
use Rattle.names_m_to_z.proofs.lower_z.Goals as goal

pub returns : goal.returns
unfolding lower-z listed
returns c = c.find.ensures 0x7A

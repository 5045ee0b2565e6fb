-- `names_m_to_z::lower_p_1` meets its contract: computed, its numbers are those rows of the table.
-- Made by tools/make_names.py. Assumes nothing.
use Rattle.rules.specs.Names.{lower-p}
use Rattle.names_search.specs.Listed.{listed}
use Rattle.names_m_to_z.proofs.lower_p_1.Goals as goal

pub returns : goal.returns
unfolding lower-p listed
returns c = c.find.ensures 0x70

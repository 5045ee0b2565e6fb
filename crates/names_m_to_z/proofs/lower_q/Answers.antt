-- `names_m_to_z::lower_q` meets its contract: computed, its numbers are those rows of the table.
-- Made by tools/make_names.py. Assumes nothing.
use Rattle.rules.specs.Names.{lower-q}
use Rattle.names_search.specs.Listed.{listed}
use Rattle.names_m_to_z.proofs.lower_q.Goals as goal

pub returns : goal.returns
unfolding lower-q listed
returns c = c.find.ensures 0x71

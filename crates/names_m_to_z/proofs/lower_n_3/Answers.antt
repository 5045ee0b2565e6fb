-- `names_m_to_z::lower_n_3` meets its contract: computed, its numbers are those rows of the table.
-- Made by tools/make_names.py. Assumes nothing.
use Rattle.rules.specs.Names.{lower-n}
use Rattle.names_search.specs.Listed.{listed}
use Rattle.names_m_to_z.proofs.lower_n_3.Goals as goal

pub returns : goal.returns
unfolding lower-n listed
returns c = c.find.ensures 0x6E

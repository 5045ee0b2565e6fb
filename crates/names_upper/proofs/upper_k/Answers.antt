-- `names_upper::upper_k` meets its contract: computed, its numbers are those rows of the table.
-- Made by tools/make_names.py. Assumes nothing.
use Rattle.rules.specs.Names.{upper-K}
use Rattle.names_search.specs.Listed.{listed}
use Rattle.names_upper.proofs.upper_k.Goals as goal

pub returns : goal.returns
unfolding upper-K listed
returns c = c.find.ensures 0x4B

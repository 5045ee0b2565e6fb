-- `is_in` meets its contract: it is the definition, word and bit.
-- Assumes nothing.
use mathlib.Core.Path.{refl}
use Rattle.reader.specs.Replaced.{in_set}
use Rattle.reader.proofs.replaced.is_in.Goals as goal

pub returns : goal.returns
unfolding in_set
returns c = refl

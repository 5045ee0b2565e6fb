-- `length_of` meets its contract: the number is that of the definition, and above the gain for every byte (Forms).
-- Assumes nothing.
use mathlib.Core.Path.{refl}
use native.Mathlib.Omega.{arith}
use Rattle.read_strings.proofs.Forms.{gain-less}
use borrow.Author.Rules.{rules}
use Rattle.read_strings.proofs.units.length_of.Goals as goal

pub returns : goal.returns
returns c = (refl, gain-less _ (search rules), omega arith)

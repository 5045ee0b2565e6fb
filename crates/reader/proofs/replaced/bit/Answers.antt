-- `bit` meets its contract: a bit of a word fits the word.
-- Assumes nothing.
use mathlib.Core.Path.{◌∙◌}
use native.Mathlib.Omega.{arith}
use native.Mathlib.Nat.{one-mul, mod-eq_of_lt}
use Rattle.reader.proofs.Characters.{bit-small}
use Rattle.reader.proofs.replaced.bit.Goals as goal

pub returns : goal.returns
returns c = mod-eq_of_lt (omega (arith, bit-small c.args.b c.ranges.b.fits)) ∙ one-mul _

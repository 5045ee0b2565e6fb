-- `names::value_length` meets its contract: there is a byte for each power of 256 that the number reaches.
-- Assumes nothing.
use native.Mathlib.Omega.{arith}
use borrow.Author.Rules.{rules}
use Rattle.names.proofs.Packed.{unpack-length}
use Rattle.names.proofs.value_length.Goals as goal

pub returns : goal.returns
returns c = (omega (arith, unpack-length 6 c.args.value), search rules)

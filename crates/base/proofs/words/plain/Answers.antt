-- One byte, and the number one in the highest.
-- Assumes nothing.
use native.Mathlib.Omega.{arith}
use Rattle.base.specs.Words.{word_of}
use Rattle.base.proofs.words.plain.Goals as goal

pub returns : goal.returns
unfolding word_of
returns c = omega arith

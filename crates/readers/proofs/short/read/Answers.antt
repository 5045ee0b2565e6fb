-- `read` meets its contract: what the tests found is what `read_valid` requires.
-- Assumes nothing.
use native.Mathlib.Omega.{arith}
use borrow.Author.Rules.{rules}
use Rattle.readers.proofs.short.read.Goals as goal

pub read_valid-requires : goal.read_valid-requires
read_valid-requires c =
    let v = c.valid_to in
    (search rules, omega (arith, v.ensures, c.if-valid_to-text.false))

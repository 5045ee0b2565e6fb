-- `crate::hex_digit` meets its contract, by the test of ten, both ways.
-- Assumes nothing.
use native.Mathlib.Omega.{arith}
use borrow.Author.Rules.{rules}
use borrow.Author.Tests.{lt-ltb, le-ltb}
use Rattle.base.proofs.hex_digit.Goals as goal

pub returns-then-n-lt10 : goal.returns-then-n-lt10
returns-then-n-lt10 c = (rw (lt-ltb _ _ c.if-n-lt10.true), search rules)

pub returns-else-n-lt10 : goal.returns-else-n-lt10
returns-else-n-lt10 c = (rw (le-ltb _ _ c.if-n-lt10.false) (omega arith), search rules)

-- `decode_html::digits::ceiling` meets its contract: its test is the definition's.
-- Assumes nothing.
use native.Mathlib.Omega.{arith}
use borrow.Author.Tests.{le-leb, lt-leb}
use Rattle.decode_html.proofs.digits.ceiling.Goals as goal

pub returns-then-number-le1114111 : goal.returns-then-number-le1114111
returns-then-number-le1114111 c = rw (le-leb c.args.number 0x10FFFF (omega arith))

pub returns : goal.returns
returns c = rw (lt-leb c.args.number 0x10FFFF (omega arith))

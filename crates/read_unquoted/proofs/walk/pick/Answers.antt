-- `pick` meets its contract, by what is compared of the byte.
-- Assumes nothing.
use Rattle.std.proofs.Common.{arith}
use Rattle.read_unquoted.proofs.walk.pick.Goals as goal

pub returns-then-odd-eq0 : goal.returns-then-odd-eq0
returns-then-odd-eq0 c = λ z. c.odd.ensures c.if-odd-eq0.true

pub returns-else-odd-eq0 : goal.returns-else-odd-eq0
returns-else-odd-eq0 c = λ z. absurd (omega (arith, z))

-- `six` meets its contract: the bytes are those of the text from the offset on, either way (Numbers).
-- Assumes nothing.
use Rattle.std.proofs.Common.{arith}
use Rattle.read_units.proofs.Numbers.{six-at}
use Rattle.read_units.proofs.units.six.Goals as goal

pub returns-then-text-at-lt6 : goal.returns-then-text-at-lt6
returns-then-text-at-lt6 c = omega (arith, c.from_le_bytes.ensures, c.byte_at.ensures, c.byte_at-then-text-at-lt6.ensures, c.byte_at-then-text-at-lt6-2.ensures, c.byte_at-then-text-at-lt6-3.ensures, c.byte_at-then-text-at-lt6-4.ensures, c.byte_at-then-text-at-lt6-5.ensures, six-at c.args.text.now c.args.at)

pub returns : goal.returns
returns c = omega (arith, c.from_le_bytes-2.ensures, six-at c.args.text.now c.args.at)

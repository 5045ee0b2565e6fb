-- `is_copied` meets its contract: the word that is compared is that of the byte.
-- Assumes nothing.
use mathlib.Core.Path.{ap}
use Prim.Native.Nat.{ℕ}
use lib.Dec.{ltb}
use Rattle.strings_ahead.specs.Ahead.{copies}
use Rattle.strings_ahead.proofs.ahead.Words.is_copied.Goals as goal

pub returns : goal.returns
unfolding copies
returns c = ap (λ (x : ℕ). ltb x 0x200000000000000) (c.args.self.now.table_right c.args.b c.ranges.b.fits)

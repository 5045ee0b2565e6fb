-- `is_enough` meets its contract: ENOUGH is the number of the law `enough`.
-- Assumes nothing.
use mathlib.Core.Path.{sym, subst}
use lib.Dec.{T, leb→le}
use Rattle.repairs.proofs.Enough.{enough}
use Rattle.repairs.proofs.is_enough.Goals as goal

pub returns : goal.returns
returns c = λ e s. enough s c.args.n (leb→le 8220 c.args.n (subst T (sym e) tt))

-- `is_enough` meets its contract: ENOUGH is the number of the law `enough`.
-- Assumes nothing.
use mathlib.Core.Path.{sym, subst}
use lib.Dec.{T, leb→le}
use Rattle.requests.proofs.Enough.{enough}
use Rattle.requests.proofs.is_enough.Goals as goal

pub returns : goal.returns
returns c = λ e s. enough s c.args.n (leb→le 8230 c.args.n (subst T (sym e) tt))

-- `is_enough` meets its contract: ENOUGH is the number of the law `enough`.
-- Assumes nothing.
use mathlib.Core.Path.{sym, subst}
use lib.Dec.{T, leb→le}
use Rattle.reports.proofs.Lines.{enough}
use Rattle.reports.proofs.is_enough.Goals as goal

pub returns : goal.returns
returns c = λ e s. enough c.args.n s (leb→le 8193 c.args.n (subst T (sym e) tt))

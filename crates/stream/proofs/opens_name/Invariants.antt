-- `opens_name` meets its contract: what is left of the bytes opens what is left of the name exactly if all of them open all of it.
-- Assumes nothing.
use mathlib.Core.Path.{◌≡◌}
use lib.ListN.{drop}
use Rattle.stream.specs.Seams.{opens_name}
use Rattle.stream.proofs.opens_name.Given as goal

abbrev pub invariant-loop-i : goal.invariant-loop-i
invariant-loop-i l = opens_name l.name l.rest ≡ opens_name (drop l.i l.name) (drop l.i l.rest)

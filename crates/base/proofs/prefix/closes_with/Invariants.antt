-- `closes_with` meets its contract: the name is left at what of the text is left exactly if the whole is at the whole.
-- Assumes nothing.
use mathlib.Core.Path.{◌≡◌}
use lib.ListN.{drop}
use Rattle.base.specs.Closing.{named}
use Rattle.base.proofs.prefix.closes_with.Given as goal

abbrev pub invariant-loop-i : goal.invariant-loop-i
invariant-loop-i l = named l.last l.name l.rest ≡ named l.last (drop l.i l.name) (drop l.i l.rest)

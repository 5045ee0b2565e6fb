-- `settled` meets its contract: the bytes before the place are settled, and what is settled of the rest is still to be added.
-- Assumes nothing.
use mathlib.Core.Path.{◌≡◌}
use Prim.Native.Nat.{◌+◌}
use lib.ListN.{drop}
use Rattle.rules.specs.Stream.{settled}
use Rattle.stream.proofs.settled.Given as goal

abbrev pub invariant-loop-i : goal.invariant-loop-i
invariant-loop-i l = settled l.text ≡ l.i + settled (drop l.i l.text)

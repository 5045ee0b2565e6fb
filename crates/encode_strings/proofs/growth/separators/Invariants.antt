-- `encode_strings::growth::separators` meets its contract. The invariant: what is counted, with what stands from here on, is the whole count.
-- Assumes nothing.
use mathlib.Core.Path.{◌≡◌}
use Prim.Native.Nat.{◌+◌, ◌≤◌}
use lib.ListN.{drop}
use Rattle.encode_strings.specs.Strings.{separators_in}
use Rattle.encode_strings.proofs.growth.separators.Given as goal

abbrev pub invariant-loop-i : goal.invariant-loop-i
invariant-loop-i l = (l.n + separators_in (drop l.i l.part) ≡ separators_in l.part) × (l.n ≤ l.i)

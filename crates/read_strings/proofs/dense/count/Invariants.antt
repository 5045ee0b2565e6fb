-- `count` meets its contract: the sums so far are those of the places that are passed.
-- Assumes nothing.
use mathlib.Core.Path.{◌≡◌}
use Prim.Native.Nat.{◌+◌, ◌≤◌}
use Rattle.read_strings.specs.Dense.{start_at, longer_at, wrong_at, sum_to}
use Rattle.read_strings.proofs.dense.count.Given as goal

abbrev pub invariant-loop-j : goal.invariant-loop-j
invariant-loop-j l =
    (l.units ≤ l.j) × (l.longer ≤ l.j) × (l.wrong ≤ l.j) × (sum_to (start_at l.text) (l.from + l.j) ≡ sum_to (start_at l.text) l.from + l.units)
    × (sum_to (longer_at l.text) (l.from + l.j) ≡ sum_to (longer_at l.text) l.from + l.longer) × (sum_to (wrong_at l.language l.keys l.text) (l.from + l.j) ≡ sum_to (wrong_at l.language l.keys l.text) l.from + l.wrong)

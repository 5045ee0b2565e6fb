-- `begin` meets its contract: the sums so far are those of the places that are passed, and with no wrong one they are what a loop from backslash to
-- backslash counts (Starts). The measure is what is left of the text.
-- Assumes nothing.
use mathlib.Core.Path.{◌≡◌}
use Prim.Native.Nat.{◌+◌, ◌-◌, ◌*◌, ◌≤◌}
use lib.ListN.{length}
use Rattle.read_strings.specs.Dense.{last_of, start_at, longer_at, wrong_at, sum_to}
use Rattle.read_strings.proofs.dense.begin.Given as goal

abbrev pub invariant-loop-i : goal.invariant-loop-i
invariant-loop-i l =
    (l.i + l.last ≤ length l.text) × (l.last ≡ last_of l.text l.i) × (length l.flags ≡ 240) × (l.units ≡ sum_to (start_at l.text) l.i) × (l.longer ≡ sum_to (longer_at l.text) l.i)
    × (l.wrong ≡ sum_to (wrong_at l.language l.keys l.text) l.i) × (l.units ≤ 2 * l.i) × (l.longer ≤ 2 * l.i) × (l.wrong ≤ 2 * l.i)

abbrev pub decreases-loop-i : goal.decreases-loop-i
decreases-loop-i l = length l.text - l.i

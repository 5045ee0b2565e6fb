-- `find_line` meets its contract: the lines before `at` do not fit, and the one that begins there is found or passed.
-- Assumes nothing.
use Prim.Native.Nat.{◌-◌, ◌≤◌}
use lib.ListN.{length}
use Rattle.requests.proofs.Header.{Passed}
use Rattle.requests.proofs.lines.find_line.Given as goal

abbrev pub invariant-loop-at : goal.invariant-loop-at
invariant-loop-at l = (l.at ≤ length l.names) × (l.number ≤ l.at) × Passed l.names l.field l.text l.at l.number

abbrev pub decreases-loop-at : goal.decreases-loop-at
decreases-loop-at l = length l.names - l.at

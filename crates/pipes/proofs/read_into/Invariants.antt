-- `read_into` is safe and ends: what is read lies within the input. The measure is what is left to fill.
use Rattle.std.proofs.Common.{◌-◌, ◌≤◌, length}
use Rattle.pipes.proofs.read_into.Given as goal

abbrev pub invariant-loop-at : goal.invariant-loop-at
invariant-loop-at g l = l.at ≤ length l.input

abbrev pub decreases-loop-at : goal.decreases-loop-at
decreases-loop-at g l = length l.input - l.at

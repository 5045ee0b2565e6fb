-- `least` meets its contract: the least so far is at most that of each byte that is passed.
-- Assumes nothing.
use Rattle.std.proofs.Common.{ℕ, ◌≤◌, ◌<◌, get_or}
use Rattle.read_html.specs.Clear.{far_of}
use Rattle.read_html.proofs.look.least.Given as goal

abbrev pub invariant-loop-b : goal.invariant-loop-b
invariant-loop-b l = (k : ℕ) → k < l.b-index → l.m ≤ far_of l.keys (get_or l.part k 0)

-- `least` meets its contract: the least so far is at most that of each byte that is passed.
-- Assumes nothing.
use Prim.Native.Nat.{ℕ, ◌≤◌, ◌<◌}
use lib.ListN.{get_or}
use Rattle.read_strings.specs.Clear.{far_of, before_in}
use Rattle.read_strings.proofs.look.least.Given as goal

abbrev pub invariant-loop-i : goal.invariant-loop-i
invariant-loop-i l = (k : ℕ) → k < l.i → l.m ≤ far_of l.keys (before_in l.before l.part k) (get_or l.part k 0)

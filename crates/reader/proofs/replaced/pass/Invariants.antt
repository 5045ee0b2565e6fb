-- `pass` meets its contract: what has been passed so far has no such byte. The measure is what is left of the text.
-- Assumes nothing.
use Prim.Native.Nat.{◌-◌, ◌≤◌}
use lib.ListN.{length}
use Rattle.reader.specs.Replaced.{begins_at}
use Rattle.base.specs.First.{Free}
use Rattle.reader.proofs.replaced.pass.Given as goal

abbrev pub invariant-loop-i : goal.invariant-loop-i
invariant-loop-i l = (l.from ≤ l.i) × (l.i ≤ length l.text) × Free (begins_at l.leads l.text) l.from l.i

abbrev pub decreases-loop-i : goal.decreases-loop-i
decreases-loop-i l = length l.text - l.i

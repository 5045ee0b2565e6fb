-- `scripts::skip_blocks` meets its contract. The invariant: no byte that is passed begins a mark.
-- Assumes nothing.
use Prim.Native.Nat.{◌≤◌, ◌<◌, ◌+◌, ◌-◌}
use lib.ListN.{length}
use Rattle.base.specs.First.{Free}
use Rattle.scripts.specs.Marks.{mark_at}
use Rattle.scripts.proofs.skip_blocks.Given as goal

abbrev pub invariant-loop-i : goal.invariant-loop-i
invariant-loop-i l = (l.from ≤ l.i) × (l.i ≤ length l.text) × (l.from < l.i → l.i + 2 ≤ length l.text) × Free (mark_at l.letter l.dash l.text) l.from l.i

abbrev pub decreases-loop-i : goal.decreases-loop-i
decreases-loop-i l = length l.text - l.i

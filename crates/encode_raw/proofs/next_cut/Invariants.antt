-- `encode_raw::next_cut` meets its contract. The invariant: no backslash goes in after a byte that is passed. The measure is what is left before the end.
-- Assumes nothing.
use Prim.Native.Nat.{◌-◌, ◌≤◌}
use Rattle.base.specs.First.{Free}
use Rattle.encode_raw.specs.Cuts.{cut_at}
use Rattle.encode_raw.proofs.next_cut.Given as goal

abbrev pub invariant-loop-i : goal.invariant-loop-i
invariant-loop-i l = (l.from ≤ l.i) × (l.i ≤ l.end) × Free (cut_at l.text) l.from l.i

abbrev pub decreases-loop-i : goal.decreases-loop-i
decreases-loop-i l = l.end - l.i

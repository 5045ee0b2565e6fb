-- `encode_raw::skip_blocks` meets its contract. The invariant: no backslash goes in after a byte that is passed.
-- Assumes nothing.
use Prim.Native.Nat.{◌≤◌, ◌-◌}
use Rattle.base.specs.First.{Free}
use Rattle.encode_raw.specs.Cuts.{cut_at}
use Rattle.encode_raw.proofs.skip_blocks.Given as goal

abbrev pub invariant-loop-i : goal.invariant-loop-i
invariant-loop-i l = (l.from ≤ l.i) × (l.i ≤ l.end) × Free (cut_at l.text) l.from l.i

abbrev pub decreases-loop-i : goal.decreases-loop-i
decreases-loop-i l = l.end - l.i

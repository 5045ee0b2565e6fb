-- `next_halt` meets its contract. The invariant: no such byte is among those that are passed. The measure is what is left.
-- Assumes nothing.
use Prim.Native.Nat.{◌-◌, ◌≤◌}
use lib.ListN.{length}
use Rattle.base.specs.First.{Free}
use Rattle.decode_json.specs.Escapes.{halt_at}
use Rattle.decode_json.proofs.halts.next_halt.Given as goal

abbrev pub invariant-loop-i : goal.invariant-loop-i
invariant-loop-i l = (l.from ≤ l.i) × (l.i ≤ length l.text) × Free (halt_at l.text) l.from l.i

abbrev pub decreases-loop-i : goal.decreases-loop-i
decreases-loop-i l = length l.text - l.i

-- The bytes before place i are counted, and the first reference that stays before it is noted.
-- Assumes nothing.
use Prim.Native.Nat.{◌-◌}
use lib.ListN.{length}
use Rattle.base.proofs.Counted.{Counted, Noted}
use Rattle.rules.specs.References.{reference_step}
use Rattle.decode_html.proofs.measure.Given as goal

abbrev pub invariant-loop-i : goal.invariant-loop-i
invariant-loop-i l = Counted reference_step l.text l.i l.length l.references × Noted reference_step l.text l.i l.left

abbrev pub decreases-loop-i : goal.decreases-loop-i
decreases-loop-i l = length l.text - l.i

-- What the bytes before place i give is counted and written, and the first reference that stays before it is noted.
-- Assumes nothing.
use Prim.Native.Nat.{◌-◌}
use lib.ListN.{length}
use Rattle.rules.specs.Moves.{through, from, result}
use Rattle.base.proofs.Filled.{Filled}
use Rattle.base.proofs.Counted.{Counted, Noted}
use Rattle.rules.specs.References.{reference_step}
use Rattle.decode_html.proofs.write.Given as goal

abbrev pub invariant-loop-i : goal.invariant-loop-i
invariant-loop-i l =
    Counted reference_step l.text l.i l.at l.references
    × Filled (result (through reference_step l.text)) (result (from reference_step l.text l.i)) l.initial.output l.output l.at
    × Noted reference_step l.text l.i l.left

abbrev pub decreases-loop-i : goal.decreases-loop-i
decreases-loop-i l = length l.text - l.i

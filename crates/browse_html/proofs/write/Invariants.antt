-- What the bytes before place i give is counted and written.
-- Assumes nothing.
use lib.ListN.{length}
use Prim.Native.Nat.{◌-◌}
use Rattle.rules.specs.Browsing.{browse_step}
use Rattle.rules.specs.Moves.{through, from, result}
use Rattle.base.proofs.Filled.{Filled}
use Rattle.base.proofs.Counted.{Counted}
use Rattle.browse_html.proofs.write.Given as goal

abbrev pub invariant-loop-i : goal.invariant-loop-i
invariant-loop-i l =
    Counted (browse_step l.kind) l.text l.i l.at l.references
    × Filled (result (through (browse_step l.kind) l.text)) (result (from (browse_step l.kind) l.text l.i)) l.initial.output l.output l.at

abbrev pub decreases-loop-i : goal.decreases-loop-i
decreases-loop-i l = length l.text - l.i

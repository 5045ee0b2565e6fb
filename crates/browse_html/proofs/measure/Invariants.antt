-- The bytes before place i are counted.
-- Assumes nothing.
use lib.ListN.{length}
use Prim.Native.Nat.{◌-◌}
use Rattle.rules.specs.Browsing.{browse_step}
use Rattle.base.proofs.Counted.{Counted}
use Rattle.browse_html.proofs.measure.Given as goal

abbrev pub invariant-loop-i : goal.invariant-loop-i
invariant-loop-i l = Counted (browse_step l.kind) l.text l.i l.length l.references

abbrev pub decreases-loop-i : goal.decreases-loop-i
decreases-loop-i l = length l.text - l.i

-- `measure` meets its contract: what is counted so far, with what the reader makes of the rest, is what it makes of the whole. The measure is
-- what is left of the text.
-- Assumes nothing.
use Rattle.reader.specs.Units.{byte_step}
use Prim.Native.Nat.{◌-◌}
use lib.ListN.{length}
use Rattle.base.proofs.Counted.{Counted}
use Rattle.reader.proofs.measure.Given as goal

abbrev pub invariant-loop-i : goal.invariant-loop-i
invariant-loop-i l = Counted (byte_step l.fn.c) l.text l.i l.length l.units

abbrev pub decreases-loop-i : goal.decreases-loop-i
decreases-loop-i l = length l.text - l.i

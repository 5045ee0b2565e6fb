-- `measure` meets its contract: what is counted so far, with what the rest of the text gives, is what the whole gives. The measure is what is left.
-- Assumes nothing.
use lib.ListN.{length as size}
use Rattle.base.proofs.Counted.{Counted}
use Rattle.rules.specs.declared.Context.TheVariants.{InAscii}
use Rattle.rules.specs.Reading.{read_step}
use Prim.Native.Nat.{◌-◌}
use Rattle.read_ascii.proofs.measure.Given as goal

abbrev pub invariant-loop-i : goal.invariant-loop-i
invariant-loop-i l = Counted (read_step InAscii) l.text l.i l.length l.read

abbrev pub decreases-loop-i : goal.decreases-loop-i
decreases-loop-i l = size l.text - l.i

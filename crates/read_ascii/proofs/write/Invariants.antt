-- `write` meets its contract: what is counted so far, with what the rest of the text gives, is what the whole gives. The measure is what is left.
-- Assumes nothing.
use Rattle.base.proofs.Filled.{Filled}
use Rattle.base.proofs.Counted.{Counted}
use Rattle.rules.specs.declared.Context.TheVariants.{InAscii}
use Rattle.rules.specs.Reading.{read_step}
use Rattle.rules.specs.Moves.{result, through, from}
use lib.ListN.{length as size}
use Prim.Native.Nat.{◌-◌}
use Rattle.read_ascii.proofs.write.Given as goal

abbrev pub invariant-loop-i : goal.invariant-loop-i
invariant-loop-i l =
    Counted (read_step InAscii) l.text l.i l.at l.read × Filled (result (through (read_step InAscii) l.text)) (result (from (read_step InAscii) l.text l.i)) l.initial.output l.output l.at

abbrev pub decreases-loop-i : goal.decreases-loop-i
decreases-loop-i l = size l.text - l.i

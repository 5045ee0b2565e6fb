-- `measure` meets its contract: what is counted so far, with what the rest of the text gives, is what the whole gives. The measure is what is left.
-- Assumes nothing.
use lib.ListN.{length}
use Rattle.rules.specs.Contexts.{string_of}
use Prim.Native.Nat.{◌-◌}
use Rattle.rules.specs.Operations.{decode_step}
use Rattle.base.proofs.Counted.{Counted}
use Rattle.decode_strings.proofs.measure.Given as goal

abbrev pub invariant-loop-i : goal.invariant-loop-i
invariant-loop-i l = Counted (decode_step (string_of l.language l.quotes)) l.text l.i l.length l.escapes

abbrev pub decreases-loop-i : goal.decreases-loop-i
decreases-loop-i l = length l.text - l.i

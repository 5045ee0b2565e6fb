-- `measure` meets its contract: what is counted so far, with what the rest of the text gives, is what the whole gives. The measure is what is left.
-- Assumes nothing.
use Prim.Native.Nat.{◌-◌}
use lib.ListN.{length as size}
use Rattle.rules.specs.Json.{json_step}
use Rattle.base.proofs.Counted.{Counted}
use Rattle.decode_json.proofs.measure.Given as goal

abbrev pub invariant-loop-i : goal.invariant-loop-i
invariant-loop-i l = Counted json_step l.text l.i l.length l.escapes

abbrev pub decreases-loop-i : goal.decreases-loop-i
decreases-loop-i l = size l.text - l.i

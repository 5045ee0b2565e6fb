-- `write` meets its contract: what is written and counted so far, with what the rest of the text gives, is the result of the whole. The measure is
-- what is left of the text.
-- Assumes nothing.
-- What the rest of the text from place i on gives.
use mathlib.Core.List.{List}
use Prim.Native.Nat.{ℕ, ◌-◌}
use lib.ListN.{length}
use Rattle.rules.specs.Moves.{result, through, from}
use Rattle.rules.specs.Json.{json_step}
use Rattle.base.proofs.Filled.{Filled}
use Rattle.base.proofs.Counted.{Counted}
use Rattle.decode_json.proofs.write.Given as goal

abbrev pub Rest : List ℕ → ℕ → List ℕ
Rest t i = result (from json_step t i)

abbrev pub invariant-loop-i : goal.invariant-loop-i
invariant-loop-i l =
    Counted json_step l.text l.i l.at l.escapes × Filled (result (through json_step l.text)) (Rest l.text l.i) l.initial.output l.output l.at

abbrev pub decreases-loop-i : goal.decreases-loop-i
decreases-loop-i l = length l.text - l.i

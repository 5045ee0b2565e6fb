-- `scripts::find_end` meets its contract: what the rest of the text gives from the mode that was reached is what the whole gives. The measure is what is left of the text.
-- Assumes nothing.
use mathlib.Core.Path.{◌≡◌}
use Prim.Native.Nat.{◌-◌, ◌≤◌}
use lib.ListN.{length, drop}
use Rattle.rules.specs.ScriptData.{end_from, closing_tag}
use Rattle.scripts.proofs.find_end.Given as goal

abbrev pub invariant-loop-i : goal.invariant-loop-i
invariant-loop-i l = (l.i ≤ length l.text) × (end_from l.mode l.i (drop l.i l.text) ≡ closing_tag l.text)

abbrev pub decreases-loop-i : goal.decreases-loop-i
decreases-loop-i l = length l.text - l.i

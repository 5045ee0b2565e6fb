-- `scripts::starts_with_name` meets its contract: the name is left at what of the text is left exactly if the whole is at the whole. The measure is what is left of the name.
-- Assumes nothing.
use mathlib.Core.Path.{◌≡◌}
use Prim.Native.Nat.{◌-◌, ◌≤◌}
use lib.ListN.{length, drop}
use Rattle.rules.specs.ScriptData.{spells}
use Rattle.scripts.proofs.starts_with_name.Given as goal

abbrev pub invariant-loop-i : goal.invariant-loop-i
invariant-loop-i l = (l.i ≤ length l.name) × (spells l.name l.rest ≡ spells (drop l.i l.name) (drop l.i l.rest))

abbrev pub decreases-loop-i : goal.decreases-loop-i
decreases-loop-i l = length l.name - l.i

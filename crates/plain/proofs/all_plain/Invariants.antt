-- `plain::all_plain` meets its contract. The invariant: every byte up to `done` is plain. The measure is what is left of the text.
-- Assumes nothing.
use mathlib.Core.Path.{◌≡◌}
use Prim.Native.Nat.{◌≤◌, ◌+◌, ◌-◌}
use lib.ListN.{length}
use Rattle.base.specs.First.{Free}
use Rattle.plain.specs.Plain.{special_at}
use Rattle.plain.proofs.all_plain.Given as goal

abbrev pub invariant-loop-done : goal.invariant-loop-done
invariant-loop-done g l = (l.last + g.row.SIZE ≡ length l.text) × (l.done ≤ length l.text) × Free (special_at l.unquoted l.text) 0 l.done

abbrev pub decreases-loop-done : goal.decreases-loop-done
decreases-loop-done g l = length l.text - l.done

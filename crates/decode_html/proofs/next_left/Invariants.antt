-- From the start up to place i decode leaves no reference: between two `&` each byte is kept, and the references at those passed give way.
-- Assumes nothing.
use mathlib.Core.Path.{◌≡◌}
use Prim.Native.Nat.{◌-◌, ◌≤◌, ◌<◌}
use lib.ListN.{length, drop, get_or}
use Rattle.rules.specs.References.{reference_step}
use Rattle.rules.specs.Reasons.{lefts_in}
use Rattle.decode_html.proofs.next_left.Given as goal

abbrev pub invariant-loop-i : goal.invariant-loop-i
invariant-loop-i l =
    (l.from ≤ l.i) × (l.i ≤ length l.text) × (l.i < length l.text → get_or l.text l.i 0 ≡ 38) × (lefts_in reference_step l.from (drop l.from l.text) ≡ lefts_in reference_step l.i (drop l.i l.text))

abbrev pub decreases-loop-i : goal.decreases-loop-i
decreases-loop-i l = length l.text - l.i

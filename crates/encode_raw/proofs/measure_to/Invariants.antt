-- `encode_raw::measure_to` meets its contract: what is counted so far, with the length of what the rest gives, is the length of the whole. The measure is what is left before the end.
-- Assumes nothing.
use mathlib.Core.Path.{◌≡◌}
use Prim.Native.Nat.{◌+◌, ◌-◌, ◌*◌, ◌≤◌}
use lib.ListN.{length, take}
use Rattle.rules.specs.Encoding.{raw_step}
use Rattle.rules.specs.Moves.{result, through}
use Rattle.encode_raw.proofs.Cuts.{left}
use Rattle.encode_raw.proofs.measure_to.Given as goal

abbrev pub invariant-loop-i : goal.invariant-loop-i
invariant-loop-i l = (l.i ≤ l.end) × (l.n ≤ 2 * l.i) × (l.n + length (result (left l.text l.end l.i)) ≡ length (result (take l.end (through raw_step l.text))))

abbrev pub decreases-loop-i : goal.decreases-loop-i
decreases-loop-i l = l.end - l.i

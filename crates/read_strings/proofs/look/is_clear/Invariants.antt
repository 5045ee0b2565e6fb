-- `is_clear` meets its contract: every byte so far passes; the answer true comes only after the last, and then each is clear.
-- Assumes nothing.
use mathlib.Core.Path.{◌≡◌}
use Prim.Native.Nat.{ℕ, ◌-◌, ◌≤◌, ◌<◌}
use lib.ListN.{length, get_or}
use Rattle.rules.specs.Moves.{before as byte_before}
use Rattle.read_strings.specs.Clear.{far_of}
use Rattle.read_strings.proofs.look.is_clear.Given as goal

abbrev pub invariant-loop-i : goal.invariant-loop-i
invariant-loop-i l = (l.i ≤ length l.text) × (l.before ≡ byte_before l.text l.i) × ((k : ℕ) → k < l.i → 1 ≤ far_of l.keys (byte_before l.text k) (get_or l.text k 0))

abbrev pub decreases-loop-i : goal.decreases-loop-i
decreases-loop-i l = length l.text - l.i

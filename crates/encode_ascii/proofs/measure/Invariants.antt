-- `measure` meets its contract: what is counted so far, with what the rest of the text gives, is what the whole gives. The measure is what is left.
-- Assumes nothing.
use mathlib.Core.Path.{◌≡◌}
use Prim.Native.Nat.{◌-◌}
use lib.ListN.{length as size}
use Rattle.encode_ascii.proofs.Grown.{Grown}
use Rattle.encode_ascii.proofs.measure.Given as goal

abbrev pub invariant-loop-i : goal.invariant-loop-i
invariant-loop-i l = Grown l.text l.i l.length l.hits × (size l.room ≡ 32)

abbrev pub decreases-loop-i : goal.decreases-loop-i
decreases-loop-i l = size l.text - l.i

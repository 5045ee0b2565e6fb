-- `encode_strings::measure` meets its contract. The invariant: the parts so far, with what is left, are the whole (Parts). The measure is what is left of
-- the text.
-- Assumes nothing.
use Prim.Native.Nat.{◌-◌}
use lib.ListN.{length}
use Rattle.encode_strings.proofs.Parts.{Gone}
use Rattle.encode_strings.proofs.measure.Given as goal

abbrev pub invariant-loop-i : goal.invariant-loop-i
invariant-loop-i l = Gone l.notation l.quotes l.text l.i l.n l.places

abbrev pub decreases-loop-i : goal.decreases-loop-i
decreases-loop-i l = length l.text - l.i

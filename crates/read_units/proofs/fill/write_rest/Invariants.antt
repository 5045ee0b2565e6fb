-- `write_rest` meets its contract: what is written so far, with what the reader gives of the rest, is the result, in an output that is as long (Turns, Ahead). The
-- measure is what is left of the text.
-- Assumes nothing.
use Prim.Native.Nat.{◌-◌, ◌≤◌}
use lib.ListN.{length}
use Rattle.marks.proofs.Ahead.{Exact}
use Rattle.read_units.specs.Marks.{Rest, Reaches}
use Rattle.read_units.proofs.fill.write_rest.Given as goal

abbrev pub invariant-loop-i : goal.invariant-loop-i
invariant-loop-i l = (l.i ≤ length l.text) × Reaches l.h l.text l.i × Exact (Rest l.h l.text l.from) (Rest l.h l.text l.i) l.output l.at

abbrev pub decreases-loop-i : goal.decreases-loop-i
decreases-loop-i l = length l.text - l.i

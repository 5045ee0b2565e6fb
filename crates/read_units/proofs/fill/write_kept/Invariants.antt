-- `write_kept` meets its contract: what is written so far, with what the reader gives of the rest, is the result; a kept place is that of the next `&`
-- (Turns, Kept).
-- Assumes nothing.
use mathlib.Core.Path.{◌≡◌}
use Prim.Native.Nat.{◌≤◌}
use lib.ListN.{length}
use Rattle.marks.specs.Marks.{start_of}
use Rattle.marks.proofs.Ahead.{Exact}
use Rattle.read_units.specs.Marks.{Rest, Reaches}
use Rattle.read_units.specs.Units.{length_of}
use Rattle.read_units.proofs.fill.write_kept.Given as goal

abbrev pub invariant-loop-place : goal.invariant-loop-place
invariant-loop-place l =
    (l.i ≤ length l.text) × Reaches l.h l.text l.i × Exact (Rest l.h l.text 0) (Rest l.h l.text l.i) l.output l.at × (l.i ≡ start_of length_of l.text l.places l.place-index)

-- `measure` meets its contract: what is counted so far, with what the reader makes of the rest, is what it makes of the whole, and the places so
-- far are kept (Turns, Kept). The measure is what is left of the text.
-- Assumes nothing.
use mathlib.Core.Path.{◌≡◌}
use Prim.Native.Nat.{◌-◌, ◌≤◌}
use lib.ListN.{length}
use Rattle.rules.specs.declared.Context.TheVariants.{InHtml}
use Rattle.base.proofs.Counted.{Counted}
use Rattle.reader.specs.Units.{byte_step}
use Rattle.marks.specs.Marks.{start_of}
use Rattle.read_units.specs.Marks.{Marked}
use Rattle.read_units.specs.Units.{length_of}
use Rattle.read_html.proofs.measure.measure.Given as goal

abbrev pub invariant-loop-i : goal.invariant-loop-i
invariant-loop-i l =
    Counted (byte_step (InHtml l.h)) l.text l.i (l.i - l.gain) l.units × (l.gain ≤ l.i) × Marked l.text l.places l.units × (l.units ≤ length l.places → l.i ≡ start_of length_of l.text l.places l.units)
    × (length l.places ≡ length l.initial.places)

abbrev pub decreases-loop-i : goal.decreases-loop-i
decreases-loop-i l = length l.text - l.i

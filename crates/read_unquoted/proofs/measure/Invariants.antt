-- `measure` meets its contract: what is counted so far, with what the reader makes of the rest, is what it makes of the whole, the text so far is ASCII, and
-- the places so far are kept (Turns, Kept). The measure is what is left of the text.
-- Assumes nothing.
use Rattle.std.proofs.Common.{◌≡◌, ℕ, ◌-◌, ◌<◌, ◌≤◌, length, get_or}
use Rattle.rules.specs.declared.Html.TheVariants.{Unquoted}
use Rattle.rules.specs.declared.Context.TheVariants.{InHtml}
use Rattle.base.proofs.Counted.{Counted}
use Rattle.base.specs.Places.{Absent}
use Rattle.reader.specs.Units.{byte_step}
use Rattle.marks.specs.Marks.{start_of}
use Rattle.read_units.specs.Marks.{Marked}
use Rattle.read_units.specs.Units.{length_of}
use Rattle.read_unquoted.proofs.measure.Given as goal

abbrev pub invariant-loop-i : goal.invariant-loop-i
invariant-loop-i l =
    Counted (byte_step (InHtml Unquoted)) l.text l.i (l.i - l.gain) l.units × (l.gain ≤ l.i) × Marked l.text l.places l.units
    × (l.units ≤ length l.places → (start_of length_of l.text l.places l.units ≤ l.i) × Absent l.text (start_of length_of l.text l.places l.units) l.i 38) × (length l.places ≡ length l.initial.places)
    × ((k : ℕ) → k < l.i → get_or l.text k 0 < 128)

abbrev pub decreases-loop-i : goal.decreases-loop-i
decreases-loop-i l = length l.text - l.i

-- `measure` meets its contract: as long as every unit is one, what is counted so far, with what the reader makes of the rest, is what it makes of the whole,
-- and the places so far are kept (Turns, Kept). The measure is what is left of the text.
-- Assumes nothing.
use mathlib.Core.Bool.{true}
use mathlib.Core.Path.{◌≡◌}
use Prim.Native.Nat.{◌-◌, ◌≤◌, ◌<◌}
use lib.ListN.{length, get_or}
use Rattle.rules.specs.Contexts.{string_of}
use Rattle.base.proofs.Counted.{Counted}
use Rattle.base.specs.Places.{Nearest}
use Rattle.marks.specs.Marks.{start_of, Marked}
use Rattle.reader.specs.Units.{byte_step}
use Rattle.read_strings.specs.Units.{length_of}
use Rattle.read_strings.proofs.measure.measure.Given as goal

abbrev pub invariant-loop-i : goal.invariant-loop-i
invariant-loop-i l =
    (l.whole ≡ true
    → Counted (byte_step (string_of l.language l.quotes)) l.text l.i (l.i - l.gain) l.units × Marked length_of 92 l.text l.places l.units
    × (l.units ≤ length l.places → Nearest l.text (start_of length_of l.text l.places l.units) 92 l.i))
    × (l.gain ≤ l.i) × (l.units ≤ l.i) × (l.i ≤ length l.text) × (l.i < length l.text → get_or l.text l.i 0 ≡ 92) × (length l.places ≡ length l.initial.places)

abbrev pub decreases-loop-i : goal.decreases-loop-i
decreases-loop-i l = length l.text - l.i

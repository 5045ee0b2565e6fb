-- `write` meets its contract: what is written so far, with what the reader gives of the rest, is the result of the whole; the next place is that of
-- the next backslash (Turns, Kept). The measure is what is left of the text.
-- Assumes nothing.
use mathlib.Core.Path.{◌≡◌}
use Prim.Native.Nat.{◌-◌, ◌≤◌}
use lib.ListN.{length}
use Rattle.rules.specs.Contexts.{string_of}
use Rattle.rules.specs.Operations.{read_of}
use Rattle.base.proofs.Counted.{Counted}
use Rattle.base.proofs.Filled.{Filled}
use Rattle.marks.specs.Marks.{start_of}
use Rattle.reader.specs.Units.{byte_step}
use Rattle.read_strings.specs.Units.{length_of}
use Rattle.read_strings.proofs.Turns.{Rest}
use Rattle.read_strings.proofs.fill.write.Given as goal

abbrev pub invariant-loop-i : goal.invariant-loop-i
invariant-loop-i l =
    Counted (byte_step (string_of l.language l.quotes)) l.text l.i l.at l.k × Filled (read_of (string_of l.language l.quotes) l.text) (Rest l.language l.quotes l.text l.i) l.output l.output l.at
    × (l.k ≤ l.kept → l.i ≡ start_of length_of l.text l.places l.k) × (length (read_of (string_of l.language l.quotes) l.text) ≡ length l.output)

abbrev pub decreases-loop-i : goal.decreases-loop-i
decreases-loop-i l = length l.text - l.i

-- `write_most` meets its contract: each turn is a run of copied bytes and then, unless it is sixteen, what is written for the byte after it. The invariant:
-- the text is written so far (`Reached`, `Spilt`), and sixteen bytes of it are left. The measure is what is left of the text.
-- Assumes nothing.
use Prim.Native.Nat.{◌+◌, ◌-◌, ◌≤◌}
use lib.ListN.{length, drop}
use Rattle.rules.specs.Operations.{encode_of}
use Rattle.rules.specs.Contexts.{written_in}
use Rattle.base.proofs.Spilt.{Spilt}
use Rattle.strings_ahead.specs.Ahead.{Reached}
use Rattle.strings_ahead.proofs.ahead.Words.write_most.Given as goal

abbrev pub invariant-loop-i : goal.invariant-loop-i
invariant-loop-i l =
    Reached l.self.notation l.self.quotes l.text l.i l.at l.places
    × (l.i + 16 ≤ length l.text)
    × (l.places ≤ l.i)
    × Spilt 16 0 (encode_of (written_in l.self.notation l.self.quotes) l.text) (encode_of (written_in l.self.notation l.self.quotes) (drop l.i l.text)) l.initial.output l.output l.at

abbrev pub decreases-loop-i : goal.decreases-loop-i
decreases-loop-i l = length l.text - l.i

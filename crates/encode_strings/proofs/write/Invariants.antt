-- `encode_strings::write` meets its contract: the parts are written one after the other. The invariant: the parts so far, with what is left, are the
-- whole (Parts), and they are written (`Filled`). The measure is what is left of the text.
-- Assumes nothing.
use Prim.Native.Nat.{◌-◌}
use lib.ListN.{length, drop}
use Rattle.rules.specs.Operations.{encode_of}
use Rattle.base.proofs.Filled.{Filled}
use Rattle.rules.specs.Contexts.{written_in}
use Rattle.encode_strings.proofs.Parts.{Gone}
use Rattle.encode_strings.proofs.write.Given as goal

abbrev pub invariant-loop-i : goal.invariant-loop-i
invariant-loop-i l =
    Gone l.notation l.quotes l.text l.i l.at l.places
    × Filled (encode_of (written_in l.notation l.quotes) l.text) (encode_of (written_in l.notation l.quotes) (drop l.i l.text)) l.initial.output l.output l.at

abbrev pub decreases-loop-i : goal.decreases-loop-i
decreases-loop-i l = length l.text - l.i

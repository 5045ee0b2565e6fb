-- `write` meets its contract: what is written so far, with what the rest of the text gives, is the result of the whole. The measure is what is left.
-- Assumes nothing.
use mathlib.Core.Path.{◌≡◌}
use Prim.Native.Nat.{◌-◌}
use lib.ListN.{length, drop}
use Rattle.rules.specs.Operations.{encode_of}
use Rattle.rules.specs.declared.Context.TheVariants.{InAscii}
use Rattle.base.proofs.Filled.{Filled}
use Rattle.encode_ascii.proofs.Grown.{Grown}
use Rattle.encode_ascii.proofs.write.Given as goal

abbrev pub invariant-loop-i : goal.invariant-loop-i
invariant-loop-i l =
    Grown l.text l.i l.at l.hits × Filled (encode_of InAscii l.text) (encode_of InAscii (drop l.i l.text)) l.initial.output l.output l.at × (length l.room ≡ 32)

abbrev pub decreases-loop-i : goal.decreases-loop-i
decreases-loop-i l = length l.text - l.i

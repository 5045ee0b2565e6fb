-- `write_bytes` meets its contract: what is found at a place is what is written next. The invariant is that of every writing loop, `Filled`; the
-- measure is what is left of the text.
-- Assumes nothing.
use Prim.Native.Nat.{◌-◌, ◌≤◌}
use lib.ListN.{length, drop}
use Rattle.rules.specs.Contexts.{written_in}
use Rattle.rules.specs.Operations.{encode_of}
use Rattle.base.proofs.Filled.{Filled}
use Rattle.encode_strings.proofs.escapes.write_bytes.Given as goal

abbrev pub invariant-loop-i : goal.invariant-loop-i
invariant-loop-i l =
    (l.i ≤ length l.text) × Filled (encode_of (written_in l.notation l.quotes) l.text) (encode_of (written_in l.notation l.quotes) (drop l.i l.text)) l.initial.output l.output l.at

abbrev pub decreases-loop-i : goal.decreases-loop-i
decreases-loop-i l = length l.text - l.i

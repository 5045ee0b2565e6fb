-- `names::put_value` meets its contract: what is read of the number is written, and `rest` holds what is left.
-- Assumes nothing.
use Rattle.names.proofs.Packed.{Unpacked}
use Rattle.names.proofs.put_value.Given as goal

abbrev pub invariant-loop-n : goal.invariant-loop-n
invariant-loop-n l = Unpacked l.value l.initial.output l.output l.rest l.n

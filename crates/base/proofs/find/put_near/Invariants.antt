-- `crate::find::put_near` meets its contract. The invariant: the bytes before place n are not the byte, and stand in the output.
-- Assumes nothing.
use Rattle.base.proofs.Copied.{Copied}
use Rattle.base.proofs.find.put_near.Given as goal

abbrev pub invariant-loop-n : goal.invariant-loop-n
invariant-loop-n l = Copied l.rest l.byte l.initial.output l.output l.n

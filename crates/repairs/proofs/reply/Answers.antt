-- `reply` meets its contract, which is that of the whole request; what is written keeps within the output.
-- Assumes nothing.
use native.Mathlib.Omega.{arith}
use Rattle.rules.specs.Program.{context_line}
use Rattle.rules.specs.declared.Operation.TheVariants.{Read}
use Rattle.requests.proofs.Parted.{over-within}
use Rattle.repairs.specs.Repair.{repaired_by, repair_of}
use Rattle.repairs.proofs.reply.Goals as goal

pub returns : goal.returns
unfolding repair_of
returns c =
    let a = c.args in
    let e = c.answer.ensures in
    (e.0, e.1, omega (arith, e.0, over-within (repaired_by (context_line Read a.input.now)) a.output.now c.answer.new.output e.1 c.answer.auto.output, c.answer.auto.output))

-- `reply` meets its contract, which is that of the whole request; what is written keeps within the output.
-- Assumes nothing.
use native.Mathlib.Omega.{arith}
use Rattle.rules.specs.Program.{entity_of, request_of}
use Rattle.requests.specs.Asked.{printed_by}
use Rattle.requests.proofs.Parted.{over-within}
use Rattle.requests.proofs.reply.Goals as goal

pub returns : goal.returns
unfolding entity_of
returns c =
    let a = c.args in
    let e = c.with_operation.ensures in
    (e.0, e.1, omega (arith, e.0, over-within (printed_by (request_of a.input.now)) a.output.now c.with_operation.new.output e.1 c.with_operation.auto.output, c.with_operation.auto.output))

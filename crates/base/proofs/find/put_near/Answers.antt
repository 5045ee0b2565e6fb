-- `crate::find::put_near` meets its contract. The invariant: the bytes before place n are not the byte, and stand in the output.
-- Assumes nothing.
use Rattle.std.proofs.Common.{◌≡◌, arith, length}
use Rattle.base.proofs.Copied.{copied-start, copied-here, copied-end, copied-room, copied_next}
use Rattle.base.proofs.find.put_near.Goals as goal

pub loop-n-init : goal.loop-n-init
loop-n-init c = copied-start c.args.rest.now c.args.byte _ c.requires

pub returns-then-b-byte : goal.returns-then-b-byte
returns-then-b-byte c = copied-here c.loop-n.invariant c.loop-n-test.true c.if-b-byte.true

pub bounds-output-n : goal.bounds-output-n
bounds-output-n c = copied-room c.loop-n.invariant c.loop-n-test.true c.if-b-byte.false

pub loop-n-preserved : goal.loop-n-preserved
loop-n-preserved c = copied_next c.loop-n.invariant c.loop-n-test.true c.if-b-byte.false

pub returns : goal.returns
returns c =
    let e : c.loop-n.n ≡ length c.args.rest.now = omega arith in
    rw (← e) (copied-end c.loop-n.invariant c.loop-n-test.false)

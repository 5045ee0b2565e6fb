-- The least so far is above 0 only if no byte that is passed begins a mark.
-- Assumes nothing.
use Rattle.std.proofs.Common.{arith}
use borrow.Author.Tests.{eqb-false}
use Rattle.base.proofs.Firsts.{free_step}
use Rattle.scripts.specs.Marks.{mark_at}
use Rattle.scripts.proofs.has_mark.Goals as goal

pub loop-j-preserved : goal.loop-j-preserved
loop-j-preserved c =
    let a = c.args in
    let l = c.loop-j in
    λ z. free_step (mark_at a.letter a.dash a.block.now) 0 l.j (l.invariant (omega (arith, z, c.min-m.ensures))) (c.far.ensures (omega (arith, z, c.min-m.ensures)))

pub returns : goal.returns
returns c = λ z k h l. c.loop-j.invariant (omega (arith, eqb-false c.loop-j.m 0 z)) k h (omega arith)

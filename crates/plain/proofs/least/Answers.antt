-- The least so far is above 128 only if every byte that is passed is plain.
-- Assumes nothing.
use Rattle.std.proofs.Common.{false, arith, get_or}
use Rattle.base.proofs.Firsts.{free_step}
use Rattle.plain.specs.Plain.{special_at}
use Rattle.plain.proofs.Xors.{far-plain}
use Rattle.plain.proofs.least.Goals as goal

pub loop-b-preserved : goal.loop-b-preserved
loop-b-preserved g c =
    let t = c.args.block.now in
    let i = c.loop-b.b-index in
    λ z. free_step (special_at false t) 0 i (c.loop-b.invariant (omega (arith, z, c.min-m.ensures))) (far-plain (get_or t i 0) (c.type_inv.block i).fits (omega (arith, z, c.min-m.ensures, c.far.ensures)))

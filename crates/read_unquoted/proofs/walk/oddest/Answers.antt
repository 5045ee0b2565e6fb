-- `oddest` meets its contract. The invariant: the bits that are joined are 0 only where every byte that is passed is a letter or digit.
-- Assumes nothing.
use Rattle.std.proofs.Common.{true}
use Rattle.base.proofs.Firsts.{free_step}
use Rattle.plain.specs.Plain.{special_at}
use Rattle.read_unquoted.proofs.Letters.{plain_at, or-none}
use Rattle.read_unquoted.proofs.walk.oddest.Goals as goal

pub loop-b-preserved : goal.loop-b-preserved
loop-b-preserved c =
    let l = c.loop-b in
    let t = c.args.block.now in
    λ z. let none = or-none l.m c.odd-m.result z in free_step (special_at true t) 0 l.b-index (l.invariant none.0) (plain_at t l.b-index (c.odd-m.ensures none.1))

-- The least so far is at most the xor of each byte that is passed.
-- Assumes nothing.
use Rattle.std.proofs.Common.{arith}
use Rattle.plain.proofs.Xors.{xor-tells}
use Rattle.plain.proofs.look.least.Goals as goal

pub returns : goal.returns
returns c = λ h k l. xor-tells _ c.args.byte (c.type_inv.part k).fits c.requires (omega (arith, h, c.loop-b.invariant k (omega arith)))

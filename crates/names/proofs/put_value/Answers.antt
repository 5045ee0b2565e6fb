-- `names::put_value` meets its contract: what is read of the number is written, and `rest` holds what is left.
-- Assumes nothing.
use borrow.Author.Rules.{rules}
use Rattle.names.proofs.Packed.{unpacked-start, unpacked-end, unpacked-zero, unpacked-six, unpacked-room, unpacked-next}
use Rattle.names.proofs.put_value.Goals as goal

pub loop-n-init : goal.loop-n-init
loop-n-init c = unpacked-start _ _ c.requires

pub shape_of-output-then-rest-eq0 : goal.shape_of-output-then-rest-eq0
shape_of-output-then-rest-eq0 c = c.loop-n.invariant.filled.kept

pub returns-then-rest-eq0 : goal.returns-then-rest-eq0
returns-then-rest-eq0 c = unpacked-end c.loop-n.invariant (unpacked-zero c.loop-n.invariant c.if-rest-eq0.true)

pub bounds-output-n : goal.bounds-output-n
bounds-output-n c = unpacked-room c.loop-n.invariant (search rules) c.if-rest-eq0.false

pub loop-n-preserved : goal.loop-n-preserved
loop-n-preserved c = unpacked-next c.loop-n.invariant (search rules) c.if-rest-eq0.false

pub shape_of-output : goal.shape_of-output
shape_of-output c = c.loop-n.invariant.filled.kept

pub returns : goal.returns
returns c = unpacked-six c.loop-n.invariant (search rules)

-- `walk` meets its contract: what has been passed so far has no byte of the set.
-- Assumes nothing.
use Rattle.base.specs.First.{Free}
use Rattle.reader.specs.Replaced.{member_at}
use Rattle.reader.proofs.replaced.walk.Given as goal

abbrev pub invariant-loop-i : goal.invariant-loop-i
invariant-loop-i l = Free (member_at l.set l.text) l.from l.i

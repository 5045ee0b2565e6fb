-- `next_halt` meets its contract: what has been passed so far has no such byte.
-- Assumes nothing.
use Rattle.base.specs.First.{Free}
use Rattle.read_ascii.specs.Units.{halt_at}
use Rattle.read_ascii.proofs.next_halt.Given as goal

abbrev pub invariant-loop-i : goal.invariant-loop-i
invariant-loop-i l = Free (halt_at l.text) l.from l.i

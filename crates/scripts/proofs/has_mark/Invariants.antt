-- The least so far is above 0 only if no byte that is passed begins a mark.
-- Assumes nothing.
use Rattle.std.proofs.Common.{◌<◌}
use Rattle.base.specs.First.{Free}
use Rattle.scripts.specs.Marks.{mark_at}
use Rattle.scripts.proofs.has_mark.Given as goal

abbrev pub invariant-loop-j : goal.invariant-loop-j
invariant-loop-j l = 0 < l.m → Free (mark_at l.letter l.dash l.block) 0 l.j

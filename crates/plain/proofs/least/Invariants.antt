-- The least so far is above 128 only if every byte that is passed is plain.
-- Assumes nothing.
use Rattle.std.proofs.Common.{false, ◌<◌}
use Rattle.base.specs.First.{Free}
use Rattle.plain.specs.Plain.{special_at}
use Rattle.plain.proofs.least.Given as goal

abbrev pub invariant-loop-b : goal.invariant-loop-b
invariant-loop-b g l = 128 < l.m → Free (special_at false l.block) 0 l.b-index

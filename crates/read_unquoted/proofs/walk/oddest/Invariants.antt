-- `oddest` meets its contract. The invariant: the bits that are joined are 0 only where every byte that is passed is a letter or digit.
-- Assumes nothing.
use Rattle.std.proofs.Common.{◌≡◌, true}
use Rattle.base.specs.First.{Free}
use Rattle.plain.specs.Plain.{special_at}
use Rattle.read_unquoted.proofs.walk.oddest.Given as goal

abbrev pub invariant-loop-b : goal.invariant-loop-b
invariant-loop-b l = l.m ≡ 0 → Free (special_at true l.block) 0 l.b-index

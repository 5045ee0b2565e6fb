-- `plain::any_special` meets its contract. The invariant: the answer so far is false only where every byte that is passed is plain.
-- Assumes nothing.
use Rattle.std.proofs.Common.{false, ◌≡◌}
use Rattle.base.specs.First.{Free}
use Rattle.plain.specs.Plain.{special_at}
use Rattle.plain.proofs.any_special.Given as goal

abbrev pub invariant-loop-b : goal.invariant-loop-b
invariant-loop-b g l = l.hit ≡ false → Free (special_at l.unquoted l.block) 0 l.b-index

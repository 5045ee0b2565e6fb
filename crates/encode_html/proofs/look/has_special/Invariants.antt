-- `encode_html::look::has_special` meets its contract. The invariant: the answer so far is false only where no byte that is passed is special.
-- Assumes nothing.
use Rattle.std.proofs.Common.{false, ◌≡◌}
use Rattle.base.specs.First.{Free}
use Rattle.encode_html.specs.Keys.{special_at}
use Rattle.encode_html.proofs.look.has_special.Given as goal

abbrev pub invariant-loop-b : goal.invariant-loop-b
invariant-loop-b l = l.hit ≡ false → Free (special_at l.k l.part) 0 l.b-index

-- `has_lead` meets its contract: what has been passed so far has no such byte.
-- Assumes nothing.
use mathlib.Core.Bool.{false}
use mathlib.Core.Path.{◌≡◌}
use Rattle.base.specs.First.{Free}
use Rattle.reader.specs.Replaced.{begins_at}
use Rattle.reader.proofs.replaced.has_lead.Given as goal

abbrev pub invariant-loop-b : goal.invariant-loop-b
invariant-loop-b l = l.hit ≡ false → Free (begins_at l.leads l.part) 0 l.b-index

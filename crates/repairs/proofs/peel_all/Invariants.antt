-- `peel_all` meets its contract. The invariant: so many layers are off, and the text below them stands at the start of the field.
-- Assumes nothing.
use mathlib.Core.Path.{◌≡◌}
use Prim.Native.Nat.{◌≤◌}
use lib.ListN.{length, take}
use Rattle.rules.specs.Contexts.{context_of}
use Rattle.repairs.proofs.Peeling.{Peeling}
use Rattle.repairs.proofs.peel_all.Given as goal

abbrev pub invariant-loop-layers : goal.invariant-loop-layers
invariant-loop-layers l = (length l.field ≡ 8192) × (l.n ≤ 8192) × Peeling (context_of l.context) (take l.size l.initial.field) (take l.n l.field) l.layers

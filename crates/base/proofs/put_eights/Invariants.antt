-- `put_eights` meets its contract. The invariant: the text is copied up to the k-th eight, and what lies past it is as at the start.
-- Assumes nothing.
use Rattle.std.proofs.Common.{◌≡◌, ◌≤◌, ◌*◌, length}
use Rattle.base.proofs.Eights.{copied}
use Rattle.base.proofs.put_eights.Given as goal

abbrev pub invariant-loop-k : goal.invariant-loop-k
invariant-loop-k l = (8 * l.k ≤ length l.text) × (l.output ≡ copied l.text l.initial.output (8 * l.k))

-- `keep` meets its contract: past the end of the list nothing is set.
-- Assumes nothing.
use mathlib.Core.Path.{sym}
use lib.Seq.{set_out}
use Rattle.marks.proofs.keep.Goals as goal

pub returns-else-k-places : goal.returns-else-k-places
returns-else-k-places c = sym (set_out _ _ _ c.if-k-places.false)

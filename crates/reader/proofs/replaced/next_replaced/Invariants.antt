-- `next_replaced` meets its contract: what has been passed so far has no such byte. The measure is what is left of the text.
-- Assumes nothing.
use mathlib.Core.Bool.{true}
use mathlib.Core.Path.{◌≡◌}
use Prim.Native.Nat.{◌-◌, ◌≤◌, ◌<◌}
use lib.ListN.{length, get_or}
use Rattle.reader.specs.Replaced.{replaced_at, is_lead}
use Rattle.base.specs.First.{Free}
use Rattle.reader.proofs.replaced.next_replaced.Given as goal

abbrev pub invariant-loop-i : goal.invariant-loop-i
invariant-loop-i l = (l.from ≤ l.i) × (l.i ≤ length l.text) × Free (replaced_at l.leads l.text) l.from l.i × (l.i < length l.text → is_lead l.leads (get_or l.text l.i 0) ≡ true)

abbrev pub decreases-loop-i : goal.decreases-loop-i
decreases-loop-i l = length l.text - l.i

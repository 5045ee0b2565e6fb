-- `plain_to` meets its contract: up to `k` the text is valid, and each turn adds a character. The measure is what is left of the text.
-- Assumes nothing.
use Rattle.std.proofs.Common.{◌-◌, ◌≤◌, length, take}
use Rattle.rules.specs.Utf8.{IsText}
use Rattle.utf8.proofs.plain_to.Given as goal

abbrev pub invariant-loop-n : goal.invariant-loop-n
invariant-loop-n l = (l.k ≤ length l.text) × IsText (take l.k l.text)

abbrev pub decreases-loop-n : goal.decreases-loop-n
decreases-loop-n l = length l.text - l.k

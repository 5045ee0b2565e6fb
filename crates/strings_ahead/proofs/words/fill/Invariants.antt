-- `fill` meets its contract. The invariant: the words of the bytes so far stand in the table. The measure is how many bytes are left.
-- Assumes nothing.
use mathlib.Core.Path.{◌≡◌}
use Prim.Native.Nat.{ℕ, ◌<◌}
use lib.ListN.{get_or}
use Rattle.strings_ahead.specs.Ahead.{word_in}
use Rattle.strings_ahead.proofs.words.fill.Given as goal

abbrev pub invariant-loop-b : goal.invariant-loop-b
invariant-loop-b l = (k : ℕ) → k < l.b → get_or l.table k 0 ≡ word_in l.notation l.quotes k

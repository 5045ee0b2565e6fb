-- `least` meets its contract. The invariant: the least so far is above 0 only if no byte that is passed is a key. The measure is what is left of the sixteen.
-- Assumes nothing.
use Prim.Native.Nat.{ℕ, ◌<◌}
use lib.ListN.{get_or}
use Rattle.strings_ahead.specs.Ahead.{far_in}
use Rattle.strings_ahead.proofs.cold.least.Given as goal

abbrev pub invariant-loop-b : goal.invariant-loop-b
invariant-loop-b l = 0 < l.m → (x : ℕ) → x < l.b-index → 0 < far_in l.single l.double (get_or l.text x 0)

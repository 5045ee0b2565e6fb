-- `run` meets its contract. The invariant: the bytes so far are copied. The measure is what is left of the sixteen.
-- Assumes nothing.
use mathlib.Core.Path.{◌≡◌}
use mathlib.Core.Bool.{true}
use Prim.Native.Nat.{ℕ, ◌<◌}
use lib.ListN.{get_or}
use Rattle.strings_ahead.specs.Ahead.{copies}
use Rattle.strings_ahead.proofs.ahead.Words.run.Given as goal

abbrev pub invariant-loop-n : goal.invariant-loop-n
invariant-loop-n l = (i : ℕ) → i < l.n → copies l.self.notation l.self.quotes (get_or l.text i 0) ≡ true

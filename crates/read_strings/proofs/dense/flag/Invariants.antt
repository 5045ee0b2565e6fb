-- `flag` meets its contract: of each byte that is passed is told what the definition says, and the last is what is told of the byte before the next.
-- Assumes nothing.
use mathlib.Core.Path.{◌≡◌}
use Prim.Native.Nat.{ℕ, ◌+◌, ◌<◌}
use lib.ListN.{length, get_or}
use Rattle.read_strings.specs.Dense.{last_of, start_at}
use Rattle.read_strings.proofs.dense.flag.Given as goal

abbrev pub invariant-loop-j : goal.invariant-loop-j
invariant-loop-j l = (length l.flags ≡ 240) × (l.before ≡ last_of l.text (l.from + l.j)) × ((k : ℕ) → k < l.j → get_or l.flags k 0 ≡ start_at l.text (l.from + k))

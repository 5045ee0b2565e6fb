-- `first` meets its contract. The invariant: every byte that is passed and comes before the least so far is a letter or digit.
-- Assumes nothing.
use Rattle.std.proofs.Common.{◌≡◌, ℕ, ◌<◌, ◌≤◌, true, get_or}
use Rattle.rules.specs.Tables.{letter_or_digit}
use Rattle.read_unquoted.proofs.walk.first.Given as goal

abbrev pub invariant-loop-j : goal.invariant-loop-j
invariant-loop-j l = (l.m ≤ 16) × ((k : ℕ) → k < l.j → k < l.m → letter_or_digit (get_or l.block k 0) ≡ true)

-- The least so far is at most the xor of each byte that is passed.
-- Assumes nothing.
use Rattle.std.proofs.Common.{ℕ, ◌+◌, ◌≤◌, ◌<◌, get_or}
use lib.Bits.{bit_xor}
use Rattle.plain.proofs.look.least.Given as goal

abbrev pub invariant-loop-b : goal.invariant-loop-b
invariant-loop-b l = (k : ℕ) → k < l.b-index → l.m ≤ bit_xor (get_or l.part k 0) (l.byte + 128)

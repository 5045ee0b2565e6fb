-- The least so far is above 0 only if no byte that is passed is a key.
-- Assumes nothing.
use Rattle.std.proofs.Common.{ℕ, ◌<◌, get_or}
use Rattle.encode_html.specs.Keys.{far_of}
use Rattle.encode_html.proofs.cold.least.Given as goal

abbrev pub invariant-loop-b : goal.invariant-loop-b
invariant-loop-b l = 0 < l.m → (x : ℕ) → x < l.b-index → 0 < far_of l.k (get_or l.part x 0)

-- A test of every byte, computed once.
-- Assumes nothing.
use mathlib.Core.Bool.{Bool}
use Prim.Native.Nat.{ℕ, ◌<◌}
use lib.Dec.{T}
use Rattle.rules.specs.Bytes.{all, count}
use Rattle.rules.proofs.Below.{below}

-- What is computed of the list of all bytes holds of each.
pub every_byte_lem : (f : ℕ → Bool) → T (all f (count 0 256)) → (b : ℕ) → b < 256 → T (f b)
every_byte_lem f = below f 256

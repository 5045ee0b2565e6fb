-- `encode_strings::growth::weigh` meets its contract. The invariant: each sum so far, with that of the bytes from here on, is the whole sum. The measure is
-- what is left of the part.
-- Assumes nothing.
use mathlib.Core.Path.{◌≡◌}
use Prim.Native.Nat.{◌+◌, ◌≤◌}
use lib.ListN.{drop}
use Rattle.encode_strings.specs.Strings.{escaped_of, hexed_of, same_of, total}
use Rattle.encode_strings.proofs.growth.weigh.Given as goal

abbrev pub invariant-loop-b : goal.invariant-loop-b
invariant-loop-b l =
    (l.escaped + total (escaped_of l.single l.double) (drop l.b-index l.part) ≡ total (escaped_of l.single l.double) l.part)
    × (l.hexed + total hexed_of (drop l.b-index l.part) ≡ total hexed_of l.part)
    × (l.n + total (same_of l.odd) (drop l.b-index l.part) ≡ total (same_of l.odd) l.part)
    × (l.escaped ≤ l.b-index)
    × (l.hexed ≤ l.b-index)
    × (l.n ≤ l.b-index)

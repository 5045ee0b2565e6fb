-- `names_bare::find_from` meets its contract: the first bytes are those of the number, and no shorter name stands there.
-- Assumes nothing.
use mathlib.Core.List.{List}
use Prim.Native.Nat.{ℕ, ◌<◌}
use lib.Dec.{T}
use lib.ListN.{length}
use Rattle.rules.specs.Bytes.{In, stands}
use Rattle.rules.specs.Bare.{bare}
use Rattle.names_bare.specs.Heads.{Spelled}
use Rattle.names_bare.proofs.find_from.Given as goal

abbrev pub invariant-loop-length : goal.invariant-loop-length
invariant-loop-length l = Spelled l.text l.length l.word × ((name : List ℕ) → In name bare → length name < l.length → T (stands name l.text) → ⊥)

-- What the loop over a tag's name needs: the name is left at what of the text is left exactly if the whole is at the whole.
-- Assumes nothing.
use mathlib.Core.Bool.{Bool, ◌&&◌, ◌||◌}
use mathlib.Core.Path.{◌≡◌}
use mathlib.Core.List.{List}
use Prim.Native.Nat.{ℕ, ◌+◌, ◌<◌}
use native.Mathlib.Numerals.{add-one}
use lib.Dec.{eqb}
use lib.ListN.{length, drop, get_or}
use lib.Seq.{drop-cons}
use Rattle.rules.specs.ScriptData.{lower, spells}

-- The bytes that end a name, test by test.
abbrev tests : ℕ → Bool
tests b = (((((eqb b 9 || eqb b 10) || eqb b 12) || eqb b 13) || eqb b 32) || eqb b 47) || eqb b 62

-- ---- the loop over the name

module _ (name s : List ℕ) (i : ℕ) where
  unrolled : i < length name → i < length s → spells (drop i name) (drop i s) ≡ (eqb (lower (get_or s i 0)) (get_or name i 0) && spells (drop (i + 1) name) (drop (i + 1) s))
  unrolled h k = rw (add-one, drop-cons name i 0 h, drop-cons s i 0 k)

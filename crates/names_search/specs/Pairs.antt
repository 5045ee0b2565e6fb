-- Tables of pairs, each a number and what stands beside it.
-- Assumes nothing.
use Rattle.std.specs.Prelude.{cond, List, [], ◌∷◌, ℕ, eqb}

-- What stands beside n, or `other` where n is in no pair.
abbrev pub beside : {A : Type 0} → A → List (ℕ × A) → ℕ → A
beside other [] n = other
beside other (pair ∷ pairs) n = cond (eqb n pair.0) pair.1 (beside other pairs n)

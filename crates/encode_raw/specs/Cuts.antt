-- Where a backslash goes in.
-- Assumes nothing.
use Rattle.std.specs.Prelude.{Bool, ◌&&◌, ◌||◌, List, ℕ, ◌+◌, eqb, drop, get_or}
use Rattle.rules.specs.Encoding.{parted}

-- At place k of the text is a `<` that a backslash goes in after.
unfoldable pub cut_at : List ℕ → ℕ → Bool
cut_at t k = eqb (get_or t k 0) 60 && parted (drop (k + 1) t)

-- The bytes a and b are `<!` or `</`.
unfoldable pub suspect : ℕ → ℕ → Bool
suspect a b = eqb a 60 && (eqb b 33 || eqb b 47)

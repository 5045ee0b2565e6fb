-- Two upper-case hex digits between given bytes.
-- Assumes nothing.
use Rattle.std.specs.Prelude.{Option, Some, None, cond, List, [], ◌∷◌, ℕ, ◌+◌, ◌*◌, length, drop}
use Rattle.rules.specs.Bytes.{stands}
use Rattle.base.specs.Digits.{upper_digit}

-- The value of two digits, if both bytes are digits.
abbrev pub both : Option ℕ → Option ℕ → Option ℕ
both (Some x) (Some y) = Some (16 * x + y)
both (Some x) None = None
both None y = None

-- The value of two bytes that are upper-case hex digits.
unfoldable pub pair_of : ℕ → ℕ → Option ℕ
pair_of a b = both (upper_digit a) (upper_digit b)

-- The value of the two at the head of s, where q follows them.
abbrev pub hex_before : List ℕ → List ℕ → Option ℕ
hex_before q [] = None
hex_before q (a ∷ []) = None
hex_before q (a ∷ b ∷ s) = cond (stands q s) (pair_of a b) None

-- The value of the two that stand between p and q at the head of s.
unfoldable pub hex_between : List ℕ → List ℕ → List ℕ → Option ℕ
hex_between p q s = cond (stands p s) (hex_before q (drop (length p) s)) None

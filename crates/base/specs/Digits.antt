-- The value of a digit.
-- Assumes nothing.
use Rattle.std.specs.Prelude.{Option as Maybe, Some, None, cond, ℕ, ◌-◌, ltb, leb}
use Rattle.std.proofs.Math.Option.{Option, none, some}
use Rattle.rules.specs.Bytes.{inside}
use Rattle.rules.specs.References.{hex_digit_at}

-- What the rules find, as the code has it.
abbrev pub found_as : Option ℕ → Maybe ℕ
found_as none = None
found_as (some n) = Some n

-- The value of an upper-case hex digit: a hex digit below `a`.
unfoldable pub upper_digit : ℕ → Maybe ℕ
upper_digit b = cond (ltb b 97) (found_as (hex_digit_at b)) None

-- The value, if it is a digit of a base: below the base.
abbrev pub under : ℕ → Maybe ℕ → Option ℕ
under base None = none
under base (Some n) = cond (ltb n base) (some n) none

-- The same byte as upper case, where it is a lower-case letter.
abbrev pub upper_of : ℕ → ℕ
upper_of b = cond (leb 97 b) (b - 32) b

-- The value of an upper-case letter that is a hex digit, 255 for any other byte.
unfoldable pub letter_of : ℕ → ℕ
letter_of b = cond (inside (65, 70) b) (b - 55) 255

-- The value of a digit, or of such a letter l.
abbrev pub value_with : ℕ → ℕ → ℕ
value_with b l = cond (inside (48, 57) b) (b - 48) (letter_of l)

-- A value, if it is below 16.
abbrev pub of_sixteen : ℕ → Maybe ℕ
of_sixteen v = cond (ltb v 16) (Some v) None

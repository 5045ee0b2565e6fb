-- The units of strings, by the bytes after their backslash.
-- Assumes nothing.
use Rattle.std.specs.Prelude.{Bool, false, not, ◌&&◌, ◌||◌, cond, ◌≡◌, List, [], ◌∷◌, ℕ, ◌+◌, ◌*◌, ◌/◌, ◌%◌, ◌^◌, ◌≤◌, eqb, length, take, drop, get_or}
use Rattle.rules.specs.Bytes.{inside}
use Rattle.rules.specs.Contexts.{string_of}
use Rattle.rules.specs.Moves.{swap, before}
use Rattle.rules.specs.declared.Language.{Language}
use Rattle.rules.specs.declared.Language.TheVariants.{Script, Style}
use Rattle.rules.specs.declared.Quotes.{Quotes}
use Rattle.marks.specs.Marks.{end_by}
use Rattle.reader.specs.Units.{byte_step}
use Rattle.read_strings.specs.Clear.{is_key}

-- An upper-case hex digit.
abbrev pub is_digit : ℕ → Bool
is_digit b = inside (0x30, 0x39) b || inside (0x41, 0x46) b

-- The digits of a byte below 32 or of `<`.
abbrev pub is_hexed : ℕ → ℕ → Bool
is_hexed a b = inside (0x30, 0x31) a && is_digit b || eqb a 0x33 && eqb b 0x43

-- `xHH` in a script; `HH` and a space in a style sheet, but not for 0.
abbrev pub is_hex : Language → ℕ → ℕ → ℕ → Bool
is_hex Script b c d = eqb b 0x78 && is_hexed c d
is_hex Style b c d = eqb d 0x20 && is_hexed b c && (not (eqb b 0x30) || not (eqb c 0x30))

-- `u2028` or `u2029` in a script.
abbrev pub is_separator : Language → ℕ → ℕ → ℕ → ℕ → ℕ → Bool
is_separator Script b c d e f = eqb b 0x75 && eqb c 0x32 && eqb d 0x30 && eqb e 0x32 && inside (0x38, 0x39) f
is_separator Style b c d e f = false

-- A quote, or a backslash that no quote follows.
abbrev pub is_slashed : List ℕ → ℕ → ℕ → Bool
is_slashed keys b c = is_key keys b || eqb b 0x5C && not (is_key keys c)

-- The bytes after a backslash with which it is a unit.
abbrev pub is_form : Language → List ℕ → ℕ → ℕ → ℕ → ℕ → ℕ → Bool
is_form l keys b c d e f = is_slashed keys b c || is_hex l b c d || is_separator l b c d e f

-- The length of a unit with this second byte, and how many bytes fewer its character has, by the lowest three bits.
abbrev pub length_of : ℕ → ℕ
length_of b = 0x24624244 / 2 ^ (b % 8 * 4) % 8

abbrev pub gain_of : ℕ → ℕ
gain_of b = 0x13313133 / 2 ^ (b % 8 * 4) % 4

-- The value of two digits.
abbrev pub hex_of : ℕ → ℕ → ℕ
hex_of a b = a % 4 * 16 + (b % 16 + b / 64 * 9)

-- That of the digits of a unit.
abbrev pub value_of : Language → ℕ → ℕ → ℕ → ℕ
value_of Script b c d = hex_of c d
value_of Style b c d = hex_of b c

-- The byte that a unit stands for: the second one itself, or the value of its digits.
abbrev pub byte_of : Language → ℕ → ℕ → ℕ → ℕ
byte_of l b c d = cond (eqb (length_of b) 2) b (value_of l b c d)

-- Its character, which is U+2028 or U+2029 where the second byte is `u`.
abbrev pub chars_of : Language → ℕ → ℕ → ℕ → ℕ → List ℕ
chars_of l b c d f = cond (eqb b 0x75) (0xE2 ∷ 0x80 ∷ (0xA8 + f % 2) ∷ []) (byte_of l b c d ∷ [])

-- The character of the unit at place p of the text, and where the unit ends.
abbrev pub chars_at : Language → List ℕ → ℕ → List ℕ
chars_at l t p = chars_of l (get_or t (p + 1) 0) (get_or t (p + 2) 0) (get_or t (p + 3) 0) (get_or t (p + 5) 0)

abbrev pub end_of : List ℕ → ℕ → ℕ
end_of t p = end_by length_of t p

-- At place p of the text is a unit of the string: it is within the text, and read makes its character of it.
pub record UnitAt (l : Language) (q : Quotes) (t : List ℕ) (p : ℕ) : Type 0 where
  pub moves : byte_step (string_of l q) (before t p) (drop p t) ≡ swap (take (length_of (get_or t (p + 1) 0)) (drop p t)) (chars_at l t p)
  pub ends : end_of t p ≤ length t
  pub shorter : length (chars_at l t p) + gain_of (get_or t (p + 1) 0) ≡ length_of (get_or t (p + 1) 0)

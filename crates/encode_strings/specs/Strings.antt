-- The rule of the string encoder, what a replacement takes, and how bytes grow.
-- Assumes nothing.
use Rattle.std.specs.Prelude.{Bool, true, false, ◌&&◌, ◌||◌, cond, ◌⊎◌, ◌≡◌, List, [], ◌∷◌, ℕ, ◌+◌, ◌-◌, ◌*◌, ◌/◌, ◌≤◌, ◌<◌, eqb, ltb, length, get_or, Option, Some, None}
use Rattle.rules.specs.Bytes.{any}
use Rattle.rules.specs.Moves.{Move}
use Rattle.rules.specs.Tables.{Row, key, value, hex_row}
use Rattle.rules.specs.Contexts.{written_in}
use Rattle.rules.specs.Encoding.{encode_step}
use Rattle.rules.specs.declared.Quotes.{Quotes}
use Rattle.rules.specs.declared.Quotes.TheVariants.{Single, Double, Both}
use Rattle.rules.specs.declared.Notation.{Notation}
use Rattle.rules.specs.declared.Notation.TheVariants.{Script, Style, Json}
use Rattle.rules.specs.declared.Replacement.{Replacement}
use Rattle.rules.specs.declared.Replacement.TheVariants.{Slashed, Hex, Separator, Substitute}

-- ---- the rule

-- The quotes that a string escapes: in JSON the double one.
abbrev pub quotes_in : Notation → Quotes → Quotes
quotes_in Script q = q
quotes_in Style q = q
quotes_in Json q = Double

-- The single quote where it is escaped, else the backslash, which every string escapes.
abbrev pub single_of : Quotes → ℕ
single_of Single = 0x27
single_of Double = 0x5C
single_of Both = 0x27

-- The same of the double quote.
abbrev pub double_of : Quotes → ℕ
double_of Single = 0x5C
double_of Double = 0x22
double_of Both = 0x22

-- The same two by how the string is written.
abbrev pub single_key : Notation → Quotes → ℕ
single_key notation quotes = single_of (quotes_in notation quotes)

abbrev pub double_key : Notation → Quotes → ℕ
double_key notation quotes = double_of (quotes_in notation quotes)

-- The line separators are escaped: not in a style string.
abbrev pub separates : Notation → Bool
separates Script = true
separates Style = false
separates Json = true

-- The byte is escaped by a backslash before it: the backslash itself, and these quotes.
unfoldable pub is_slashed : ℕ → ℕ → ℕ → Bool
is_slashed single double b = eqb b 0x5C || eqb b single || eqb b double

-- It is escaped by its hex digits: bytes 0 to 31 and `<`.
unfoldable pub is_hexed : ℕ → Bool
is_hexed b = ltb b 32 || eqb b 0x3C

-- How such a byte is written: NUL in a style string becomes U+FFFD.
abbrev pub hex_by : Notation → ℕ → Replacement
hex_by Script b = Hex
hex_by Style b = cond (eqb b 0) Substitute Hex
hex_by Json b = Hex

-- What replaces a character of one byte, by the quotes that are escaped.
abbrev pub replaced_with : Notation → Quotes → ℕ → Option Replacement
replaced_with notation quotes b = cond (is_slashed (single_of quotes) (double_of quotes) b) (Some Slashed) (cond (is_hexed b) (Some (hex_by notation b)) None)

-- What replaces it in a string.
abbrev pub replaced_by : Notation → Quotes → ℕ → Option Replacement
replaced_by notation quotes b = replaced_with notation (quotes_in notation quotes) b

-- The move of one byte by itself.
abbrev pub alone : Notation → Quotes → ℕ → Move
alone notation quotes b = encode_step (written_in notation quotes) 0 (b ∷ [])

-- The bytes begin with b, if there are any.
abbrev pub headed : ℕ → List ℕ → Bool
headed b [] = true
headed b (x ∷ xs) = eqb x b

-- Some row's key begins with b.
unfoldable pub starts : List Row → ℕ → Bool
starts rows b = any (λ (row : Row). headed b (key row)) rows

-- ---- one replacement

-- How many bytes of the text a replacement takes.
abbrev pub taken_by : Replacement → ℕ
taken_by Slashed = 1
taken_by Hex = 1
taken_by Separator = 3
taken_by Substitute = 1

-- A byte written in hex.
abbrev pub hex_in : Notation → ℕ → List ℕ
hex_in notation b = value (hex_row notation b)

-- All that it takes is there, and the last byte of a separator is A8 or A9.
abbrev pub Held : Replacement → List ℕ → Type 0
Held Slashed s = 1 ≤ length s
Held Hex s = 1 ≤ length s
Held Separator s = (3 ≤ length s) × (0xA8 ≤ get_or s 2 0) × (get_or s 2 0 ≤ 0xA9)
Held Substitute s = 1 ≤ length s

-- The same of what is found at the head of s.
abbrev pub HeldAt : Option Replacement → List ℕ → Type 0
HeldAt (Some r) s = Held r s
HeldAt None s = 1 ≤ length s

-- ---- growth

-- 1 where the byte is escaped, by a backslash or by its hex digits.
unfoldable pub escaped_of : ℕ → ℕ → ℕ → ℕ
escaped_of single double b = cond (is_slashed single double b || is_hexed b) 1 0

-- 1 where it is escaped by its hex digits.
unfoldable pub hexed_of : ℕ → ℕ
hexed_of b = cond (is_hexed b) 1 0

-- By how much n bytes that are written in hex grow more than those with a backslash: `\x3C` and `\3C ` have four bytes, `\u003C` has six.
abbrev pub hex_growth : Notation → ℕ → ℕ
hex_growth Script n = 2 * n
hex_growth Style n = 2 * n
hex_growth Json n = 4 * n

-- By how much one byte does so.
unfoldable pub more_of : Notation → ℕ → ℕ
more_of notation b = hex_growth notation (hexed_of b)

-- 1 where the two bytes are the same.
unfoldable pub same_of : ℕ → ℕ → ℕ
same_of a b = cond (eqb a b) 1 0

-- The sum over the bytes.
abbrev pub total : (ℕ → ℕ) → List ℕ → ℕ
total f [] = 0
total f (b ∷ s) = f b + total f s

-- The bytes b and c end a line separator that E2 begins.
unfoldable pub ends_of : ℕ → ℕ → Bool
ends_of b c = eqb b 0x80 && (eqb c 0xA8 || eqb c 0xA9)

-- The bytes s begin with two that do.
abbrev pub ended : List ℕ → Bool
ended [] = false
ended (b ∷ []) = false
ended (b ∷ c ∷ s) = ends_of b c

-- How many line separators stand in the bytes.
abbrev pub separators_in : List ℕ → ℕ
separators_in [] = 0
separators_in (a ∷ s) = cond (eqb a 0xE2 && ended s) 1 0 + separators_in s

-- What is counted in a part: the escaped bytes, those that are by their hex digits, and E2.
abbrev pub Counted : Notation → Quotes → List ℕ → ℕ → ℕ → ℕ → Type 0
Counted notation quotes s escaped hexed leads =
    (escaped ≡ total (escaped_of (single_key notation quotes) (double_key notation quotes)) s) × (hexed ≡ total hexed_of s) × (leads ≡ total (same_of 0xE2) s)

-- How many places are replaced in a part with so many escaped bytes that grows by so much: a line separator that is escaped grows by three bytes.
abbrev pub places_by : Notation → ℕ → ℕ → ℕ → ℕ
places_by notation escaped hexed growth = cond (separates notation) (escaped + (growth - (escaped + hex_growth notation hexed)) / 3) escaped

-- No line separator lies across the place r of the text: it is the end, a separator may begin there, or none begins in the two bytes before.
abbrev pub Apart : List ℕ → ℕ → Type 0
Apart t r = (length t ≤ r) ⊎ (get_or t r 0 ≡ 0xE2) ⊎ ((k : ℕ) → k < r → r ≤ k + 2 → get_or t k 0 ≡ 0xE2 → ⊥)

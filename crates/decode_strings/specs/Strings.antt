-- The script and style strings: their elements, and which bytes each kind of escape stands for.
-- Assumes nothing.
use Rattle.std.specs.Prelude.{Option, Some, None, Bool, not, ◌&&◌, ◌||◌, cond, List, [], ◌∷◌, ◌++◌, map, ℕ, ltb, eqb}
use Rattle.rules.specs.Bytes.{ascii, count}
use Rattle.rules.specs.declared.Quotes.{Quotes}
use Rattle.rules.specs.declared.Quotes.TheVariants.{Single, Double, Both}
use Rattle.rules.specs.declared.Language.{Language}
use Rattle.rules.specs.declared.Language.TheVariants.{Script, Style}
use Rattle.rules.specs.declared.Notation.{Notation}
use Rattle.rules.specs.declared.Notation.TheVariants.{Script as ScriptString, Style as StyleString}
use Rattle.rules.specs.Tables.{Row, slashed, hex_row}
use Rattle.decode_strings.specs.Hex.{hex_between}

-- The name of the element of a language.
abbrev pub name_of : Language → List ℕ
name_of Style = ascii "style"
name_of Script = ascii "script"

-- How its strings are written.
abbrev pub notation_of : Language → Notation
notation_of Style = StyleString
notation_of Script = ScriptString

-- The quotes that it escapes.
abbrev pub quotes_of : Quotes → List ℕ
quotes_of Single = 0x27 ∷ []
quotes_of Double = 0x22 ∷ []
quotes_of Both = 0x27 ∷ 0x22 ∷ []

-- The bytes that are written with a backslash before them.
abbrev pub slashed_bytes : Quotes → List ℕ
slashed_bytes q = 0x5C ∷ quotes_of q

-- Their rows.
abbrev pub slashed_rows : Quotes → List Row
slashed_rows q = map slashed (slashed_bytes q)

-- The byte after a backslash at the head of s.
abbrev pub after_slash : List ℕ → Option ℕ
after_slash [] = None
after_slash (x ∷ []) = None
after_slash (x ∷ y ∷ s) = cond (eqb x 0x5C) (Some y) None

-- The value of the hex escape at the head of s, `\HH` and a space or `\xHH`.
abbrev pub hex_escape : Language → List ℕ → Option ℕ
hex_escape Style s = hex_between (ascii "\\") (ascii " ") s
hex_escape Script s = hex_between (ascii "\\x") [] s

-- "With value 3C or below 20 hex (style: not 0)".
abbrev pub is_hexed : Language → ℕ → Bool
is_hexed Script v = eqb v 0x3C || ltb v 0x20
is_hexed Style v = eqb v 0x3C || (ltb v 0x20 && not (eqb v 0))

-- U+2028 as a script string writes it.
abbrev pub line_separator : Row
line_separator = (0xE2 ∷ 0x80 ∷ 0xA8 ∷ [], ascii "\\u2028")

-- U+2029.
abbrev pub paragraph_separator : Row
paragraph_separator = (0xE2 ∷ 0x80 ∷ 0xA9 ∷ [], ascii "\\u2029")

-- These two rows, in a script string.
abbrev pub separators : Language → List Row
separators Style = []
separators Script = line_separator ∷ paragraph_separator ∷ []

-- The bytes that are written in hex.
abbrev pub hexed_bytes : Language → List ℕ
hexed_bytes Style = count 1 31 ++ 0x3C ∷ []
hexed_bytes Script = count 0 32 ++ 0x3C ∷ []

-- Their rows.
abbrev pub hex_rows : Language → List Row
hex_rows language = map (hex_row (notation_of language)) (hexed_bytes language)

-- The rows of the string but those with a backslash before the byte.
abbrev pub unslashed_rows : Language → List Row
unslashed_rows language = hex_rows language ++ separators language

-- RULES 5. What each context replaces: a context is a table of rows, each a character and what is written for it.
-- Assumes nothing.
use Rattle.std.specs.Prelude.{Bool, not, ◌||◌, cond, List, [], ◌∷◌, ◌++◌, map, ℕ, zero, suc, ◌+◌, ◌/◌, ◌%◌, ltb}
use Rattle.std.proofs.Math.Option.{Option}
use Prim.Native.Char.{code}
use Rattle.rules.specs.Bytes.{ascii, bytes, only, first, stands, between, one_of}
use Rattle.rules.specs.Utf8.{utf8, substitute}
use Rattle.rules.specs.declared.Html.{Html}
use Rattle.rules.specs.declared.Html.TheVariants.{TextMinimal, Text, DoubleQuoted, SingleQuoted, Quoted, Safe, Unquoted}
use Rattle.rules.specs.declared.Quotes.{Quotes}
use Rattle.rules.specs.declared.Quotes.TheVariants.{Single, Double, Both}
use Rattle.rules.specs.declared.Notation.{Notation}
use Rattle.rules.specs.declared.Notation.TheVariants.{Script, Style, Json}
use Rattle.rules.specs.declared.Context.{Context}
use Rattle.rules.specs.declared.Context.TheVariants.{InHtml, InScript, InStyle, InJson, InAscii}

-- A row: the key gives way to the value.
abbrev pub Row : Type 0
Row = List ℕ × List ℕ

-- What a row replaces.
abbrev pub key : Row → List ℕ
key row = row.0

-- What it writes.
abbrev pub value : Row → List ℕ
value row = row.1

-- The first row whose key, or whose value, stands at the head of s.
abbrev pub row_at : (Row → List ℕ) → List Row → List ℕ → Option Row
row_at side rows s = first (λ (row : Row). stands (side row)) rows s

-- An upper-case hex digit.
abbrev pub hex_digit : ℕ → ℕ
hex_digit n = cond (ltb n 10) (48 + n) (55 + n)

-- The last k digits of a number in some base, without leading zeros.
abbrev pub numeral : (ℕ → ℕ) → ℕ → ℕ → ℕ → List ℕ
numeral digit base zero n = []
numeral digit base (suc k) n = cond (ltb n base) (digit n ∷ []) (numeral digit base k (n / base) ++ digit (n % base) ∷ [])

-- A byte as two of them.
abbrev pub hex_pair : ℕ → List ℕ
hex_pair b = hex_digit (b / 16) ∷ hex_digit (b % 16) ∷ []

-- ---- the seven HTML contexts

-- `&`→`&amp;`
abbrev pub amp : Row
amp = (ascii "&", ascii "&amp;")

-- `<`→`&lt;`
abbrev pub lt : Row
lt = (ascii "<", ascii "&lt;")

-- `>`→`&gt;`
abbrev pub gt : Row
gt = (ascii ">", ascii "&gt;")

-- `"`→`&quot;`
abbrev pub quot : Row
quot = (ascii "\"", ascii "&quot;")

-- A byte →`&#xHH;`
abbrev pub reference : ℕ → Row
reference b = (b ∷ [], ascii "&#x" ++ hex_pair b ++ ascii ";")

-- `'`→`&#x27;`
abbrev pub apostrophe : Row
apostrophe = reference (code "'")

-- `/`→`&#x2F;`
abbrev pub solidus : Row
solidus = reference (code "/")

-- An ASCII letter or digit.
abbrev pub letter_or_digit : ℕ → Bool
letter_or_digit b = between "0" "9" b || between "A" "Z" b || between "a" "z" b

-- Every other ASCII byte that is no letter or digit: those that the four named rows leave.
abbrev pub others : List ℕ
others = only (λ (b : ℕ). not (letter_or_digit b || one_of (ascii "&<>\"") b)) (bytes 0 127)

-- What each of the seven HTML contexts replaces.
abbrev pub html_rows : Html → List Row
html_rows TextMinimal = amp ∷ lt ∷ []
html_rows Text = amp ∷ lt ∷ gt ∷ []
html_rows DoubleQuoted = amp ∷ lt ∷ gt ∷ quot ∷ []
html_rows SingleQuoted = amp ∷ lt ∷ gt ∷ apostrophe ∷ []
html_rows Quoted = amp ∷ lt ∷ gt ∷ quot ∷ apostrophe ∷ []
html_rows Safe = amp ∷ lt ∷ gt ∷ quot ∷ apostrophe ∷ solidus ∷ []
html_rows Unquoted = amp ∷ lt ∷ gt ∷ quot ∷ map reference others

-- ---- script and style strings

-- A backslash before the byte.
abbrev pub slashed : ℕ → Row
slashed b = (b ∷ [], ascii "\\" ++ b ∷ [])

-- `\`→`\\`; `'`→`\'` in single and quoted; `"`→`\"` in double and quoted.
abbrev pub quote_rows : Quotes → List Row
quote_rows Single = map slashed (ascii "\\'")
quote_rows Double = map slashed (ascii "\\\"")
quote_rows Both = map slashed (ascii "\\'\"")

-- A byte →`\xHH`
abbrev pub script_hex : ℕ → Row
script_hex b = (b ∷ [], ascii "\\x" ++ hex_pair b)

-- U+2028→`\u2028`
abbrev pub line_separator : Row
line_separator = (utf8 0x2028, ascii "\\u2028")

-- U+2029→`\u2029`
abbrev pub paragraph_separator : Row
paragraph_separator = (utf8 0x2029, ascii "\\u2029")

-- Bytes 0 to 31 and `<`, U+2028 and U+2029 in a script string.
abbrev pub script_rows : List Row
script_rows = map script_hex (bytes 0 31 ++ ascii "<") ++ line_separator ∷ paragraph_separator ∷ []

-- A byte →`\HH` and a space.
abbrev pub style_hex : ℕ → Row
style_hex b = (b ∷ [], ascii "\\" ++ hex_pair b ++ ascii " ")

-- Bytes 1 to 31 and `<` in a style string.
abbrev pub style_rows : List Row
style_rows = map style_hex (bytes 1 31 ++ ascii "<")

-- ---- JSON strings

-- A byte →`\u00HH`
abbrev pub json_hex : ℕ → Row
json_hex b = (b ∷ [], ascii "\\u00" ++ hex_pair b)

-- The row of a byte that a string writes in hex.
abbrev pub hex_row : Notation → ℕ → Row
hex_row Script b = script_hex b
hex_row Style b = style_hex b
hex_row Json b = json_hex b

-- Bytes 0 to 31 and `<`, U+2028 and U+2029 in a JSON string; its quotation mark and backslash are written as in a double-quoted string.
abbrev pub json_rows : List Row
json_rows = map json_hex (bytes 0 31 ++ ascii "<") ++ line_separator ∷ paragraph_separator ∷ []

-- ---- every context

-- The replacements of each context that can be read back: its units beside the plain characters. ascii_quoted has the rows of `quoted`, and a rule
-- for the characters above 7F (RULES 27).
abbrev pub rows : Context → List Row
rows (InHtml h) = html_rows h
rows (InScript q) = quote_rows q ++ script_rows
rows (InStyle q) = quote_rows q ++ style_rows
rows InJson = quote_rows Double ++ json_rows
rows InAscii = html_rows Quoted

-- The one replacement that cannot: NUL becomes U+FFFD in a style string.
abbrev pub lossy : Context → List Row
lossy (InHtml h) = []
lossy (InScript q) = []
lossy (InStyle q) = (0x00 ∷ [], substitute) ∷ []
lossy InJson = []
lossy InAscii = []

-- All that the encoder of the context replaces; the rest is copied.
abbrev pub table : Context → List Row
table c = lossy c ++ rows c

-- The characters that it does not copy.
abbrev pub replaced_chars : Context → List (List ℕ)
replaced_chars c = map key (table c)

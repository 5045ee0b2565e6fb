-- RULES 28.3. The places of scripts, style sheets and JSON: string literals and templates (ECMAScript 12.9.4, 12.9.6 and B.1.2), string tokens (CSS Syntax 3.3, 4.3.5 and
-- 4.3.7), strings (RFC 8259, section 7). A place begins after its opening quote.
-- Assumes nothing.
use Rattle.std.specs.Prelude.{not, ◌&&◌, cond, List, [], ◌∷◌, ◌++◌, map, ℕ, ◌+◌, ◌-◌, ◌*◌, eqb, take, drop}
use Rattle.std.proofs.Math.Option.{none, some}
use Rattle.rules.specs.Bytes.{ascii, bytes, join}
use Rattle.rules.specs.Utf8.{utf8, substitute}
use Rattle.rules.specs.Tables.{Row, key, value}
use Rattle.rules.specs.References.{hex_digit_at, digits, scalar}
use Rattle.rules.specs.Json.{pair_of, short_escapes}
use Rattle.places.specs.Places.{leaves, means, Entry, Place, exactly, times, any_byte, left_at, stand_for, line_ends, nul_replaced}

-- ---- escapes

abbrev pub hex_digits : List ℕ
hex_digits = bytes 48 57 ++ bytes 65 70 ++ bytes 97 102

abbrev pub octal_digits : List ℕ
octal_digits = bytes 48 55

-- The number of some hex digits.
abbrev pub hex_of : List ℕ → ℕ
hex_of s = elim (digits hex_digit_at 16 0 s) [ none ↦ 0 | some n ↦ n ]

-- The number of some octal digits, behind the number n of those before them.
abbrev pub octal_of : ℕ → List ℕ → ℕ
octal_of n [] = n
octal_of n (b ∷ s) = octal_of (n * 8 + (b - 48)) s

-- The character of an octal escape.
abbrev pub octal_char : List ℕ → List ℕ
octal_char s = utf8 (octal_of 0 (drop 1 s))

-- An escape of two characters, from its row.
abbrev pub short : Row → Entry
short row = stand_for (value row) (key row)

-- `\u` and a pair of surrogates, `\u` and four hex digits. (A surrogate by itself is no text: it is given as three bytes that are not UTF-8.)
abbrev pub unicode : List Entry
unicode = (
  exactly (ascii "\\u") ++ ascii "dD" ∷ ascii "89abAB" ∷ hex_digits ∷ hex_digits ∷ exactly (ascii "\\u") ++ ascii "dD" ∷ ascii "cdefCDEF" ∷ hex_digits ∷ hex_digits ∷ [],
  means 12 (λ (s : List ℕ). utf8 (pair_of (hex_of (take 4 (drop 2 s))) (hex_of (take 4 (drop 8 s))))),
)
    ∷ (exactly (ascii "\\u") ++ times 4 hex_digits, means 6 (λ (s : List ℕ). utf8 (hex_of (drop 2 s))))
    ∷ []

-- ---- ECMAScript

-- `\u{`, n hex digits and `}`. (The language has no limit of leading zeros; six digits are read here.)
abbrev pub braced : ℕ → Entry
braced n = (exactly (ascii "\\u{") ++ times n hex_digits ++ ascii "}" ∷ [], means (n + 4) (λ (s : List ℕ). utf8 (hex_of (take n (drop 3 s)))))

-- The single escape characters that stand for another one.
abbrev pub letter_escapes : List Row
letter_escapes =
    (8 ∷ [], ascii "\\b") ∷ (9 ∷ [], ascii "\\t") ∷ (10 ∷ [], ascii "\\n") ∷ (11 ∷ [], ascii "\\v") ∷ (12 ∷ [], ascii "\\f") ∷ (13 ∷ [], ascii "\\r") ∷ []

-- U+2028 and U+2029.
abbrev pub separators : List (List ℕ)
separators = utf8 0x2028 ∷ utf8 0x2029 ∷ []

-- What a `\` begins in strings and templates: line continuations, hex and Unicode escapes.
abbrev pub numbered_escapes : List Entry
numbered_escapes =
    map (λ (end : List ℕ). stand_for (92 ∷ end) []) ((13 ∷ 10 ∷ []) ∷ (10 ∷ []) ∷ (13 ∷ []) ∷ separators)
    ++ (exactly (ascii "\\x") ++ times 2 hex_digits, means 4 (λ (s : List ℕ). utf8 (hex_of (drop 2 s))))
    ∷ unicode
    ++ map braced (1 ∷ 2 ∷ 3 ∷ 4 ∷ 5 ∷ 6 ∷ [])
    ++ (ascii "\\" ∷ ascii "xu" ∷ [], leaves)
    ∷ []

-- Octal escapes, in strings only (B.1.2).
abbrev pub octal_escapes : List Entry
octal_escapes =
    (ascii "\\" ∷ ascii "0123" ∷ times 2 octal_digits, means 4 octal_char)
    ∷ (ascii "\\" ∷ times 2 octal_digits, means 3 octal_char)
    ∷ (ascii "\\" ∷ times 1 octal_digits, means 2 octal_char)
    ∷ []

-- A template has `\0` for NUL, where no digit follows, and no other escape with a digit.
abbrev pub zero_escape : List Entry
zero_escape =
    (exactly (ascii "\\0") ++ bytes 48 57 ∷ [], leaves)
    ∷ stand_for (ascii "\\0") (0 ∷ [])
    ∷ (ascii "\\" ∷ bytes 49 57 ∷ [], leaves)
    ∷ []

-- Single letters; any other character is itself; a `\` at the very end is none.
abbrev pub character_escapes : List Entry
character_escapes = map short letter_escapes ++ (ascii "\\" ∷ any_byte ∷ [], means 2 (drop 1)) ∷ left_at (ascii "\\") ∷ []

-- The escapes of a string.
abbrev pub script_escapes : List Entry
script_escapes = numbered_escapes ++ octal_escapes ++ character_escapes

-- A string literal in quotes q: it is left at the quote and at a line end.
abbrev pub script_string : ℕ → Place
script_string q = record { references = none; entries = left_at (q ∷ 10 ∷ 13 ∷ []) ∷ script_escapes; never = [] }

-- The same before ECMAScript 2019: U+2028 and U+2029 are line ends too.
abbrev pub script_string_old : ℕ → Place
script_string_old q = record {
  references = none;
  entries = map (λ (end : List ℕ). (exactly end, leaves)) separators ++ left_at (q ∷ 10 ∷ 13 ∷ []) ∷ script_escapes;
  never = [];
}

-- A template: it is left at the backtick and at `${`.
abbrev pub template : Place
template = record {
  references = none;
  entries = left_at (ascii "`") ∷ (exactly (ascii "${"), leaves) ∷ line_ends ++ numbered_escapes ++ zero_escape ++ character_escapes;
  never = [];
}

-- ---- CSS

-- The character of an escape: 0, surrogates and anything above 10FFFF are U+FFFD.
abbrev pub style_char : List ℕ → List ℕ
style_char s = let n = hex_of s in cond (scalar n && not (eqb n 0)) (utf8 n) substitute

-- `\` and n hex digits, with one white space behind them, if any stands there; CR LF is one.
abbrev pub style_hexes : ℕ → List Entry
style_hexes n =
    (ascii "\\" ∷ times n hex_digits ++ exactly (13 ∷ 10 ∷ []), means (n + 3) (λ (s : List ℕ). style_char (take n (drop 1 s))))
    ∷ (ascii "\\" ∷ times n hex_digits ++ (9 ∷ 10 ∷ 12 ∷ 13 ∷ 32 ∷ []) ∷ [], means (n + 2) (λ (s : List ℕ). style_char (take n (drop 1 s))))
    ∷ (ascii "\\" ∷ times n hex_digits, means (n + 1) (λ (s : List ℕ). style_char (take n (drop 1 s))))
    ∷ []

-- A string token in quotes q: it is left at the quote and at a newline (LF, CR, FF); `\` and a newline is nothing, and so is a `\` at the end; the most hex
-- digits count.
abbrev pub style_string : ℕ → Place
style_string q = record {
  references = none;
  entries =
      left_at (q ∷ 10 ∷ 12 ∷ 13 ∷ [])
      ∷ nul_replaced
      ∷ stand_for (92 ∷ 13 ∷ 10 ∷ []) []
      ∷ (ascii "\\" ∷ (10 ∷ 12 ∷ 13 ∷ []) ∷ [], means 2 (λ (s : List ℕ). []))
      ∷ stand_for (92 ∷ 0 ∷ []) substitute
      ∷ join (map style_hexes (6 ∷ 5 ∷ 4 ∷ 3 ∷ 2 ∷ 1 ∷ []))
      ++ (ascii "\\" ∷ any_byte ∷ [], means 2 (drop 1))
      ∷ stand_for (ascii "\\") []
      ∷ [];
  never = [];
}

-- ---- JSON

-- A string: it is left at the quotation mark and at what the RFC does not allow.
abbrev pub json_string : Place
json_string = record { references = none; entries = left_at (34 ∷ bytes 0 31) ∷ map short short_escapes ++ unicode ++ left_at (ascii "\\") ∷ []; never = [] }

-- Plain bytes: no operation replaces them.
-- Assumes nothing.
use Rattle.std.specs.Prelude.{Bool, true, false, not, ◌&&◌, ◌≡◌, List, ℕ, ◌<◌, min, length, get_or}
use Rattle.std.specs.Int.Bits.{bit_or, bit_xor}
use Rattle.rules.specs.Bytes.{ascii, inside, one_of}
use Rattle.rules.specs.Tables.{letter_or_digit}
use Rattle.rules.specs.declared.Html.{Html}
use Rattle.rules.specs.declared.Html.TheVariants.{TextMinimal, Text, DoubleQuoted, SingleQuoted, Quoted, Safe, Unquoted}
use Rattle.rules.specs.declared.Context.{Context}
use Rattle.rules.specs.declared.Context.TheVariants.{InHtml, InScript, InStyle, InJson, InAscii}
use Rattle.rules.specs.declared.AnyContext.{AnyContext}
use Rattle.rules.specs.declared.AnyContext.TheVariants.{Units, ScriptRaw, Unknown}

-- The context replaces every ASCII byte that is no letter or digit.
abbrev pub unquoted : Html → Bool
unquoted TextMinimal = false
unquoted Text = false
unquoted DoubleQuoted = false
unquoted SingleQuoted = false
unquoted Quoted = false
unquoted Safe = false
unquoted Unquoted = true

-- The same of a context that has units.
abbrev pub unquoted_in : Context → Bool
unquoted_in (InHtml h) = unquoted h
unquoted_in (InScript q) = false
unquoted_in (InStyle q) = false
unquoted_in InJson = false
unquoted_in InAscii = false

-- The same of any.
abbrev pub unquoted_at : AnyContext → Bool
unquoted_at (Units c) = unquoted_in c
unquoted_at ScriptRaw = false
unquoted_at Unknown = false

-- A plain byte: in an unquoted attribute a letter or a digit, else ASCII from the space on but for seven bytes.
unfoldable pub plain : Bool → ℕ → Bool
plain true b = letter_or_digit b
plain false b = inside (32, 127) b && not (one_of (ascii "\"&'/<>\\") b)

-- The byte at place k of a text is not plain.
abbrev pub special_at : Bool → List ℕ → ℕ → Bool
special_at unquoted t k = not (plain unquoted (get_or t k 0))

-- The lesser of two numbers.
abbrev pub lesser : ℕ → ℕ → ℕ
lesser a b = min a b

-- The least xor of a byte with `"`, `&`, `'`, `/`, `<`, `>` and `\`, their highest bit set, and the like of a control: above 128 only for a plain byte.
abbrev pub far_of : ℕ → ℕ
far_of b =
    lesser
    (lesser (lesser (bit_xor b 0xA2) (bit_xor b 0xA6)) (lesser (bit_xor b 0xA7) (bit_xor b 0xAF)))
    (lesser (lesser (bit_xor b 0xBC) (bit_xor b 0xBE)) (lesser (bit_xor b 0xDC) (bit_xor (bit_or b 31) 0x9F)))

-- The text is ASCII, and the byte is not in it.
abbrev pub Without : ℕ → List ℕ → Type 0
Without byte t = (k : ℕ) → k < length t → (get_or t k 0 < 128) × (get_or t k 0 ≡ byte → ⊥)

-- The character at the head of a text, as the code reads it, and what is written for it.
-- Assumes nothing.
use Rattle.std.specs.Prelude.{cond, ◌≡◌, List, [], ℕ, ◌≤◌, T, eqb, length}
use Rattle.rules.specs.Bytes.{ascii}
use Rattle.rules.specs.Utf8.{utf8, char_at}
use Rattle.rules.specs.Tables.{hex_digit, numeral}
use Rattle.rules.specs.Moves.{through, replaced}
use Rattle.rules.specs.Encoding.{encode_step}
use Rattle.rules.specs.Operations.{encode_of}
use Rattle.rules.specs.Ascii.{is_high}
use Rattle.rules.specs.declared.Context.TheVariants.{InAscii}
use Rattle.names_written.specs.Ties.{Puts}
use Rattle.encode_ascii.specs.declared.characters.Put.{Put}
use Rattle.encode_ascii.specs.declared.characters.Character.{Character}

-- A character above 7F stands at the head of s: its number, how many bytes it has, and that the number makes them.
abbrev pub Reads : List ℕ → Character → Type 0
Reads s c = (utf8 c.code ≡ char_at s) × (c.width ≡ length (char_at s)) × T (is_high (char_at s)) × (0x80 ≤ c.code) × (c.code ≤ 0x10FFFF) × (c.width ≤ length s)

-- The last k hex digits of a number without leading zeros; of 0 none.
abbrev pub digits : ℕ → ℕ → List ℕ
digits k n = cond (eqb n 0) [] (numeral hex_digit 16 k n)

-- What is written for the ASCII characters that `quoted` replaces; nothing for any other.
abbrev pub quoted_unit : ℕ → List ℕ
quoted_unit b =
    cond (eqb b 38) (ascii "&amp;")
    (cond (eqb b 60) (ascii "&lt;")
    (cond (eqb b 62) (ascii "&gt;")
    (cond (eqb b 34) (ascii "&quot;")
    (cond (eqb b 39) (ascii "&#x27;") []))))

-- What is written for the character at the head of s, in a room: how many bytes, how many the character has, and how many places are replaced.
abbrev pub PutsNext : List ℕ → Put → List ℕ → List ℕ → Type 0
PutsNext s r before after =
    Puts (encode_of InAscii (char_at s)) r.written before after
    × (r.written ≤ 22)
    × (r.width ≡ length (char_at s))
    × (r.replaced ≡ replaced (through (encode_step InAscii) (char_at s)))
    × (1 ≤ r.width)
    × (r.width ≤ length s)
    × (r.replaced ≤ 1)

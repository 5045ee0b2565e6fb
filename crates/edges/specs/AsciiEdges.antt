-- RULES 27 at its edges: which body is written for a character, and texts with what each operation makes of them in ascii_quoted.
-- Assumes nothing.
use Rattle.std.specs.Prelude.{Bool, ◌&&◌, List, [], ◌∷◌, ◌++◌, ℕ}
use Prim.Native.String.{String}
use Rattle.rules.specs.Bytes.{ascii, same_bytes}
use Rattle.rules.specs.Utf8.{utf8}
use Rattle.rules.specs.Ascii.{is_high, body_for}
use Rattle.rules.specs.Examples.{Example, example, stays, refused, refused_in}
use Rattle.rules.specs.declared.Context.TheVariants.{InAscii}
use Rattle.rules.specs.declared.AnyContext.TheVariants.{Units}
use Rattle.rules.specs.declared.Operation.TheVariants.{Encode, Decode, Read, Browse}

-- The character is above 7F, and its body is this.
abbrev pub spelled_as : ℕ × String → Bool
spelled_as (n, body) = is_high (utf8 n) && same_bytes (body_for (utf8 n)) (ascii body)

-- The sixteen characters whose shortest names are several; names that browsers' users expect otherwise; the first and the last character of each range of
-- the table; four of the thirteen that are more than six times as long.
abbrev pub named : List (ℕ × String)
named =
    (0x00A8, "Dot")
    ∷ (0x00A9, "COPY")
    ∷ (0x00AE, "REG")
    ∷ (0x00C5, "Aring")
    ∷ (0x02C7, "Hacek")
    ∷ (0x02D8, "Breve")
    ∷ (0x03C2, "sigmaf")
    ∷ (0x2122, "TRADE")
    ∷ (0x21B0, "Lsh")
    ∷ (0x21B1, "Rsh")
    ∷ (0x2200, "ForAll")
    ∷ (0x2211, "Sum")
    ∷ (0x2250, "doteq")
    ∷ (0x2254, "Assign")
    ∷ (0x226A, "Lt")
    ∷ (0x226B, "Gt")
    ∷ (0x00A0, "nbsp")
    ∷ (0x00BD, "half")
    ∷ (0x2026, "mldr")
    ∷ (0x00D7, "times")
    ∷ (0x00E9, "eacute")
    ∷ (0x0311, "DownBreve")
    ∷ (0x20AC, "euro")
    ∷ (0x017E, "zcaron")
    ∷ (0x0192, "fnof")
    ∷ (0x045F, "dzcy")
    ∷ (0x2002, "ensp")
    ∷ (0x21FF, "hoarr")
    ∷ (0x22FE, "notnivb")
    ∷ (0x2305, "barwed")
    ∷ (0x27FF, "dzigrarr")
    ∷ (0x2902, "nvlArr")
    ∷ (0x29F6, "dsol")
    ∷ (0x2A00, "xodot")
    ∷ (0xFB04, "ffllig")
    ∷ (0x1D49C, "Ascr")
    ∷ (0x1D56B, "zopf")
    ∷ (0x25AB, "EmptyVerySmallSquare")
    ∷ (0x2950, "DownLeftRightVector")
    ∷ (0x2955, "RightDownVectorBar")
    ∷ (0x2758, "VerticalSeparator")
    ∷ []

-- Characters that have no name: the ends of each width and each range, and neighbours of those that have one.
abbrev pub numbered : List (ℕ × String)
numbered =
    (0x0080, "#x80")
    ∷ (0x0081, "#x81")
    ∷ (0x0085, "#x85")
    ∷ (0x009F, "#x9F")
    ∷ (0x017F, "#x17F")
    ∷ (0x0191, "#x191")
    ∷ (0x0460, "#x460")
    ∷ (0x07FF, "#x7FF")
    ∷ (0x0800, "#x800")
    ∷ (0x2001, "#x2001")
    ∷ (0x2027, "#x2027")
    ∷ (0x2028, "#x2028")
    ∷ (0x2029, "#x2029")
    ∷ (0x202A, "#x202A")
    ∷ (0x20000, "#x20000")
    ∷ (0xD7FF, "#xD7FF")
    ∷ (0xE000, "#xE000")
    ∷ (0xFB05, "#xFB05")
    ∷ (0xFFFD, "#xFFFD")
    ∷ (0xFFFF, "#xFFFF")
    ∷ (0x10000, "#x10000")
    ∷ (0x1D49B, "#x1D49B")
    ∷ (0x1D49D, "#x1D49D")
    ∷ (0x1D56C, "#x1D56C")
    ∷ (0x1F600, "#x1F600")
    ∷ (0xFFFFF, "#xFFFFF")
    ∷ (0x100000, "#x100000")
    ∷ (0x10FFFF, "#x10FFFF")
    ∷ []

-- Bytes that are no character above 7F.
abbrev pub lows : List (List ℕ)
lows = [] ∷ (0x00 ∷ []) ∷ (0x7F ∷ []) ∷ (0x80 ∷ []) ∷ (0xC3 ∷ []) ∷ (0xC3 ∷ 0xA9 ∷ 0x61 ∷ []) ∷ (0xC0 ∷ 0x80 ∷ []) ∷ (0xED ∷ 0xA0 ∷ 0x80 ∷ []) ∷ []

-- What each operation makes of a text.
abbrev pub ascii_texts : List Example
ascii_texts =
    example Encode (Units InAscii) (utf8 0xE9 ++ ascii "'<" ++ utf8 0x20AC ++ ascii "x" ++ utf8 0x1F600) (ascii "&eacute;&#x27;&lt;&euro;x&#x1F600;") 5
    ∷ stays Encode (Units InAscii) (0x00 ∷ 0x1F ∷ 0x7F ∷ ascii "/a")
    ∷ refused_in 21 Encode (Units InAscii) (utf8 0x25AB) 3 22 0
    ∷ example Read (Units InAscii) (ascii "&eacute;&#x27;&lt;&euro;x&#x1F600;") (utf8 0xE9 ++ ascii "'<" ++ utf8 0x20AC ++ ascii "x" ++ utf8 0x1F600) 5
    ∷ example Read (Units InAscii) (ascii "&COPY;&mldr;&half;&nbsp;&#x80;") (utf8 0xA9 ++ utf8 0x2026 ++ utf8 0xBD ++ utf8 0xA0 ++ utf8 0x80) 5
    ∷ refused Read (Units InAscii) (utf8 0xE9) 4 0
    ∷ refused Read (Units InAscii) (ascii "a" ++ utf8 0x20AC) 4 1
    ∷ refused Read (Units InAscii) (ascii "a&copy;") 4 1
    ∷ refused Read (Units InAscii) (ascii "&NonBreakingSpace;") 4 0
    ∷ refused Read (Units InAscii) (ascii "&hellip;") 4 0
    ∷ refused Read (Units InAscii) (ascii "&#xE9;") 4 0
    ∷ refused Read (Units InAscii) (ascii "&#x1f600;") 4 0
    ∷ refused Read (Units InAscii) (ascii "&#x01F600;") 4 0
    ∷ refused Read (Units InAscii) (ascii "&#X1F600;") 4 0
    ∷ refused Read (Units InAscii) (ascii "&#128512;") 4 0
    ∷ refused Read (Units InAscii) (ascii "&#x1F600") 4 0
    ∷ refused Read (Units InAscii) (ascii "&#x41;") 4 0
    ∷ refused Read (Units InAscii) (ascii "&#x7F;") 4 0
    ∷ refused Read (Units InAscii) (ascii "&#xD800;") 4 0
    ∷ refused Read (Units InAscii) (ascii "&#x110000;") 4 0
    ∷ refused Read (Units InAscii) (ascii "&nGt;") 4 0
    ∷ refused Read (Units InAscii) (ascii "&fjlig;") 4 0
    ∷ refused Read (Units InAscii) (ascii "&#x22;") 4 0
    ∷ refused Read (Units InAscii) (ascii "a'") 4 1
    ∷ example Decode (Units InAscii) (ascii "&copy;&COPY;&#xa9;") (utf8 0xA9 ++ utf8 0xA9 ++ utf8 0xA9) 3
    ∷ example Decode (Units InAscii) (ascii "&#x80;") (utf8 0x80) 1
    ∷ example Browse (Units InAscii) (ascii "&#x80;&#x81;&eacute;") (utf8 0x20AC ++ utf8 0x81 ++ utf8 0xE9) 3
    ∷ []

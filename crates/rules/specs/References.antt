-- RULES 10. References: the rule of decode in the HTML contexts, and the characters of numbers in decode and browse.
-- Assumes nothing.
use Rattle.std.specs.Prelude.{Bool, not, ◌&&◌, ◌||◌, cond, List, [], ◌∷◌, ◌++◌, map, ℕ, ◌+◌, ◌-◌, ◌*◌, leb, eqb, drop}
use Rattle.std.proofs.Math.Option.{Option, none, some}
use Rattle.rules.specs.Bytes.{ascii, is, first, stands, inside, between, one_of, same_bytes}
use Rattle.rules.specs.Moves.{Move, keep, swap, leave, stop, Rule}
use Rattle.rules.specs.Utf8.{utf8, substitute}
use Rattle.rules.specs.Tables.{Row, key, value}
use Rattle.rules.specs.Names.{names}
use Rattle.rules.specs.declared.Reason.{Reason}
use Rattle.rules.specs.declared.Reason.TheVariants.{NoEnd, Empty, UnknownName, NoDigit, NotAllowed}

-- ---- the body

-- One byte more before a body, if there is one.
abbrev pub onto : ℕ → Option (List ℕ) → Option (List ℕ)
onto b none = none
onto b (some body) = some (b ∷ body)

-- The body: the bytes from after the `&` up to the next `;`, if no `&` comes first.
abbrev pub body_of : List ℕ → Option (List ℕ)
body_of [] = none
body_of (b ∷ s) = cond (is ";" b) (some []) (cond (is "&" b) none (onto b (body_of s)))

-- ---- numbers

-- The value of a digit.
abbrev pub digit : ℕ → Option ℕ
digit b = cond (between "0" "9" b) (some (b - 48)) none

-- The value of a hex digit of either letter case.
abbrev pub hex_digit_at : ℕ → Option ℕ
hex_digit_at b = cond (between "A" "F" b) (some (b - 55)) (cond (between "a" "f" b) (some (b - 87)) (digit b))

-- Digits only: the number so far, and the digits that follow. Leading zeros are free.
abbrev pub digits : (ℕ → Option ℕ) → ℕ → ℕ → List ℕ → Option ℕ
digits d base n [] = some n
digits d base n (b ∷ s) = elim (d b) [ none ↦ none | some k ↦ digits d base (n * base + k) s ]

-- Digits only, at least one.
abbrev pub number : (ℕ → Option ℕ) → ℕ → List ℕ → Option ℕ
number d base [] = none
number d base (b ∷ s) = digits d base 0 (b ∷ s)

-- The number of a body: `#` and digits, or `#x` or `#X` and hex digits.
abbrev pub number_of : List ℕ → Option ℕ
number_of s =
    cond (stands (ascii "#x") s || stands (ascii "#X") s) (number hex_digit_at 16 (drop 2 s))
    (cond (stands (ascii "#") s) (number digit 10 (drop 1 s)) none)

-- No surrogate and at most 10FFFF, so that it fits 32 bits.
abbrev pub scalar : ℕ → Bool
scalar n = leb n 0x10FFFF && not (inside (0xD800, 0xDFFF) n)

-- decode: such a number that is not 0 to 31, except 9, 10, 12, 13, which decode.
abbrev pub decode_char : ℕ → Option (List ℕ)
decode_char n = cond (scalar n && (leb 32 n || one_of (9 ∷ 10 ∷ 12 ∷ 13 ∷ []) n)) (some (utf8 n)) none

-- HTML Standard, "numeric character reference end state": 27 numbers between 80 and 9F, each with the number whose character it stands for.
unfoldable pub renumbering : List (ℕ × ℕ)
renumbering =
    (0x80, 0x20AC)
    ∷ (0x82, 0x201A)
    ∷ (0x83, 0x0192)
    ∷ (0x84, 0x201E)
    ∷ (0x85, 0x2026)
    ∷ (0x86, 0x2020)
    ∷ (0x87, 0x2021)
    ∷ (0x88, 0x02C6)
    ∷ (0x89, 0x2030)
    ∷ (0x8A, 0x0160)
    ∷ (0x8B, 0x2039)
    ∷ (0x8C, 0x0152)
    ∷ (0x8E, 0x017D)
    ∷ (0x91, 0x2018)
    ∷ (0x92, 0x2019)
    ∷ (0x93, 0x201C)
    ∷ (0x94, 0x201D)
    ∷ (0x95, 0x2022)
    ∷ (0x96, 0x2013)
    ∷ (0x97, 0x2014)
    ∷ (0x98, 0x02DC)
    ∷ (0x99, 0x2122)
    ∷ (0x9A, 0x0161)
    ∷ (0x9B, 0x203A)
    ∷ (0x9C, 0x0153)
    ∷ (0x9E, 0x017E)
    ∷ (0x9F, 0x0178)
    ∷ []

-- Those 27 numbers.
abbrev pub renumbered : List ℕ
renumbered = map (λ (pair : ℕ × ℕ). pair.0) renumbering

-- The number beside n in a table of pairs, or n itself where it is in none.
abbrev pub stands_for : List (ℕ × ℕ) → ℕ → ℕ
stands_for [] n = n
stands_for (pair ∷ pairs) n = cond (eqb n pair.0) pair.1 (stands_for pairs n)

-- browse: 0, surrogates and anything above 10FFFF give U+FFFD; the 27 numbers stand for others; every other number stands for itself.
abbrev pub browse_char : ℕ → Option (List ℕ)
browse_char n = some (cond (scalar n && not (eqb n 0)) (utf8 (stands_for renumbering n)) substitute)

-- ---- what a body stands for

-- The value of a row, if there is one.
abbrev pub value_of : Option Row → Option (List ℕ)
value_of none = none
value_of (some row) = some (value row)

-- A name looked up whole; letter case counts.
abbrev pub lookup : List Row → List ℕ → Option (List ℕ)
lookup table body = value_of (first (λ (row : Row). same_bytes (key row)) table body)

-- A body that is a number stands for its character; any other body is looked up whole.
abbrev pub meaning : (ℕ → Option (List ℕ)) → List ℕ → Option (List ℕ)
meaning char body = elim (number_of body) [ some n ↦ char n | none ↦ lookup names body ]

-- ---- why a reference stays

-- Digits that stand for nothing: there is none; or one of the bytes is no digit of the base; or the number is not allowed.
abbrev pub why_digits : (ℕ → Option ℕ) → ℕ → List ℕ → Reason
why_digits d base [] = Empty
why_digits d base (b ∷ s) = elim (digits d base 0 (b ∷ s)) [ none ↦ NoDigit | some n ↦ NotAllowed ]

-- A body that stands for nothing: it is empty, a number, or a name that is not in the table.
abbrev pub why : List ℕ → Reason
why [] = Empty
why (b ∷ s) =
    cond (stands (ascii "#x") (b ∷ s) || stands (ascii "#X") (b ∷ s)) (why_digits hex_digit_at 16 (drop 1 s))
    (cond (stands (ascii "#") (b ∷ s)) (why_digits digit 10 s) UnknownName)

-- ---- the rules

-- The reference gives way to what its body stands for; where that is nothing, it stays for a reason, and its `&` is kept.
abbrev pub refer : List ℕ → Option (List ℕ) → Move
refer body none = leave (why body) (ascii "&")
refer body (some v) = swap (ascii "&" ++ body ++ ascii ";") v

-- At an `&`: the reference is read where there is a body; otherwise no `;` comes before the next `&` or the end, and it stays.
abbrev pub at_amp : (ℕ → Option (List ℕ)) → Option (List ℕ) → Move
at_amp char none = leave NoEnd (ascii "&")
at_amp char (some body) = refer body (meaning char body)

-- The rule: an `&` begins a reference; any other byte is kept.
abbrev pub reference_by : (ℕ → Option (List ℕ)) → Rule
reference_by char prev [] = stop 4
reference_by char prev (b ∷ s) = cond (is "&" b) (at_amp char (body_of s)) (keep (b ∷ []))

-- decode in the HTML contexts.
unfoldable pub reference_step : Rule
reference_step = reference_by decode_char

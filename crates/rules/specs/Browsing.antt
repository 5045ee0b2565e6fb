-- RULES 25. browse: what the HTML Standard's character reference states take for a reference, in text and in the value of an attribute.
-- The Standard looks for a name at a letter or digit only; every identifier begins with a letter, so that none matches elsewhere.
-- Of a reference that it does not take it flushes what it has consumed. No `&` is among that but the first, so the `&` is kept here and the text goes on.
-- Assumes nothing.
use Rattle.std.specs.Prelude.{Bool, false, not, ◌&&◌, ◌||◌, cond, List, [], ◌∷◌, ◌++◌, map, ℕ, ◌≤◌, T, leb, length, take, drop}
use Rattle.std.proofs.Math.Option.{Option, none, some}
use Rattle.rules.specs.Bytes.{ascii, is, In, best, stands}
use Rattle.rules.specs.Moves.{Move, keep, swap, stop, Rule}
use Rattle.rules.specs.Tables.{Row, key, value, letter_or_digit}
use Rattle.rules.specs.Names.{names}
use Rattle.rules.specs.References.{digit, hex_digit_at, number, browse_char, lookup}
use Rattle.rules.specs.Bare.{bare}
use Rattle.rules.specs.declared.Html.{Html}
use Rattle.rules.specs.declared.Html.TheVariants.{TextMinimal, Text, DoubleQuoted, SingleQuoted, Quoted, Safe, Unquoted}
use Rattle.rules.specs.declared.Kind.{Kind}
use Rattle.rules.specs.declared.Kind.TheVariants.{InText, InAttribute}

-- ---- text and attributes

-- The contexts that count as text; the others are those of an attribute's value.
abbrev pub kind_of : Html → Kind
kind_of TextMinimal = InText
kind_of Text = InText
kind_of DoubleQuoted = InAttribute
kind_of SingleQuoted = InAttribute
kind_of Quoted = InAttribute
kind_of Safe = InText
kind_of Unquoted = InAttribute

-- ---- the longest identifier

-- A name with its `;`.
abbrev pub with_end : Row → Row
with_end row = (key row ++ ascii ";", value row)

-- The bytes, if there are any.
abbrev pub given : Option (List ℕ) → List ℕ
given none = []
given (some v) = v

-- A name without it, which stands for the same.
abbrev pub without_end : List ℕ → Row
without_end name = (name, given (lookup names name))

-- The identifiers of the Standard's table and what they stand for: each name with its `;`, and 106 of them without.
unfoldable pub identifiers : List Row
identifiers = map with_end names ++ map without_end bare

-- As long as the other, or longer.
abbrev pub as_long : Row → Row → Bool
as_long x y = leb (length (key y)) (length (key x))

-- In words: an identifier that stands at the head of s, and no longer one does.
abbrev pub Longest : List ℕ → Row → Type 0
Longest s row =
    In row identifiers × T (stands (key row) s)
    × ((other : Row) → In other identifiers → T (stands (key other) s) → length (key other) ≤ length (key row))

-- "Consume the maximum number of characters possible, where the consumed characters are one of the identifiers."
abbrev pub matched : List ℕ → Option Row
matched s = best as_long (λ (row : Row). stands (key row) s) identifiers

-- ---- the rule for attributes

-- The last byte is a `;`.
abbrev pub ended : List ℕ → Bool
ended [] = false
ended (b ∷ []) = is ";" b
ended (b ∷ c ∷ s) = ended (c ∷ s)

-- "The next input character is either a `=` or an ASCII alphanumeric."
abbrev pub goes_on : List ℕ → Bool
goes_on [] = false
goes_on (b ∷ s) = is "=" b || letter_or_digit b

-- A match stays "if the character reference was consumed as part of an attribute, the last character matched is not a `;`", and the text goes on so.
abbrev pub blocked : Kind → List ℕ → List ℕ → Bool
blocked InText name after = false
blocked InAttribute name after = not (ended name) && goes_on after

-- The match, unless it stays.
abbrev pub unblocked : Kind → List ℕ → Option Row → Option Row
unblocked kind s none = none
unblocked kind s (some row) = cond (blocked kind (key row) (drop (length (key row)) s)) none (some row)

-- ---- numbers

-- The digits at the head of s.
abbrev pub digits_at : (ℕ → Option ℕ) → List ℕ → List ℕ
digits_at d [] = []
digits_at d (b ∷ s) = elim (d b) [ none ↦ [] | some k ↦ b ∷ digits_at d s ]

-- The `;` at the head, if one stands there.
abbrev pub end_at : List ℕ → List ℕ
end_at s = cond (stands (ascii ";") s) (ascii ";") []

-- The bytes a and what they stand for, if that is anything.
abbrev pub beside : List ℕ → Option (List ℕ) → Option Row
beside a none = none
beside a (some v) = some (a, v)

-- The character of a number, if there is a number.
abbrev pub browsed_as : Option ℕ → Option (List ℕ)
browsed_as none = none
browsed_as (some n) = browse_char n

-- A number from after its mark on: the digits up to the first other byte, at least one, and a `;` if it follows.
abbrev pub number_at : (ℕ → Option ℕ) → ℕ → List ℕ → List ℕ → Option Row
number_at d base mark s =
    let ds = digits_at d s in
    beside (mark ++ ds ++ end_at (drop (length ds) s)) (browsed_as (number d base ds))

-- ---- the rule

-- The reference with s behind its `&`, and what it stands for: after `#x` or `#X` hex digits, after any other `#` digits, elsewhere a name.
abbrev pub reference_at : Kind → List ℕ → Option Row
reference_at kind s =
    cond (stands (ascii "#x") s || stands (ascii "#X") s) (number_at hex_digit_at 16 (take 2 s) (drop 2 s))
    (cond (stands (ascii "#") s) (number_at digit 10 (take 1 s) (drop 1 s)) (unblocked kind s (matched s)))

-- The reference gives way to what it stands for; where there is none the `&` is kept.
abbrev pub at_amp : Option Row → Move
at_amp none = keep (ascii "&")
at_amp (some row) = swap (ascii "&" ++ key row) (value row)

-- browse: an `&` begins a reference; any other byte is kept.
unfoldable pub browse_step : Kind → Rule
browse_step kind prev [] = stop 4
browse_step kind prev (b ∷ s) = cond (is "&" b) (at_amp (reference_at kind s)) (keep (b ∷ []))

-- RULES 22. JSON strings: what RFC 8259, section 7, allows between the quotation marks of a string, and the rule of decode.
-- Assumes nothing.
use Rattle.std.specs.Prelude.{cond, ◌⊎◌, ◌≡◌, List, [], ◌∷◌, ◌++◌, ℕ, ◌+◌, ◌-◌, ◌*◌, T, eqb, length, take, drop}
use Rattle.std.proofs.Math.Option.{Option, none, some}
use Rattle.rules.specs.Bytes.{ascii, bytes, In, All, stands, Range, inside, one_of}
use Rattle.rules.specs.Moves.{Move, keep, swap, leave, stop, Rule, taken, place, through}
use Rattle.rules.specs.Utf8.{utf8}
use Rattle.rules.specs.Tables.{Row, row_at, value}
use Rattle.rules.specs.Reading.{undo, unless}
use Rattle.rules.specs.References.{hex_digit_at, number}

-- ---- the RFC's words; no decoder is run here

-- What may not stand by itself: the quotation mark, the backslash, and the control characters U+0000 to U+001F.
abbrev pub escaped_only : List ℕ
escaped_only = ascii "\"\\" ++ bytes 0 31

-- The two-character escapes, each behind the character that it stands for.
abbrev pub short_escapes : List Row
short_escapes =
    (ascii "\"", ascii "\\\"")
    ∷ (ascii "\\", ascii "\\\\")
    ∷ (ascii "/", ascii "\\/")
    ∷ (0x08 ∷ [], ascii "\\b")
    ∷ (0x0C ∷ [], ascii "\\f")
    ∷ (0x0A ∷ [], ascii "\\n")
    ∷ (0x0D ∷ [], ascii "\\r")
    ∷ (0x09 ∷ [], ascii "\\t")
    ∷ []

-- `\u` and four hex digits, in either letter case, that spell the number n.
abbrev pub Spells : ℕ → List ℕ → Type 0
Spells n v = (a : ℕ) × (b : ℕ) × (c : ℕ) × (d : ℕ) × (v ≡ ascii "\\u" ++ a ∷ b ∷ c ∷ d ∷ []) × (number hex_digit_at 16 (a ∷ b ∷ c ∷ d ∷ []) ≡ some n)

-- The first half of a surrogate pair, and the second.
abbrev pub highs : Range
highs = (0xD800, 0xDBFF)

abbrev pub lows : Range
lows = (0xDC00, 0xDFFF)

-- The number of the character that a pair stands for.
abbrev pub pair_of : ℕ → ℕ → ℕ
pair_of h l = 0x10000 + (h - 0xD800) * 0x400 + (l - 0xDC00)

-- The escape v of one number that is no half of a pair, and the bytes k of its character.
abbrev pub IsSingle : List ℕ → List ℕ → Type 0
IsSingle v k = (n : ℕ) × Spells n v × (T (inside highs n) → ⊥) × (T (inside lows n) → ⊥) × (k ≡ utf8 n)

-- The same of a pair: two escapes, one behind the other.
abbrev pub IsPair : List ℕ → List ℕ → Type 0
IsPair v k =
    (h : ℕ) × (l : ℕ) × (a : List ℕ) × (b : List ℕ) × Spells h a × Spells l b × T (inside highs h) × T (inside lows l) × (v ≡ a ++ b) × (k ≡ utf8 (pair_of h l))

-- An element of a string's content: a byte that may stand by itself, or an escape and its character. The text is valid UTF-8, so that the bytes of a
-- character above 7F each stand by themselves.
abbrev pub IsElement : Move → Type 0
IsElement (keep a) = (b : ℕ) × (a ≡ b ∷ []) × (T (one_of escaped_only b) → ⊥)
IsElement (swap v k) = In (k, v) short_escapes ⊎ (IsSingle v k ⊎ IsPair v k)
IsElement (leave r a) = ⊥
IsElement (stop w) = ⊥

-- The content of a string: such elements, one behind the other.
abbrev pub IsContent : List ℕ → Type 0
IsContent s = (us : List Move) × All IsElement us × (s ≡ taken us)

-- The second half of a pair stands at the head of s.
abbrev pub BeginsLow : List ℕ → Type 0
BeginsLow s = (l : ℕ) × (v : List ℕ) × (r : List ℕ) × Spells l v × T (inside lows l) × (s ≡ v ++ r)

-- Half a pair stands alone at the head of s: a second half, or a first one that no second one follows at once.
abbrev pub BeginsLone : List ℕ → Type 0
BeginsLone s = (n : ℕ) × (v : List ℕ) × (r : List ℕ) × Spells n v × (T (inside lows n) ⊎ (T (inside highs n) × (BeginsLow r → ⊥))) × (s ≡ v ++ r)

-- Behind some content half a pair stands alone, so that nothing that the RFC forbids comes before it.
abbrev pub IsLone : List ℕ → Type 0
IsLone s = (u : List ℕ) × (r : List ℕ) × IsContent u × BeginsLone r × (s ≡ u ++ r)

-- ---- the rule of decode

-- The number of four hex digits at the head of s, if they stand there.
abbrev pub four_at : List ℕ → Option ℕ
four_at s = cond (eqb (length (take 4 s)) 4) (number hex_digit_at 16 (take 4 s)) none

-- The number of `\u` and four hex digits at the head of s, if they stand there.
abbrev pub unicode_at : List ℕ → Option ℕ
unicode_at s = cond (stands (ascii "\\u") s) (four_at (drop 2 s)) none

-- At a first half h of a pair: the second one must follow.
abbrev pub at_high : ℕ → Option ℕ → List ℕ → Move
at_high h none s = stop 10
at_high h (some l) s = cond (inside lows l) (swap (take 12 s) (utf8 (pair_of h l))) (stop 10)

-- At an escape of the number n: a second half stands alone, a first one must have its second, and any other number stands for its character.
abbrev pub at_unicode : ℕ → List ℕ → Move
at_unicode n s = cond (inside lows n) (stop 10) (cond (inside highs n) (at_high n (unicode_at (drop 6 s)) s) (swap (take 6 s) (utf8 n)))

-- A byte that may stand by itself is kept.
abbrev pub keep_unescaped : List ℕ → Move
keep_unescaped [] = stop 4
keep_unescaped (b ∷ s) = unless (one_of escaped_only b) (keep (b ∷ []))

-- Where such an escape stands, by its number; elsewhere a byte is kept.
abbrev pub at_escape : Option ℕ → List ℕ → Move
at_escape (some n) s = at_unicode n s
at_escape none s = keep_unescaped s

-- decode: a two-character escape is undone; else by the number of the escape that stands here.
unfoldable pub json_step : Rule
json_step prev s = undo (row_at value short_escapes s) (at_escape (unicode_at s) s)

-- Where it stops.
abbrev pub content_to : List ℕ → ℕ
content_to s = place (through json_step s)

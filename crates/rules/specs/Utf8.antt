-- RULES 3. Valid UTF-8: a text is one character of RFC 3629 after the other.
-- Assumes nothing.
use Rattle.std.specs.Prelude.{Bool, cond, ◌≡◌, List, [], ◌∷◌, ◌++◌, ℕ, ◌+◌, ◌-◌, ◌*◌, ◌/◌, ◌%◌, ◌<◌, T, ltb, length, take}
use Rattle.std.proofs.Math.Option.{Option, none, some}
use Rattle.rules.specs.Bytes.{join, In, All, any, first, fits, opens, Range, inside}
use Rattle.rules.specs.Moves.{Move, keep, stop, Rule, place, through}

-- RFC 3629, section 4: UTF8-1, UTF8-2, and the lines of UTF8-3 and UTF8-4.
abbrev pub sequences : List (List Range)
sequences =
    ((0x00, 0x7F) ∷ [])
    ∷ ((0xC2, 0xDF) ∷ (0x80, 0xBF) ∷ [])
    ∷ ((0xE0, 0xE0) ∷ (0xA0, 0xBF) ∷ (0x80, 0xBF) ∷ [])
    ∷ ((0xE1, 0xEC) ∷ (0x80, 0xBF) ∷ (0x80, 0xBF) ∷ [])
    ∷ ((0xED, 0xED) ∷ (0x80, 0x9F) ∷ (0x80, 0xBF) ∷ [])
    ∷ ((0xEE, 0xEF) ∷ (0x80, 0xBF) ∷ (0x80, 0xBF) ∷ [])
    ∷ ((0xF0, 0xF0) ∷ (0x90, 0xBF) ∷ (0x80, 0xBF) ∷ (0x80, 0xBF) ∷ [])
    ∷ ((0xF1, 0xF3) ∷ (0x80, 0xBF) ∷ (0x80, 0xBF) ∷ (0x80, 0xBF) ∷ [])
    ∷ ((0xF4, 0xF4) ∷ (0x80, 0x8F) ∷ (0x80, 0xBF) ∷ (0x80, 0xBF) ∷ [])
    ∷ []

-- A character: as many bytes as one of the sequences has ranges, each byte in its range.
abbrev pub IsChar : List ℕ → Type 0
IsChar a = (q : List Range) × In q sequences × T (fits inside q a) × (length a ≡ length q)

-- A text: characters, one after the other.
abbrev pub IsText : List ℕ → Type 0
IsText s = (cs : List (List ℕ)) × All IsChar cs × (s ≡ join cs)

-- The start of a character that more bytes could still complete.
abbrev pub IsStart : List ℕ → Type 0
IsStart a = (r : List ℕ) × IsChar (a ++ r) × (0 < length a) × (0 < length r)

-- A text that was cut short: characters, and then only such a start.
abbrev pub IsCut : List ℕ → Type 0
IsCut s = (t : List ℕ) × (a : List ℕ) × IsText t × IsStart a × (s ≡ t ++ a)

-- A text that is free of some characters.
abbrev pub IsFree : List (List ℕ) → List ℕ → Type 0
IsFree bad s = (cs : List (List ℕ)) × All IsChar cs × All (λ (a : List ℕ). In a bad → ⊥) cs × (s ≡ join cs)

-- The sequence that stands at the head of s, if any.
abbrev pub sequence_at : List ℕ → Option (List Range)
sequence_at s = first (fits inside) sequences s

-- The character at the head of s; no bytes where none stands.
abbrev pub char_at : List ℕ → List ℕ
char_at s = elim (sequence_at s) [ none ↦ [] | some q ↦ take (length q) s ]

-- The character at the head of s is kept; where none stands, stop.
abbrev pub keep_char : Option (List Range) → List ℕ → Move
keep_char (some q) s = keep (take (length q) s)
keep_char none s = stop 4

-- The rule of valid UTF-8: one character after the other.
unfoldable pub char_step : Rule
char_step prev s = keep_char (sequence_at s) s

-- The length of the longest valid prefix.
abbrev pub valid_to : List ℕ → ℕ
valid_to s = place (through char_step s)

-- The bytes s open some sequence: the test of the bytes, at least one, that follow the longest valid prefix of a text.
unfoldable pub is_cut : List ℕ → Bool
is_cut s = any (λ (q : List Range). opens inside q s) sequences

-- A number up to 10FFFF as the bytes of its character: RFC 3629, section 3.
abbrev pub utf8 : ℕ → List ℕ
utf8 n =
    cond (ltb n 0x80) (n ∷ [])
    (cond (ltb n 0x800) ((0xC0 + n / 64) ∷ (0x80 + n % 64) ∷ [])
    (cond (ltb n 0x10000) ((0xE0 + n / 4096) ∷ (0x80 + n / 64 % 64) ∷ (0x80 + n % 64) ∷ [])
    ((0xF0 + n / 262144) ∷ (0x80 + n / 4096 % 64) ∷ (0x80 + n / 64 % 64) ∷ (0x80 + n % 64) ∷ [])))

-- The number of a character's bytes.
abbrev pub code_of : List ℕ → ℕ
code_of [] = 0
code_of (a ∷ []) = a
code_of (a ∷ b ∷ []) = (a - 0xC0) * 64 + (b - 0x80)
code_of (a ∷ b ∷ c ∷ []) = (a - 0xE0) * 4096 + (b - 0x80) * 64 + (c - 0x80)
code_of (a ∷ b ∷ c ∷ d ∷ r) = (a - 0xF0) * 262144 + (b - 0x80) * 4096 + (c - 0x80) * 64 + (d - 0x80)

-- U+FFFD, written where a character has no other form.
abbrev pub substitute : List ℕ
substitute = utf8 0xFFFD

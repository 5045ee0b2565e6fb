-- Units as numbers, and what is read off a unit by its second byte.
-- Assumes nothing.
use Rattle.std.specs.Prelude.{Bool, ◌||◌, cond, ◌≡◌, List, [], ◌∷◌, ℕ, zero, suc, ◌+◌, ◌*◌, ◌/◌, ◌%◌, ◌≤◌, ◌<◌, eqb, length, take, drop, get_or}
use Rattle.rules.specs.Moves.{swap, before}
use Rattle.rules.specs.declared.Html.{Html}
use Rattle.marks.specs.Marks.{end_by}
use Rattle.rules.specs.declared.Html.TheVariants.{TextMinimal, Text, DoubleQuoted, SingleQuoted, Quoted, Safe, Unquoted}
use Rattle.rules.specs.declared.Context.TheVariants.{InHtml}
use Rattle.reader.specs.Units.{byte_step}

-- The first n bytes of a text as a number, the first lowest; past the end they are 0.
abbrev pub lowest : ℕ → List ℕ → ℕ
lowest zero s = 0
lowest (suc n) [] = 0
lowest (suc n) (b ∷ s) = b + 256 * lowest n s

-- The numbers of a context's units of four bytes, but `&lt;`, and of six bytes; in the place of one that it has not, one that six bytes never have.
abbrev pub words_of : Html → List ℕ
words_of TextMinimal = 0x3B746C26 ∷ 0x1000000000000 ∷ 0x1000000000000 ∷ 0x1000000000000 ∷ []
words_of Text = 0x3B746726 ∷ 0x1000000000000 ∷ 0x1000000000000 ∷ 0x1000000000000 ∷ []
words_of DoubleQuoted = 0x3B746726 ∷ 0x3B746F757126 ∷ 0x1000000000000 ∷ 0x1000000000000 ∷ []
words_of SingleQuoted = 0x3B746726 ∷ 0x1000000000000 ∷ 0x3B3732782326 ∷ 0x1000000000000 ∷ []
words_of Quoted = 0x3B746726 ∷ 0x3B746F757126 ∷ 0x3B3732782326 ∷ 0x1000000000000 ∷ []
words_of Safe = 0x3B746726 ∷ 0x3B746F757126 ∷ 0x3B3732782326 ∷ 0x3B4632782326 ∷ []
words_of Unquoted = 0x3B746726 ∷ 0x3B746F757126 ∷ 0x1000000000000 ∷ 0x1000000000000 ∷ []

-- Six bytes begin with `&lt;`, with `&amp;`, or with one of these units.
abbrev pub is_word : List ℕ → ℕ → Bool
is_word words six =
    eqb (six % 0x100000000) 0x3B746C26 || eqb (six % 0x100000000) (get_or words 0 0) || eqb (six % 0x10000000000) 0x3B706D6126
    || eqb six (get_or words 1 0) || eqb six (get_or words 2 0) || eqb six (get_or words 3 0)

-- The length of a unit with this second byte: five for `a`, six for `q` and `#`, four for any other.
abbrev pub length_of : ℕ → ℕ
length_of b = 4 + (cond (eqb b 97) 1 0 + cond (eqb b 113) 2 0 + cond (eqb b 35) 2 0)

-- The number of two hex digits, below 128: the first is `0` to `7`, and a letter is 9 more than its last four bits.
abbrev pub value_of : ℕ → ℕ → ℕ
value_of d e = d % 8 * 16 + e % 16 + e / 64 * 9

-- The character of a unit with this second, fourth and fifth byte.
abbrev pub char_of : ℕ → ℕ → ℕ → ℕ
char_of b d e = cond (eqb b 35) (value_of d e) (cond (eqb b 108) 60 0 + cond (eqb b 103) 62 0 + cond (eqb b 97) 38 0 + cond (eqb b 113) 34 0)

-- Where the unit at place p of the text ends, and its character.
abbrev pub end_of : List ℕ → ℕ → ℕ
end_of = end_by length_of

abbrev pub char_at : List ℕ → ℕ → ℕ
char_at t p = char_of (get_or t (p + 1) 0) (get_or t (p + 3) 0) (get_or t (p + 4) 0)

-- At place p of the text is a unit of the context: it begins with `&`, is within the text, and ASCII, and read makes its character of it.
pub record UnitAt (h : Html) (t : List ℕ) (p : ℕ) : Type 0 where
  pub moves : byte_step (InHtml h) (before t p) (drop p t) ≡ swap (take (length_of (get_or t (p + 1) 0)) (drop p t)) (char_at t p ∷ [])
  pub mark : get_or t p 0 ≡ 38
  pub ends : end_of t p ≤ length t
  pub low : (k : ℕ) → p ≤ k → k < end_of t p → get_or t k 0 < 128

-- The length of what is taken where these two bytes stand, a unit or one byte, and what these four bytes give.
abbrev pub step_length : ℕ → ℕ → ℕ
step_length a b = cond (eqb a 38) (length_of b) 1

abbrev pub step_char : ℕ → ℕ → ℕ → ℕ → ℕ
step_char a b d e = cond (eqb a 38) (char_of b d e) a

-- The same at place p of the text.
abbrev pub step_at : List ℕ → ℕ → ℕ
step_at t p = step_char (get_or t p 0) (get_or t (p + 1) 0) (get_or t (p + 3) 0) (get_or t (p + 4) 0)

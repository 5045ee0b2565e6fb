-- The units of the contexts, and the strict reader byte by byte.
-- Assumes nothing.
use Rattle.std.specs.Prelude.{Bool, not, ◌&&◌, ◌||◌, ◌≡◌, List, ℕ, ltb}
use Rattle.std.proofs.Math.Option.{none}
use Rattle.rules.specs.Bytes.{ascii, any, stands, one_of}
use Rattle.rules.specs.Moves.{Rule}
use Rattle.rules.specs.Tables.{row_at, value, letter_or_digit, rows, replaced_chars}
use Rattle.rules.specs.Ascii.{by_rule}
use Rattle.rules.specs.Encoding.{keep_byte}
use Rattle.rules.specs.Reading.{undo, unless}
use Rattle.rules.specs.declared.Context.{Context}
use Rattle.rules.specs.declared.Context.TheVariants.{InHtml, InScript, InStyle, InJson, InAscii}

-- An ASCII byte that is no letter or digit, and has no name.
abbrev pub is_other : ℕ → Bool
is_other v = ltb v 128 && not (letter_or_digit v || one_of (ascii "&<>\"") v)

-- The byte that every unit of a context begins with.
abbrev pub mark_of : Context → ℕ
mark_of (InHtml h) = 0x26
mark_of (InScript q) = 0x5C
mark_of (InStyle q) = 0x5C
mark_of InJson = 0x5C
mark_of InAscii = 0x26

-- No rule stands beside the context's table.
abbrev pub Ruleless : Context → Type 0
Ruleless c = (a : List ℕ) → by_rule c a ≡ none

-- read in a context, where one byte is kept in the place of one character.
unfoldable pub byte_step : Context → Rule
byte_step c prev s = undo (row_at value (rows c) s) (unless (any (λ (k : List ℕ). stands k s) (replaced_chars c)) (keep_byte s))

-- What a reader of a table's rows, from the written side, finds at the head of a text.
-- Assumes nothing.
use Rattle.std.specs.Prelude.{Option, Some, None, ◌≡◌, List, ℕ, ◌≤◌, length, take}
use Rattle.rules.specs.Moves.{Move, swap}
use Rattle.rules.specs.Utf8.{utf8}
use Rattle.rules.specs.Tables.{Row, row_at, value}
use Rattle.rules.specs.Reading.{undo}
use Rattle.rules.specs.Answers.{escape_for}
use Rattle.rules.specs.declared.Escape.{Escape}

-- A byte after a backslash, if there is one that stands for itself, as an escape.
abbrev pub one_byte : Option ℕ → Option Escape
one_byte (Some b) = escape_for 2 b
one_byte None = None

-- The move of an answer at the head of s: what was found gives way to its character; where nothing was, the other move is made.
abbrev pub undone : List ℕ → Option Escape → Move → Move
undone s (Some e) other = swap (take e.taken s) (utf8 e.character)
undone s None other = other

-- It takes a byte at least, no more than there are, and no fewer than its character has, which is at most U+10FFFF.
abbrev pub Within : Option Escape → List ℕ → Type 0
Within (Some e) s = (1 ≤ e.taken) × (e.taken ≤ length s) × (length (utf8 e.character) ≤ e.taken) × (e.character ≤ 0x10FFFF)
Within None s = Unit {0}

-- The answer is the table's first row whose value stands at the head of s.
pub record Finds (table : List Row) (s : List ℕ) (r : Option Escape) : Type 0 where
  pub undoes : (other : Move) → undo (row_at value table s) other ≡ undone s r other
  pub within : Within r s

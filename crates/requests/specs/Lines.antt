-- Header lines: the first of a table's lines that follows a field at the head of a request.
-- Assumes nothing.
use Rattle.std.specs.Prelude.{cond, List, [], ◌∷◌, ◌++◌, ℕ, suc, ◌+◌, eqb, length as size, Option as Maybe, Some, None}
use Rattle.std.proofs.Math.Option.{Option, none, some}
use Rattle.rules.specs.Bytes.{stands}
use Rattle.rules.specs.Contexts.{Label}
use Rattle.requests.specs.declared.lines.Line.{Line}

-- The byte x before the first of some lines.
abbrev pub before : ℕ → List (List ℕ) → List (List ℕ)
before x [] = (x ∷ []) ∷ []
before x (l ∷ ls) = (x ∷ l) ∷ ls

-- The lines of some bytes, each with the 0A that ends it.
unfoldable pub lines_of : List ℕ → List (List ℕ)
lines_of [] = []
lines_of (x ∷ s) = cond (eqb x 10) ((x ∷ []) ∷ lines_of s) (before x (lines_of s))

-- The length of the first line.
unfoldable pub line_length : List ℕ → ℕ
line_length [] = 0
line_length (x ∷ s) = cond (eqb x 10) 1 (suc (line_length s))

-- The names of a table, a line each.
abbrev pub name_lines : {A : Type 0} → List (Label A) → List (List ℕ)
name_lines [] = []
name_lines (l ∷ ls) = (l.name ++ 10 ∷ []) ∷ name_lines ls

-- A line found k lines further on.
abbrev pub later : ℕ → Option (ℕ × ℕ) → Option (ℕ × ℕ)
later k none = none
later k (some p) = some (k + p.0, p.1)

-- The first of some lines that follows a field at the head of s: its number, and its length with the field.
unfoldable pub line_found : List ℕ → List (List ℕ) → List ℕ → Option (ℕ × ℕ)
line_found field [] s = none
line_found field (l ∷ ls) s = cond (stands (field ++ l) s) (some (0, size (field ++ l))) (later 1 (line_found field ls s))

-- What the reader of a line returns.
abbrev pub line_read : Maybe Line → Option (ℕ × ℕ)
line_read (Some line) = some (line.number, line.length)
line_read None = none

-- The lines of a report, one after the other.
-- Assumes nothing.
use Rattle.std.specs.Prelude.{cond, ◌≡◌, List, [], ◌++◌, ℕ, ◌≤◌, ◌<◌, eqb, length as size, drop}
use Rattle.rules.specs.Bytes.{ascii, over}
use Rattle.rules.specs.References.{reference_step}
use Rattle.rules.specs.Reasons.{lefts_in}
use Rattle.rules.specs.Refusals.{case_of, moves_in, answer_at}
use Rattle.rules.specs.Program.{decimal, decoding, left_lines}

-- The status of the call that the program makes.
abbrev pub status_of : List ℕ → ℕ
status_of t = (answer_at (case_of (decoding t)) t (moves_in (decoding t))).status

-- The line of a refusal; nothing where decode passes.
abbrev pub refusal_line : List ℕ → List ℕ
refusal_line t = cond (eqb (status_of t) 0) [] (ascii "status=" ++ decimal (status_of t) ++ ascii "\n")

-- The line of a place and a reason.
abbrev pub line_of : ℕ → ℕ → List ℕ
line_of i r = ascii "place=" ++ decimal i ++ ascii " reason=" ++ decimal r ++ ascii "\n"

-- The lines of the references that stay from place i of a text on.
abbrev pub lines_from : List ℕ → ℕ → List ℕ
lines_from t i = left_lines (lefts_in reference_step i (drop i t))

-- A report: n bytes, which stand at the start of the output, are the lines from place i up to place j; at least one place is passed.
pub record Reported (t : List ℕ) (i n j : ℕ) (out₀ out : List ℕ) : Type 0 where
  pub lines : List ℕ
  pub splits : lines_from t i ≡ lines ++ lines_from t j
  pub long : n ≡ size lines
  pub holds : out ≡ over lines out₀
  pub fits : n ≤ size out
  pub on : i < j
  pub within : j ≤ size t

-- What an outcome of a quick reader says.
-- Assumes nothing.
use Rattle.std.specs.Prelude.{◌≡◌, List, ℕ, ◌≤◌, ◌<◌, length as size}
use Rattle.rules.specs.Bytes.{over}
use Rattle.rules.specs.Moves.{Move, result, replaced, place as place_of, through}
use Rattle.rules.specs.Utf8.{valid_to}
use Rattle.rules.specs.Answers.{Measures, whole}
use Rattle.rules.specs.Reading.{read_step}
use Rattle.rules.specs.declared.Context.{Context}
use Rattle.outcomes.specs.declared.Outcome.{Outcome}
use Rattle.outcomes.specs.declared.Outcome.TheVariants.{Untried, Same, NoRoom, Written}

-- A valid text, not too long, through all of which the moves go.
abbrev pub Whole : List Move → List ℕ → Type 0
Whole ms t = (size t ≤ 65536) × (valid_to t ≡ size t) × (place_of ms ≡ size t)

-- What an outcome says of the moves ms through the text t, of the output at the start and of that at the end.
abbrev pub Says : List Move → List ℕ → List ℕ → List ℕ → Outcome → Type 0
Says ms t out o Untried = o ≡ out
Says ms t out o Same = Whole ms t × (replaced ms ≡ 0) × (o ≡ out)
Says ms t out o (NoRoom n) = Whole ms t × (replaced ms ≡ 0 → ⊥) × (n ≡ size (result ms)) × (size out < n) × (o ≡ out)
Says ms t out o (Written n k) =
    Whole ms t × (replaced ms ≡ 0 → ⊥) × Measures (whole n (size t) k) ms
    × (size (result ms) ≤ size out) × (o ≡ over (result ms) out)

-- The same of the moves of read.
abbrev pub Reads : Context → List ℕ → List ℕ → List ℕ → Outcome → Type 0
Reads c t out o r = Says (through (read_step c) t) t out o r

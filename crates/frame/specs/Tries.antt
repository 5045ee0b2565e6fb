-- What a try of a call leaves.
-- Assumes nothing.
use Rattle.std.specs.Prelude.{Bool, ◌≡◌, List, ℕ, Option, Some, None, Result, Ok, Err}
use Rattle.rules.specs.Moves.{Rule}
use Rattle.rules.specs.declared.Answer.{Answer}
use Rattle.jobs.specs.Jobs.{Leaves}
use Rattle.frame.specs.Refused.{refused}
use Rattle.frame.specs.declared.refusals.Refusal.{Refusal}

-- An answer and the output that the call by a rule leaves, or, where nothing is done yet, the output as it was.
abbrev pub Tries : Rule → Bool → List ℕ → List ℕ → List ℕ → Result (Option Answer) Refusal → Type 0
Tries rule borrows t out o (Ok (Some a)) = Leaves rule borrows t out a o
Tries rule borrows t out o (Ok None) = o ≡ out
Tries rule borrows t out o (Err why) = Leaves rule borrows t out (refused why) o

-- What the search for the end of a script element stops at, how it goes on, and what it finds.
-- Assumes nothing.
use Rattle.std.specs.Prelude.{Option as Maybe, Some, None, Bool, ◌&&◌, ◌||◌, ◌≡◌, List, ℕ, ◌+◌, ◌≤◌, eqb, length, drop, get_or}
use Rattle.std.proofs.Math.Option.{Option, none, some}
use Rattle.rules.specs.ScriptData.{end_from}
use Rattle.rules.specs.declared.ScriptMode.{ScriptMode}
use Rattle.rules.specs.declared.ScriptMode.TheVariants.{Plain, Once, Twice}

-- What matters after a `<` beside `/` and `S`: `!` in a plain text, `s` where it is escaped once, nothing where it is escaped twice.
abbrev pub letter_of : ScriptMode → ℕ
letter_of Plain = 33
letter_of Once = 115
letter_of Twice = 47

-- The byte before `->` that matters: a dash where the text is escaped. In a plain text none does, and `<` stands for that.
abbrev pub dash_of : ScriptMode → ℕ
dash_of Plain = 60
dash_of Once = 45
dash_of Twice = 45

-- Three bytes at which the mode may change, or the element end.
unfoldable pub mark : ℕ → ℕ → ℕ → ℕ → ℕ → Bool
mark letter dash a b c = (eqb a 60 && ((eqb b 47 || eqb b 83) || eqb b letter)) || ((eqb a dash && eqb b 45) && eqb c 62)

-- They are at place k of the text.
abbrev pub mark_at : ℕ → ℕ → List ℕ → ℕ → Bool
mark_at letter dash t k = mark letter dash (get_or t k 0) (get_or t (k + 1) 0) (get_or t (k + 2) 0)

-- A `<` or a dash is at place k.
abbrev pub stop_at : List ℕ → ℕ → Bool
stop_at t k = eqb (get_or t k 0) 60 || eqb (get_or t k 0) 45

-- From place a to place r of the text nothing happens in the mode: what is found from a on is found from r on.
pub record Passed (m : ScriptMode) (t : List ℕ) (a r : ℕ) : Type 0 where
  pub after : a ≤ r
  pub within : r ≤ length t
  pub same : end_from m a (drop a t) ≡ end_from m r (drop r t)

-- The place that was found, if any.
abbrev pub found_at : Maybe ℕ → Option ℕ
found_at (Some p) = some p
found_at None = none

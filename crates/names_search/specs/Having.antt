-- The rows of a table by a byte of their names.
-- Assumes nothing.
use Rattle.std.specs.Prelude.{List, ℕ, get_or}
use Rattle.rules.specs.Bytes.{Range, inside, only}
use Rattle.rules.specs.Tables.{Row, key}

-- The rows whose keys have a byte of the range at a place.
abbrev pub having : ℕ → Range → List Row → List Row
having place range rows = only (λ (row : Row). inside range (get_or (key row) place 0)) rows

-- Where the units of a text are, as they are kept. `size` is the length of a unit by its second byte, and `mark` the byte that units begin with.
-- Assumes nothing.
use Rattle.std.specs.Prelude.{List, ℕ, zero, suc, ◌+◌, ◌<◌, length, get_or}
use Rattle.base.specs.Places.{Nearest}

-- Where the unit at place p of the text ends.
abbrev pub end_by : (ℕ → ℕ) → List ℕ → ℕ → ℕ
end_by size t p = p + size (get_or t (p + 1) 0)

-- Where the search for the unit number k begins: at the start, or where the one before ends.
abbrev pub start_of : (ℕ → ℕ) → List ℕ → List ℕ → ℕ → ℕ
start_of size t places zero = 0
start_of size t places (suc k) = end_by size t (get_or places k 0)

-- The first n places that are kept are those of the next mark each, within the text.
abbrev pub Marked : (ℕ → ℕ) → ℕ → List ℕ → List ℕ → ℕ → Type 0
Marked size mark t places n = (k : ℕ) → k < n → k < length places → Nearest t (start_of size t places k) mark (get_or places k 0) × (get_or places k 0 < length t)

-- Where a byte stands in a text, said place by place.
-- Assumes nothing.
use Rattle.std.specs.Prelude.{◌≡◌, List, ℕ, ◌+◌, ◌-◌, ◌≤◌, ◌<◌, length, take, drop, get_or}

-- The byte stands at no place from a on and before e.
abbrev pub Absent : List ℕ → ℕ → ℕ → ℕ → Type 0
Absent t a e byte = (k : ℕ) → a ≤ k → k < e → get_or t k 0 ≡ byte → ⊥

-- The place r is the first at or after a where the byte stands, or the length of the text.
pub record Nearest (t : List ℕ) (a byte r : ℕ) : Type 0 where
  pub after : a ≤ r
  pub within : r ≤ length t
  pub none : Absent t a r byte
  pub here : r < length t → get_or t r 0 ≡ byte

-- There is room for n bytes from place a on up to the next place of the byte.
abbrev pub Holds : List ℕ → ℕ → ℕ → ℕ → Type 0
Holds t a byte n = (r : ℕ) → Nearest t a byte r → r ≤ a + n

-- The bytes of the text from place a on and before e.
abbrev pub part : List ℕ → ℕ → ℕ → List ℕ
part t a e = take (e - a) (drop a t)

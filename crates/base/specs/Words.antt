-- Bytes as one word of eight bytes, and what is left of an output over which such words, or any bytes of which not all count, are stored whole.
-- Assumes nothing.
use Rattle.std.specs.Prelude.{◌≡◌, List, [], ◌∷◌, ℕ, ◌+◌, ◌*◌, ◌/◌, ◌%◌, length, take, drop}

-- Bytes as a number, the first the lowest.
abbrev pub number : List ℕ → ℕ
number [] = 0
number (b ∷ w) = b + 0x100 * number w

-- The word of up to seven bytes: these, and in its highest byte how many they are.
unfoldable pub word_of : List ℕ → ℕ
word_of w = number w + 0x100000000000000 * length w

-- The eight bytes of a word, the lowest first.
abbrev pub eight : ℕ → List ℕ
eight x =
    x % 0x100
    ∷ x / 0x100 % 0x100
    ∷ x / 0x10000 % 0x100
    ∷ x / 0x1000000 % 0x100
    ∷ x / 0x100000000 % 0x100
    ∷ x / 0x10000000000 % 0x100
    ∷ x / 0x1000000000000 % 0x100
    ∷ x / 0x100000000000000 % 0x100
    ∷ []

-- The bytes w stand at the start of the output, and it is as before from `spill` bytes past them on.
abbrev pub Spills : ℕ → List ℕ → List ℕ → List ℕ → Type 0
Spills spill w before after = (take (length w) after ≡ w) × (drop (length w + spill) after ≡ drop (length w + spill) before)

-- Some bytes of a text as one number.
-- Assumes nothing.
use Rattle.std.specs.Prelude.{List, ℕ, zero, suc, ◌+◌, ◌*◌, ◌<◌, length, get_or}
use Rattle.std.specs.Int.Bits.{bit_and, bit_xor}

-- The first n of some bytes as a number, the first lowest.
abbrev pub word_of : (ℕ → ℕ) → ℕ → ℕ
word_of f zero = 0
word_of f (suc n) = f 0 + 256 * word_of (λ j. f (suc j)) n

-- Those of a text from a place on.
abbrev pub word_at : List ℕ → ℕ → ℕ → ℕ
word_at t at n = word_of (λ j. get_or t (at + j) 0) n

-- The number of n bytes that are all k.
abbrev pub repeat : ℕ → ℕ → ℕ
repeat k n = word_of (λ j. k) n

-- A number with the highest bit of each of n bytes that is 127 - k.
abbrev pub hits_of : ℕ → ℕ → ℕ → ℕ
hits_of k n w = bit_and (bit_xor (w + repeat (suc k) n) (w + repeat k n)) (repeat 128 n)

-- Every byte is ASCII.
abbrev pub Ascii : List ℕ → Type 0
Ascii t = (k : ℕ) → k < length t → get_or t k 0 < 128

-- A lent table: the rows that its numbers hold, and when they are a table.
-- Assumes nothing.
use Rattle.std.specs.Prelude.{Bool, true, false, ◌&&◌, cond, List, [], ◌∷◌, ℕ, ◌+◌, ◌-◌, leb, ltb, length, take, drop}
use Rattle.rules.specs.Tables.{Row}
use Rattle.rules.specs.Utf8.{utf8}
use Rattle.rules.specs.Answers.{unpack_to}
use Rattle.names_search.specs.Pairs.{beside}
use Rattle.names_search.specs.Listed.{listed}

-- The value of a number: below E000 the character of that number, below F000 the character as far from 1D400 as it is from E000, and else a listed one.
abbrev pub code_bytes : ℕ → List ℕ
code_bytes n = cond (ltb n 0xE000) (utf8 n) (cond (ltb n 0xF000) (utf8 (0x1D400 + (n - 0xE000))) (unpack_to 6 (beside 0 listed n)))

-- The rows of a table whose names all begin with the byte b and go on with `bytes`, as many as `lengths` says for each.
abbrev pub rows_of : ℕ → List ℕ → List ℕ → List ℕ → List Row
rows_of b bytes [] values = []
rows_of b bytes (n ∷ lengths) [] = []
rows_of b bytes (n ∷ lengths) (v ∷ values) = (b ∷ take n bytes, code_bytes v) ∷ rows_of b (drop n bytes) lengths values

-- There are bytes for each length, and as many values as lengths.
abbrev pub is_table : List ℕ → List ℕ → List ℕ → Bool
is_table bytes [] [] = true
is_table bytes [] (v ∷ values) = false
is_table bytes (n ∷ lengths) [] = false
is_table bytes (n ∷ lengths) (v ∷ values) = leb n (length bytes) && is_table (drop n bytes) lengths values

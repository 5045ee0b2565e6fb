-- RULES 7. encode: the rule of the contexts with units, and that of script_raw.
-- Assumes nothing.
use Rattle.std.specs.Prelude.{Bool, ◌&&◌, ◌||◌, cond, List, [], ◌∷◌, ◌++◌, map, ℕ, ◌-◌, eqb, length}
use Rattle.std.proofs.Math.Option.{Option, none, some}
use Rattle.rules.specs.Bytes.{ascii, is, bytes, fits, stands, between, one_of}
use Rattle.rules.specs.Moves.{Move, keep, swap, stop, Rule}
use Rattle.rules.specs.Utf8.{char_at}
use Rattle.rules.specs.Tables.{Row, row_at, key, value, table}
use Rattle.rules.specs.Ascii.{by_rule}
use Rattle.rules.specs.declared.Context.{Context}

-- One byte is kept.
abbrev pub keep_byte : List ℕ → Move
keep_byte [] = stop 4
keep_byte (b ∷ s) = keep (b ∷ [])

-- The row's key gives way to its value; where there is no row, the other move.
abbrev pub write : Option Row → Move → Move
write (some row) other = swap (key row) (value row)
write none other = other

-- The first row whose key stands here is written; where none does, one byte is kept.
abbrev pub encode_by : List Row → Rule
encode_by rows prev s = write (row_at key rows s) (keep_byte s)

-- The character at the head of s and what the context's rule writes for it, if it writes something.
abbrev pub rule_at : Context → List ℕ → Option Row
rule_at c s = elim (by_rule c (char_at s)) [ none ↦ none | some v ↦ some (char_at s, v) ]

-- encode in a context: by its rule, and else by all that its table replaces.
unfoldable pub encode_step : Context → Rule
encode_step c prev s = write (rule_at c s) (encode_by (table c) prev s)

-- ---- script_raw

-- A letter in either letter case; any other byte as it is.
abbrev pub any_case : ℕ → List ℕ
any_case b = cond (between "a" "z" b) (b ∷ (b - 32) ∷ []) (b ∷ [])

-- `/`, `>`, a byte 9 to 13 or 28 to 32.
abbrev pub terminators : List ℕ
terminators = ascii "/>" ++ bytes 9 13 ++ bytes 28 32

-- The name in any letter case stands here, and a terminator follows.
abbrev pub closes : List ℕ → List ℕ → Bool
closes name s = fits one_of (map any_case name ++ terminators ∷ []) s

-- The name in any letter case stands here, and the text ends.
abbrev pub closes_at_end : List ℕ → List ℕ → Bool
closes_at_end name s = fits one_of (map any_case name) s && eqb (length s) (length name)

-- What follows a `<` that script_raw parts from it.
abbrev pub parted : List ℕ → Bool
parted s = stands (ascii "!--") s || closes (ascii "/script") s || closes_at_end (ascii "/script") s

-- encode in script_raw: a backslash goes in after each `<` that is followed by such bytes.
unfoldable pub raw_step : Rule
raw_step prev [] = stop 4
raw_step prev (b ∷ s) = cond (is "<" b && parted s) (swap (b ∷ []) (b ∷ ascii "\\")) (keep (b ∷ []))

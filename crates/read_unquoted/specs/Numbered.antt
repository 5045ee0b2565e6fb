-- `&#xHH;` as a number.
-- Assumes nothing.
use Rattle.std.specs.Prelude.{◌≡◌, ℕ, true}
use Rattle.rules.specs.Tables.{value, reference}
use Rattle.reader.specs.Units.{is_other}
use Rattle.read_units.specs.Units.{lowest}

-- Six bytes with this number are the unit of a byte that is written so.
abbrev pub Numbered : ℕ → Type 0
Numbered six = (v : ℕ) × (is_other v ≡ true) × (six ≡ lowest 6 (value (reference v)))

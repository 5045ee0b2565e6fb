-- What is measured.
-- Assumes nothing.
use Rattle.std.specs.Prelude.{Option, Some, None, ◌≡◌, List, ℕ, length as size}
use Rattle.rules.specs.Answers.{Measures, whole}
use Rattle.rules.specs.Contexts.{string_of}
use Rattle.rules.specs.Moves.{through, place as place_of}
use Rattle.rules.specs.Reading.{read_step}
use Rattle.rules.specs.declared.Language.{Language}
use Rattle.rules.specs.declared.Quotes.{Quotes}
use Rattle.marks.specs.Marks.{Marked}
use Rattle.reader.specs.Units.{byte_step}
use Rattle.read_strings.specs.Units.{length_of}
use Rattle.read_strings.specs.declared.measure.Found.{Found}

-- Where the whole text can be read, the numbers are those of the moves of read, byte by byte it is read to its end, and the units' places are kept.
abbrev pub Told : Language → Quotes → List ℕ → List ℕ → Option Found → Type 0
Told l q t places (Some r) =
    Measures (whole r.length (size t) r.units) (through (read_step (string_of l q)) t)
    × (place_of (through (byte_step (string_of l q)) t) ≡ size t) × Marked length_of 0x5C t places r.units
Told l q t places None = Unit {0}

-- Where the units of a text are, as they are kept, and what is measured.
-- Assumes nothing.
use Rattle.std.specs.Prelude.{◌≡◌, List, ℕ, ◌+◌, length as size}
use Rattle.rules.specs.Moves.{result, through, from, place as place_of}
use Rattle.rules.specs.Answers.{Measures, whole}
use Rattle.rules.specs.Reading.{read_step}
use Rattle.rules.specs.declared.Html.{Html}
use Rattle.rules.specs.declared.Context.TheVariants.{InHtml}
use Rattle.find_ascii.specs.Words.{Ascii}
use Rattle.marks.specs.Marks.{Marked as MarkedBy}
use Rattle.reader.specs.Units.{byte_step}
use Rattle.read_units.specs.Units.{length_of}
use Rattle.read_units.specs.declared.Found.{Found}

-- What read gives of the text from place i on, byte by byte.
abbrev pub Rest : Html → List ℕ → ℕ → List ℕ
Rest h t i = result (from (byte_step (InHtml h)) t i)

-- From place i on the text can be read to its end.
abbrev pub Reaches : Html → List ℕ → ℕ → Type 0
Reaches h t i = i + place_of (from (byte_step (InHtml h)) t i) ≡ size t

-- The first n places that are kept are those of the next `&` each.
abbrev pub Marked : List ℕ → List ℕ → ℕ → Type 0
Marked = MarkedBy length_of 38

-- The whole text can be read: it is ASCII, the numbers are those of the moves of read, byte by byte it is read to its end, and the units' places
-- are kept.
abbrev pub Told : Html → List ℕ → List ℕ → Found → Type 0
Told h t places r =
    Ascii t
    × Measures (whole r.length (size t) r.units) (through (read_step (InHtml h)) t)
    × (place_of (through (byte_step (InHtml h)) t) ≡ size t) × Marked t places r.units

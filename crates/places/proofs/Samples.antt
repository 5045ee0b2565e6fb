-- What each place makes of the samples, and of the cases of html5lib-tests, computed.
-- Assumes nothing.
use mathlib.Core.Bool.{Bool, not, ◌&&◌, ◌||◌}
use mathlib.Core.List.{List, [], ◌∷◌}
use Prim.Native.Nat.{ℕ}
use lib.Dec.{T, eqb}
use Rattle.rules.specs.Bytes.{ascii, bytes, all, one_of, same_bytes}
use Rattle.rules.specs.Moves.{Move, through, place, result}
use Rattle.rules.specs.Names.{names}
use Rattle.rules.specs.Bare.{bare}
use Rattle.rules.specs.References.{renumbering}
use Rattle.rules.specs.Browsing.{identifiers}
use Rattle.places.specs.Places.{Place, place_step, begins}
use Rattle.places.specs.HtmlPlaces.{attribute_unquoted}
use Rattle.places.specs.Samples.{Sample, Samples, placed, shut}
use Rattle.places.specs.Html5lib.{html5lib}

abbrev shows_by : List Move → Sample → Bool
shows_by ms e = eqb (place ms) e.takes && same_bytes (result ms) e.held

abbrev shows : Place → Sample → Bool
shows p e = shows_by (through (place_step p) e.source) e

pub samples-show : T (all (λ (s : Samples). all (shows s.at) s.each) placed)
unfolding place_step names bare identifiers renumbering
samples-show = tt

pub html5lib-shows : T (all (λ (s : Samples). all (shows s.at) s.each) html5lib)
unfolding place_step names bare identifiers renumbering
html5lib-shows = tt

-- A value without quotes begins with none of these; with any other byte that is printed it does.
pub samples-shut : T (all (λ (s : List ℕ). not (begins attribute_unquoted.never s)) shut)
samples-shut = tt

pub samples-open : T (all (λ (b : ℕ). one_of (ascii "\"'>") b || begins attribute_unquoted.never (b ∷ [])) (bytes 33 126))
samples-open = tt

-- The edges of ascii_quoted hold: each table is one computed test.
-- Assumes nothing.
use mathlib.Core.Bool.{not}
use lib.Dec.{T}
use Rattle.rules.specs.Bytes.{all}
use Rattle.rules.specs.Utf8.{char_step, is_cut}
use Rattle.rules.specs.Encoding.{encode_step}
use Rattle.rules.specs.Reading.{read_step}
use Rattle.rules.specs.Names.{names}
use Rattle.rules.specs.Ascii.{name_of, is_high}
use Rattle.rules.specs.References.{renumbering, reference_step}
use Rattle.rules.specs.Bare.{bare}
use Rattle.rules.specs.Browsing.{identifiers, browse_step}
use Rattle.rules.specs.Operations.{decode_step}
use Rattle.rules.specs.Refusals.{case_by}
use Rattle.rules.specs.Examples.{holds}
use Rattle.edges.specs.AsciiEdges.{spelled_as, named, numbered, lows, ascii_texts}

pub named-spelled : T (all spelled_as named)
unfolding names name_of
named-spelled = tt

pub numbered-spelled : T (all spelled_as numbered)
unfolding names name_of
numbered-spelled = tt

pub lows-low : T (all (λ a. not (is_high a)) lows)
lows-low = tt

pub ascii-texts : T (all holds ascii_texts)
unfolding char_step is_cut encode_step read_step names name_of renumbering reference_step bare identifiers browse_step decode_step case_by
ascii-texts = tt

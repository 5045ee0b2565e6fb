-- The examples hold, each table under one statement, by computing.
-- Assumes nothing.
use lib.Dec.{T}
use Rattle.rules.specs.Bytes.{all}
use Rattle.rules.specs.Utf8.{char_step, is_cut}
use Rattle.rules.specs.Contexts.{context_of}
use Rattle.rules.specs.Encoding.{encode_step, raw_step}
use Rattle.rules.specs.Reading.{read_step}
use Rattle.rules.specs.Names.{names}
use Rattle.rules.specs.Ascii.{name_of}
use Rattle.rules.specs.References.{renumbering, reference_step}
use Rattle.rules.specs.Bare.{bare}
use Rattle.rules.specs.Browsing.{identifiers, browse_step}
use Rattle.rules.specs.Json.{json_step}
use Rattle.rules.specs.Operations.{decode_step}
use Rattle.rules.specs.Refusals.{case_by}
use Rattle.rules.specs.Program.{entity_of}
use Rattle.rules.specs.Examples.{holds, starred, rest}

-- The starred examples, 1 to 12.
pub starred-hold : T (all holds starred)
unfolding char_step is_cut encode_step raw_step read_step names name_of renumbering reference_step bare identifiers browse_step decode_step json_step case_by context_of entity_of
starred-hold = tt

-- The others, 13 to 18.
pub rest-hold : T (all holds rest)
unfolding char_step is_cut encode_step raw_step read_step names name_of renumbering reference_step bare identifiers browse_step decode_step json_step case_by context_of entity_of
rest-hold = tt

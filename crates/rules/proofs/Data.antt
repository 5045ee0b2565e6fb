-- What the contexts write and the digests of the tables are as stated, by computing.
-- Assumes nothing.
use mathlib.Core.List.{map}
use lib.Dec.{T, eqb}
use Rattle.rules.specs.Utf8.{char_step, is_cut}
use Rattle.rules.specs.Contexts.{context_of}
use Rattle.rules.specs.Encoding.{encode_step, raw_step}
use Rattle.rules.specs.Reading.{read_step}
use Rattle.rules.specs.Names.{names}
use Rattle.rules.specs.Ascii.{name_of}
use Rattle.rules.specs.References.{renumbering, reference_step}
use Rattle.rules.specs.Bare.{bare}
use Rattle.rules.specs.Browsing.{identifiers, browse_step}
use Rattle.rules.specs.Json.{json_step}
use Rattle.rules.specs.Operations.{decode_step}
use Rattle.rules.specs.Refusals.{case_by}
use Rattle.rules.specs.Program.{entity_of}
use Rattle.rules.specs.Data.{encoders, write_from, digest, names_digest, as_row, renumbering_digest}

pub contexts-write : T (write_from 0 encoders)
unfolding char_step is_cut encode_step raw_step read_step names name_of renumbering reference_step bare identifiers browse_step decode_step json_step case_by context_of entity_of
contexts-write = tt

pub names-digest : T (eqb (digest names) names_digest)
unfolding names
names-digest = tt

pub renumbering-digest : T (eqb (digest (map as_row renumbering)) renumbering_digest)
unfolding renumbering
renumbering-digest = tt

-- The edges hold, each table under one statement, by computing.
-- Assumes nothing.
use mathlib.Core.Bool.{true, false, ◌&&◌}
use Prim.Native.Nat.{ℕ}
use lib.Dec.{T}
use Rattle.rules.specs.Bytes.{count, all}
use Rattle.rules.specs.Utf8.{sequences, char_step, is_cut}
use Rattle.rules.specs.Contexts.{context_of}
use Rattle.rules.specs.Encoding.{encode_step, raw_step}
use Rattle.rules.specs.Reading.{read_step}
use Rattle.rules.specs.Names.{names}
use Rattle.rules.specs.Ascii.{name_of}
use Rattle.rules.specs.References.{renumbering, reference_step}
use Rattle.rules.specs.Bare.{bare}
use Rattle.rules.specs.Browsing.{identifiers, browse_step}
use Rattle.rules.specs.Json.{json_step}
use Rattle.rules.specs.Operations.{decode_step}
use Rattle.rules.specs.Refusals.{case_by}
use Rattle.rules.specs.Program.{entity_of, reasons_of}
use Rattle.rules.specs.Examples.{holds_in, holds}
use Rattle.edges.specs.Edges.{characters, valid_up_to, long_by_ones, closes_at, edges, copying, borrowing, papers, reads_as, checks, checks_as, requests, answers, reported, reports}

-- Characters, calls, calls of one kind only, check, answers that are enums, the programs.
pub characters-valid : T (all valid_up_to characters)
unfolding char_step
characters-valid = tt

pub ones-lead : T (all (λ (b : ℕ). all (long_by_ones b) sequences) (count 0 256))
ones-lead = tt

pub closers-close : T (all closes_at (count 0 256))
closers-close = tt

pub edges-hold : T (all holds edges)
unfolding char_step is_cut encode_step raw_step read_step names name_of renumbering reference_step bare identifiers browse_step decode_step json_step case_by context_of entity_of
edges-hold = tt

pub kinds-hold : T (all (holds_in false) copying && all (holds_in true) borrowing)
unfolding char_step is_cut encode_step raw_step read_step names name_of renumbering reference_step bare identifiers browse_step decode_step json_step case_by context_of entity_of
kinds-hold = tt

pub checks-hold : T (all checks_as checks)
unfolding char_step is_cut encode_step raw_step read_step names name_of reference_step bare identifiers browse_step decode_step json_step case_by context_of entity_of
checks-hold = tt

pub papers-read : T (all reads_as papers)
papers-read = tt

pub program-answers : T (all answers requests)
unfolding char_step is_cut encode_step raw_step read_step names name_of renumbering reference_step bare identifiers browse_step decode_step json_step case_by context_of entity_of
program-answers = tt

pub reasons-reported : T (all reports reported)
unfolding char_step is_cut names reference_step decode_step case_by reasons_of
reasons-reported = tt

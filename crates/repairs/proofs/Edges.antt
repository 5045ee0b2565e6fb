-- The edges hold, under one statement, by computing.
-- Assumes nothing.
use lib.Dec.{T}
use Rattle.rules.specs.Bytes.{all}
use Rattle.rules.specs.Utf8.{char_step, is_cut}
use Rattle.rules.specs.Encoding.{encode_step}
use Rattle.rules.specs.Reading.{read_step}
use Rattle.rules.specs.Names.{names}
use Rattle.rules.specs.Ascii.{name_of}
use Rattle.rules.specs.Refusals.{case_by}
use Rattle.repairs.specs.Repair.{repair_of}
use Rattle.repairs.specs.Edges.{edges, repairs}

pub edges-hold : T (all repairs edges)
unfolding char_step is_cut encode_step read_step names name_of case_by repair_of
edges-hold = tt

-- The cuts and the calls of raw script by parts hold, by computing.
-- Assumes nothing.
use lib.Dec.{T}
use Rattle.rules.specs.Bytes.{all}
use Rattle.rules.specs.Utf8.{char_step, is_cut}
use Rattle.rules.specs.Encoding.{raw_step}
use Rattle.rules.specs.Stream.{part_case}
use Rattle.edges.specs.StreamEdges.{patterns, sequence_cuts, cut_as, calls, called_as}

pub patterns-cut : T (all cut_as patterns)
unfolding char_step is_cut raw_step part_case
patterns-cut = tt

pub sequences-cut : T (all cut_as sequence_cuts)
unfolding char_step is_cut raw_step part_case
sequences-cut = tt

pub calls-called : T (all called_as calls)
unfolding char_step is_cut raw_step part_case
calls-called = tt

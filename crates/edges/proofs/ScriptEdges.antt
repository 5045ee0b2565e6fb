-- The script data states, the bytes that end a name and the places hold, by computing.
-- Assumes nothing.
use lib.Dec.{T}
use Rattle.rules.specs.Bytes.{count, all}
use Rattle.rules.specs.ScriptData.{closing_tag}
use Rattle.edges.specs.ScriptEdges.{states, left_as, ends_as, places, placed_as}

pub states-left : T (all left_as states)
states-left = tt

pub enders-end : T (all ends_as (count 0 256))
unfolding closing_tag
enders-end = tt

pub places-hold : T (all placed_as places)
unfolding closing_tag
places-hold = tt

-- The edges of browse hold, by computing.
-- Assumes nothing.
use lib.Dec.{T}
use Rattle.rules.specs.Bytes.{all}
use Rattle.rules.specs.Names.{names}
use Rattle.rules.specs.References.{renumbering}
use Rattle.rules.specs.Bare.{bare}
use Rattle.rules.specs.Browsing.{identifiers, browse_step}
use Rattle.edges.specs.BrowsingEdges.{browses_to, name_edges, number_edges}

pub names-browse : T (all browses_to name_edges)
unfolding names bare identifiers browse_step renumbering
names-browse = tt

pub numbers-browse : T (all browses_to number_edges)
unfolding names bare identifiers browse_step renumbering
numbers-browse = tt

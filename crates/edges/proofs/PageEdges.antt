-- The pages hold, by computing.
-- Assumes nothing.
use lib.Dec.{T}
use Rattle.rules.specs.Bytes.{all}
use Rattle.rules.specs.Utf8.{char_step, is_cut}
use Rattle.rules.specs.Contexts.{context_of}
use Rattle.rules.specs.Encoding.{encode_step, raw_step}
use Rattle.rules.specs.Refusals.{case_by}
use Rattle.rules.specs.Pages.{single, leaves, fill_from, page_of}
use Rattle.edges.specs.PageEdges.{pages, page_as}

pub pages-hold : T (all page_as pages)
unfolding char_step is_cut encode_step raw_step case_by context_of single leaves fill_from page_of
pages-hold = tt

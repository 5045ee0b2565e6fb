-- The test is the one that is computed for every byte.
-- Assumes nothing.
use mathlib.Core.Path.{◌∙◌}
use Rattle.encode_html.proofs.Growth.{four_is}
use Rattle.encode_html.proofs.gains.four.Goals as goal

pub returns : goal.returns
returns c = (c.when.ensures.0 ∙ four_is c.args.h c.args.b c.ranges.b.fits, c.when.ensures.1)

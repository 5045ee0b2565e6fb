-- `find_far` meets its contract: what is skipped has none, and the rest is searched.
-- Assumes nothing.
use Rattle.base.proofs.Places.{nearest-after}
use Rattle.find_ascii.proofs.find_far.Goals as goal

pub returns : goal.returns
returns c = let a = c.args in nearest-after a.text.now a.from c.pass.result a.byte c.find.result c.pass.ensures.0 c.pass.ensures.2 c.find.ensures

-- `refuse` meets its contract: the line is one field.
-- Assumes nothing.
use Rattle.repairs.proofs.refuse.Goals as goal

pub returns : goal.returns
returns c = let p = c.put_field in (p.ensures.0, p.ensures.1)

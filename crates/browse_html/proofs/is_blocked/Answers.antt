-- `browse_html::is_blocked` meets its contract: in text nothing is blocked.
-- Assumes nothing.
use Rattle.browse_html.proofs.is_blocked.Goals as goal

pub returns-in-InAttribute : goal.returns-in-InAttribute
returns-in-InAttribute c = rw c.in-InAttribute.is c.goes_on.ensures

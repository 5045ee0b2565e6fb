-- `crate::is_letter_or_digit` meets its contract: its three tests are the definition's.
-- Assumes nothing.
use Rattle.base.proofs.is_letter_or_digit.Goals as goal

pub returns : goal.returns
returns c = rw (c.is_within.ensures, c.is_within-2.ensures, c.is_within-3.ensures)

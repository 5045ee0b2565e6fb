-- `utf8::status` meets its contract, by its test.
-- Assumes nothing.
use Rattle.utf8.proofs.status.Goals as goal

pub returns-then-is_cut : goal.returns-then-is_cut
returns-then-is_cut c = rw (← c.is_cut.ensures, c.if-is_cut.true)

pub returns : goal.returns
returns c = rw (← c.is_cut.ensures, c.if-is_cut.false)

-- `heads_fit` meets its contract: the three tests are those of the definition.
-- Assumes nothing.
use Rattle.utf8.proofs.heads_fit.Goals as goal

pub returns : goal.returns
returns c =
    let two = c in
    rw (two.is_fit.ensures, two.is_fit-2.ensures, c.is_fit-3.ensures)

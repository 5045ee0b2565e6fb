-- `copying` meets its contract: read is made of its two calls, any other operation is the call of its name.
-- Assumes nothing.
use Rattle.requests.proofs.copying.Goals as goal

pub returns-in-Read : goal.returns-in-Read
returns-in-Read c = rw c.in-Read.is c.read.ensures

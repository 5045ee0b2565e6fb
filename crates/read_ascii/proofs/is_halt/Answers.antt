-- `is_halt` meets its contract: one test, computed for every byte.
-- Assumes nothing.
use borrow.Author.Rules.{rules}
use Rattle.read_ascii.proofs.Contents.{halt-test}
use Rattle.read_ascii.proofs.is_halt.Goals as goal

pub returns : goal.returns
returns c = halt-test c.args.b (search rules)

-- `is_halt` meets its contract: one test, computed for every byte.
-- Assumes nothing.
-- src/halts.rt:13:1
use borrow.Author.Rules.{rules}
use Rattle.decode_json.proofs.Contents.{halt-test}
use Rattle.decode_json.proofs.halts.is_halt.Goals as goal

pub returns : goal.returns
returns c = halt-test c.args.b (search rules)

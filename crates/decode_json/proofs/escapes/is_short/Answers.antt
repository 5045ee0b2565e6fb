-- `is_short` meets its contract: a bit of a word, computed for every byte.
-- Assumes nothing.
use borrow.Author.Rules.{rules}
use Rattle.decode_json.proofs.Told.{short-test}
use Rattle.decode_json.proofs.escapes.is_short.Goals as goal

pub returns : goal.returns
returns c = rw c.short_bits.ensures (short-test c.args.b (search rules))

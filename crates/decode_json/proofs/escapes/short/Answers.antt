-- `short` meets its contract: the byte itself or four bits of a word, computed for every byte.
-- Assumes nothing.
use Rattle.std.proofs.Common.{sym, ◌∙◌}
use borrow.Author.Rules.{rules}
use borrow.Author.Tests.{lt-ltb, le-ltb}
use Rattle.decode_json.proofs.Told.{short-value}
use Rattle.decode_json.proofs.escapes.short.Goals as goal

pub returns-then-b-lt98 : goal.returns-then-b-lt98
returns-then-b-lt98 c = rw (← short-value c.args.b (search rules) (sym c.is_short.ensures ∙ c.if-not-is_short.false), lt-ltb c.args.b 98 c.if-b-lt98.true)

pub returns : goal.returns
returns c = rw (← short-value c.args.b (search rules) (sym c.is_short.ensures ∙ c.if-not-is_short.false), le-ltb c.args.b 98 c.if-b-lt98.false)

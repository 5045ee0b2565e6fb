-- `read_number` meets its contract: a first half of a pair, a second one, or a character of its own.
-- Assumes nothing.
use Rattle.std.proofs.Common.{sym, ◌∙◌}
use Rattle.decode_json.proofs.Told.{low-tells}
use Rattle.decode_json.proofs.escapes.read_number.Goals as goal

pub returns-then-is_low : goal.returns-then-is_low
returns-then-is_low c = low-tells c.args.rest.now c.args.n (sym c.is_low.ensures ∙ c.if-is_low.true)

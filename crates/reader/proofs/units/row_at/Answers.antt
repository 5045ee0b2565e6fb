-- `row_at` meets its contract: a byte with a backslash before it, or another row.
-- Assumes nothing.
use Rattle.decode_strings.proofs.Strings.{finds-slashed, finds-unslashed}
use Rattle.reader.proofs.units.row_at.Goals as goal

pub returns-in-Some : goal.returns-in-Some
returns-in-Some c = finds-slashed c.args.language c.args.quotes c.args.rest.now c.in-Some.ensures.finds

pub returns : goal.returns
returns c = finds-unslashed c.args.language c.args.quotes c.args.rest.now c.in_default.ensures.finds c.unslashed.ensures

-- `unslashed` meets its contract: the rows in hex come first, then the separators.
-- Assumes nothing.
use Rattle.decode_strings.specs.Strings.{hex_rows, separators}
use Rattle.decode_strings.proofs.Finding.{finds-first, finds-second}
use Rattle.decode_strings.proofs.rows.unslashed.Goals as goal

pub returns-in-Some : goal.returns-in-Some
returns-in-Some c = finds-first (hex_rows c.args.language) (separators c.args.language) c.in-Some.ensures

pub returns : goal.returns
returns c = finds-second (hex_rows c.args.language) (separators c.args.language) c.in_default.ensures c.separator.ensures

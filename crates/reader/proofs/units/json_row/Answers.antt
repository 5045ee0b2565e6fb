-- `json_row` meets its contract: a byte with a backslash before it, one in hex, or a separator.
-- Assumes nothing.
use Rattle.reader.proofs.JsonRows.{json-slashed, json-digits, json-rest}
use Rattle.reader.proofs.units.json_row.Goals as goal

pub returns-in-Some : goal.returns-in-Some
returns-in-Some c = json-slashed c.args.rest.now c.in-Some.ensures.finds

pub returns-in-Some-json_hex : goal.returns-in-Some-json_hex
returns-in-Some-json_hex c = json-digits c.args.rest.now c.in_default.ensures.finds c.in-Some-json_hex.ensures

pub returns : goal.returns
returns c = json-rest c.args.rest.now c.in_default.ensures.finds c.in_default-json_hex.ensures c.separator.ensures

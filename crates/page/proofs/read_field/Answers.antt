-- `read_field` meets its contract.
-- Assumes nothing.
use Rattle.page.proofs.Numbers.{field-read}
use Rattle.page.proofs.read_field.Goals as goal

pub returns : goal.returns
returns c = let a = c.args in field-read a.context a.numbers.now

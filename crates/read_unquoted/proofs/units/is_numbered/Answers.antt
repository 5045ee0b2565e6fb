-- `is_numbered` meets its contract: the two tests are those of the definition.
-- Assumes nothing.
use Rattle.std.proofs.Common.{sym, ◌∙◌, eqb-true}
use Rattle.read_unquoted.proofs.Digits.{both}
use Rattle.read_unquoted.proofs.units.is_numbered.Goals as goal

pub returns : goal.returns
returns c = λ z.
    let (other, same) = both _ _ z in
    (c.value_of-v.result, sym c.is_other.ensures ∙ other, eqb-true _ _ same ∙ c.hex_word.ensures)

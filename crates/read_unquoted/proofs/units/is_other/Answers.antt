-- `is_other` meets its contract: its tests are those of the definition.
-- Assumes nothing.
use Rattle.std.proofs.Common.{Bool, not, ◌&&◌, ◌||◌, eqb, ltb, sym, ap}
use mathlib.Core.Bool.{or-false}
use Rattle.rules.specs.Tables.{letter_or_digit}
use Rattle.read_unquoted.proofs.units.is_other.Goals as goal

pub returns : goal.returns
returns c =
    let v = c.args.v in
    rw c.is_letter_or_digit.ensures (ap (λ (e : Bool). ltb v 128 && not (letter_or_digit v || (eqb v 38 || (eqb v 60 || (eqb v 62 || e))))) (sym (or-false (eqb v 34))))

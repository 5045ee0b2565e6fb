-- `plain::is_special` meets its contract: its tests are the definition's, each denied.
-- Assumes nothing.
use mathlib.Core.Bool.{Bool, true, false, not, ◌&&◌, ◌||◌}
use mathlib.Core.Path.{◌≡◌, refl}
use lib.Dec.{eqb}
use Rattle.rules.specs.Bytes.{inside}
use Rattle.plain.specs.Plain.{plain}
use Rattle.plain.proofs.is_special.Goals as goal

pub returns-then-unquoted : goal.returns-then-unquoted
unfolding plain
returns-then-unquoted c = rw (c.if-unquoted.true, c.is_letter_or_digit.ensures)

denied : (w a b c d e f g : Bool) → (not w || a || b || c || d || e || f || g) ≡ not (w && not (a || (b || (c || (d || (e || (f || (g || false))))))))
denied false a b c d e f g = refl
denied true true b c d e f g = refl
denied true false true c d e f g = refl
denied true false false true d e f g = refl
denied true false false false true e f g = refl
denied true false false false false true f g = refl
denied true false false false false false true g = refl
denied true false false false false false false true = refl
denied true false false false false false false false = refl

pub returns : goal.returns
unfolding plain
returns c =
    let b = c.args.b in
    rw (c.if-unquoted.false, c.is_within.ensures) (denied (inside (32, 127) b) (eqb b 34) (eqb b 38) (eqb b 39) (eqb b 47) (eqb b 60) (eqb b 62) (eqb b 92))

-- `names_upper::upper_r` meets its contract: a name is looked up in the group of its second byte as it is in all of them.
-- Made by tools/make_names.py. Assumes nothing.
use mathlib.Core.Path.{◌∙◌}
use mathlib.Core.List.{◌∷◌}
use native.Mathlib.Omega.{arith}
use Rattle.rules.specs.Names.{upper-R}
use Rattle.names_search.proofs.Lookups.{in-part}
use Rattle.names_upper.proofs.upper_r.Goals as goal

pub returns-then-second-lt105 : goal.returns-then-second-lt105
returns-then-second-lt105 c = c.upper_r_1.ensures ∙ in-part 1 0x00 0x68 (0x52 ∷ c.args.rest.now) (omega (arith, c.byte_at-second.ensures)) (omega (arith, c.byte_at-second.ensures)) upper-R

pub returns : goal.returns
returns c = c.upper_r_2.ensures ∙ in-part 1 0x69 0xFF (0x52 ∷ c.args.rest.now) (omega (arith, c.byte_at-second.ensures)) (omega (arith, c.byte_at-second.ensures)) upper-R

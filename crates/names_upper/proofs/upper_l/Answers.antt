-- `names_upper::upper_l` meets its contract: a name is looked up in the group of its second byte as it is in all of them.
-- Made by tools/make_names.py. Assumes nothing.
use mathlib.Core.Path.{◌∙◌}
use mathlib.Core.List.{◌∷◌}
use native.Mathlib.Omega.{arith}
use Rattle.rules.specs.Names.{upper-L}
use Rattle.names_search.proofs.Lookups.{in-part}
use Rattle.names_upper.proofs.upper_l.Goals as goal

pub returns-then-second-lt101 : goal.returns-then-second-lt101
returns-then-second-lt101 c = c.upper_l_1.ensures ∙ in-part 1 0x00 0x64 (0x4C ∷ c.args.rest.now) (omega (arith, c.byte_at-second.ensures)) (omega (arith, c.byte_at-second.ensures)) upper-L

pub returns-then-second-lt102 : goal.returns-then-second-lt102
returns-then-second-lt102 c = c.upper_l_2.ensures ∙ in-part 1 0x65 0x65 (0x4C ∷ c.args.rest.now) (omega (arith, c.byte_at-second.ensures)) (omega (arith, c.byte_at-second.ensures)) upper-L

pub returns : goal.returns
returns c = c.upper_l_3.ensures ∙ in-part 1 0x66 0xFF (0x4C ∷ c.args.rest.now) (omega (arith, c.byte_at-second.ensures)) (omega (arith, c.byte_at-second.ensures)) upper-L

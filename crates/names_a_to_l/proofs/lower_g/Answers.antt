-- `names_a_to_l::lower_g` meets its contract: a name is looked up in the group of its second byte as it is in all of them.
-- Made by tools/make_names.py. Assumes nothing.
use mathlib.Core.Path.{◌∙◌}
use mathlib.Core.List.{◌∷◌}
use native.Mathlib.Omega.{arith}
use Rattle.rules.specs.Names.{lower-g}
use Rattle.names_search.proofs.Lookups.{in-part}
use Rattle.names_a_to_l.proofs.lower_g.Goals as goal

pub returns-then-second-lt110 : goal.returns-then-second-lt110
returns-then-second-lt110 c = c.lower_g_1.ensures ∙ in-part 1 0x00 0x6D (0x67 ∷ c.args.rest.now) (omega (arith, c.byte_at-second.ensures)) (omega (arith, c.byte_at-second.ensures)) lower-g

pub returns : goal.returns
returns c = c.lower_g_2.ensures ∙ in-part 1 0x6E 0xFF (0x67 ∷ c.args.rest.now) (omega (arith, c.byte_at-second.ensures)) (omega (arith, c.byte_at-second.ensures)) lower-g

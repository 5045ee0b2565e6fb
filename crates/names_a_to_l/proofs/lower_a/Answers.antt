-- `names_a_to_l::lower_a` meets its contract: a name is looked up in the group of its second byte as it is in all of them.
-- Made by tools/make_names.py. Assumes nothing.
use mathlib.Core.Path.{◌∙◌}
use mathlib.Core.List.{◌∷◌}
use native.Mathlib.Omega.{arith}
use Rattle.rules.specs.Names.{lower-a}
use Rattle.names_search.proofs.Lookups.{in-part}
use Rattle.names_a_to_l.proofs.lower_a.Goals as goal

pub returns-then-second-lt110 : goal.returns-then-second-lt110
returns-then-second-lt110 c = c.lower_a_1.ensures ∙ in-part 1 0x00 0x6D (0x61 ∷ c.args.rest.now) (omega (arith, c.byte_at-second.ensures)) (omega (arith, c.byte_at-second.ensures)) lower-a

pub returns-then-second-lt112 : goal.returns-then-second-lt112
returns-then-second-lt112 c = c.lower_a_2.ensures ∙ in-part 1 0x6E 0x6F (0x61 ∷ c.args.rest.now) (omega (arith, c.byte_at-second.ensures)) (omega (arith, c.byte_at-second.ensures)) lower-a

pub returns : goal.returns
returns c = c.lower_a_3.ensures ∙ in-part 1 0x70 0xFF (0x61 ∷ c.args.rest.now) (omega (arith, c.byte_at-second.ensures)) (omega (arith, c.byte_at-second.ensures)) lower-a

-- `names_m_to_z::lower_o` meets its contract: a name is looked up in the group of its second byte as it is in all of them.
-- Made by tools/make_names.py. Assumes nothing.
use mathlib.Core.Path.{◌∙◌}
use mathlib.Core.List.{◌∷◌}
use native.Mathlib.Omega.{arith}
use Rattle.rules.specs.Names.{lower-o}
use Rattle.names_search.proofs.Lookups.{in-part}
use Rattle.names_m_to_z.proofs.lower_o.Goals as goal

pub returns-then-second-lt112 : goal.returns-then-second-lt112
returns-then-second-lt112 c = c.lower_o_1.ensures ∙ in-part 1 0x00 0x6F (0x6F ∷ c.args.rest.now) (omega (arith, c.byte_at-second.ensures)) (omega (arith, c.byte_at-second.ensures)) lower-o

pub returns : goal.returns
returns c = c.lower_o_2.ensures ∙ in-part 1 0x70 0xFF (0x6F ∷ c.args.rest.now) (omega (arith, c.byte_at-second.ensures)) (omega (arith, c.byte_at-second.ensures)) lower-o

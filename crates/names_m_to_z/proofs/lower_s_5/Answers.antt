-- `names_m_to_z::lower_s_5` meets its contract: a name is looked up in the group of its fourth byte as it is in all of them.
-- Made by tools/make_names.py. Assumes nothing.
use mathlib.Core.Path.{◌∙◌}
use mathlib.Core.List.{◌∷◌}
use native.Mathlib.Omega.{arith}
use Rattle.rules.specs.Names.{lower-s}
use Rattle.names_search.specs.Having.{having}
use Rattle.names_search.proofs.Lookups.{in-part}
use Rattle.names_m_to_z.proofs.lower_s_5.Goals as goal

pub returns-then-fourth-lt101 : goal.returns-then-fourth-lt101
returns-then-fourth-lt101 c = c.lower_s_5_1.ensures ∙ in-part 3 0x00 0x64 (0x73 ∷ c.args.rest.now) (omega (arith, c.byte_at-fourth.ensures)) (omega (arith, c.byte_at-fourth.ensures)) (having 1 (0x75, 0x76) lower-s)

pub returns-then-fourth-lt115 : goal.returns-then-fourth-lt115
returns-then-fourth-lt115 c = c.lower_s_5_2.ensures ∙ in-part 3 0x65 0x72 (0x73 ∷ c.args.rest.now) (omega (arith, c.byte_at-fourth.ensures)) (omega (arith, c.byte_at-fourth.ensures)) (having 1 (0x75, 0x76) lower-s)

pub returns : goal.returns
returns c = c.lower_s_5_3.ensures ∙ in-part 3 0x73 0xFF (0x73 ∷ c.args.rest.now) (omega (arith, c.byte_at-fourth.ensures)) (omega (arith, c.byte_at-fourth.ensures)) (having 1 (0x75, 0x76) lower-s)

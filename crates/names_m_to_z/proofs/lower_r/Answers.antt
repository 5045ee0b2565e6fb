-- `names_m_to_z::lower_r` meets its contract: a name is looked up in the group of its second byte as it is in all of them.
-- Made by tools/make_names.py. Assumes nothing.
use mathlib.Core.Path.{◌∙◌}
use mathlib.Core.List.{◌∷◌}
use native.Mathlib.Omega.{arith}
use Rattle.rules.specs.Names.{lower-r}
use Rattle.names_search.proofs.Lookups.{in-part}
use Rattle.names_m_to_z.proofs.lower_r.Goals as goal

pub returns-then-second-lt98 : goal.returns-then-second-lt98
returns-then-second-lt98 c = c.lower_r_1.ensures ∙ in-part 1 0x00 0x61 (0x72 ∷ c.args.rest.now) (omega (arith, c.byte_at-second.ensures)) (omega (arith, c.byte_at-second.ensures)) lower-r

pub returns-then-second-lt105 : goal.returns-then-second-lt105
returns-then-second-lt105 c = c.lower_r_2.ensures ∙ in-part 1 0x62 0x68 (0x72 ∷ c.args.rest.now) (omega (arith, c.byte_at-second.ensures)) (omega (arith, c.byte_at-second.ensures)) lower-r

pub returns-then-second-lt115 : goal.returns-then-second-lt115
returns-then-second-lt115 c = c.lower_r_3.ensures ∙ in-part 1 0x69 0x72 (0x72 ∷ c.args.rest.now) (omega (arith, c.byte_at-second.ensures)) (omega (arith, c.byte_at-second.ensures)) lower-r

pub returns : goal.returns
returns c = c.lower_r_4.ensures ∙ in-part 1 0x73 0xFF (0x72 ∷ c.args.rest.now) (omega (arith, c.byte_at-second.ensures)) (omega (arith, c.byte_at-second.ensures)) lower-r

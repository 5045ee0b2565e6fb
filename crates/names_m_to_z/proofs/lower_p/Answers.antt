-- `names_m_to_z::lower_p` meets its contract: a name is looked up in the group of its second byte as it is in all of them.
-- Made by tools/make_names.py. Assumes nothing.
use mathlib.Core.Path.{◌∙◌}
use mathlib.Core.List.{◌∷◌}
use native.Mathlib.Omega.{arith}
use Rattle.rules.specs.Names.{lower-p}
use Rattle.names_search.proofs.Lookups.{in-part}
use Rattle.names_m_to_z.proofs.lower_p.Goals as goal

pub returns-then-second-lt108 : goal.returns-then-second-lt108
returns-then-second-lt108 c = c.lower_p_1.ensures ∙ in-part 1 0x00 0x6B (0x70 ∷ c.args.rest.now) (omega (arith, c.byte_at-second.ensures)) (omega (arith, c.byte_at-second.ensures)) lower-p

pub returns-then-second-lt114 : goal.returns-then-second-lt114
returns-then-second-lt114 c = c.lower_p_2.ensures ∙ in-part 1 0x6C 0x71 (0x70 ∷ c.args.rest.now) (omega (arith, c.byte_at-second.ensures)) (omega (arith, c.byte_at-second.ensures)) lower-p

pub returns : goal.returns
returns c = c.lower_p_3.ensures ∙ in-part 1 0x72 0xFF (0x70 ∷ c.args.rest.now) (omega (arith, c.byte_at-second.ensures)) (omega (arith, c.byte_at-second.ensures)) lower-p

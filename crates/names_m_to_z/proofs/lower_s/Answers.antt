-- `names_m_to_z::lower_s` meets its contract: a name is looked up in the group of its second byte as it is in all of them.
-- Made by tools/make_names.py. Assumes nothing.
use mathlib.Core.Path.{◌∙◌}
use mathlib.Core.List.{◌∷◌}
use native.Mathlib.Omega.{arith}
use Rattle.rules.specs.Names.{lower-s}
use Rattle.names_search.proofs.Lookups.{in-part}
use Rattle.names_m_to_z.proofs.lower_s.Goals as goal

pub returns-then-second-lt104 : goal.returns-then-second-lt104
returns-then-second-lt104 c = c.lower_s_1.ensures ∙ in-part 1 0x00 0x67 (0x73 ∷ c.args.rest.now) (omega (arith, c.byte_at-second.ensures)) (omega (arith, c.byte_at-second.ensures)) lower-s

pub returns-then-second-lt111 : goal.returns-then-second-lt111
returns-then-second-lt111 c = c.lower_s_2.ensures ∙ in-part 1 0x68 0x6E (0x73 ∷ c.args.rest.now) (omega (arith, c.byte_at-second.ensures)) (omega (arith, c.byte_at-second.ensures)) lower-s

pub returns-then-second-lt116 : goal.returns-then-second-lt116
returns-then-second-lt116 c = c.lower_s_3.ensures ∙ in-part 1 0x6F 0x73 (0x73 ∷ c.args.rest.now) (omega (arith, c.byte_at-second.ensures)) (omega (arith, c.byte_at-second.ensures)) lower-s

pub returns-then-second-lt117 : goal.returns-then-second-lt117
returns-then-second-lt117 c = c.lower_s_4.ensures ∙ in-part 1 0x74 0x74 (0x73 ∷ c.args.rest.now) (omega (arith, c.byte_at-second.ensures)) (omega (arith, c.byte_at-second.ensures)) lower-s

pub returns-then-second-lt119 : goal.returns-then-second-lt119
returns-then-second-lt119 c = c.lower_s_5.ensures ∙ in-part 1 0x75 0x76 (0x73 ∷ c.args.rest.now) (omega (arith, c.byte_at-second.ensures)) (omega (arith, c.byte_at-second.ensures)) lower-s

pub returns : goal.returns
returns c = c.lower_s_6.ensures ∙ in-part 1 0x77 0xFF (0x73 ∷ c.args.rest.now) (omega (arith, c.byte_at-second.ensures)) (omega (arith, c.byte_at-second.ensures)) lower-s

-- `names_a_to_l::lower_l` meets its contract: a name is looked up in the group of its second byte as it is in all of them.
-- Made by tools/make_names.py. Assumes nothing.
use mathlib.Core.Path.{◌∙◌}
use mathlib.Core.List.{◌∷◌}
use native.Mathlib.Omega.{arith}
use Rattle.rules.specs.Names.{lower-l}
use Rattle.names_search.proofs.Lookups.{in-part}
use Rattle.names_a_to_l.proofs.lower_l.Goals as goal

pub returns-then-second-lt98 : goal.returns-then-second-lt98
returns-then-second-lt98 c = c.lower_l_1.ensures ∙ in-part 1 0x00 0x61 (0x6C ∷ c.args.rest.now) (omega (arith, c.byte_at-second.ensures)) (omega (arith, c.byte_at-second.ensures)) lower-l

pub returns-then-second-lt101 : goal.returns-then-second-lt101
returns-then-second-lt101 c = c.lower_l_2.ensures ∙ in-part 1 0x62 0x64 (0x6C ∷ c.args.rest.now) (omega (arith, c.byte_at-second.ensures)) (omega (arith, c.byte_at-second.ensures)) lower-l

pub returns-then-second-lt103 : goal.returns-then-second-lt103
returns-then-second-lt103 c = c.lower_l_3.ensures ∙ in-part 1 0x65 0x66 (0x6C ∷ c.args.rest.now) (omega (arith, c.byte_at-second.ensures)) (omega (arith, c.byte_at-second.ensures)) lower-l

pub returns-then-second-lt111 : goal.returns-then-second-lt111
returns-then-second-lt111 c = c.lower_l_4.ensures ∙ in-part 1 0x67 0x6E (0x6C ∷ c.args.rest.now) (omega (arith, c.byte_at-second.ensures)) (omega (arith, c.byte_at-second.ensures)) lower-l

pub returns-then-second-lt115 : goal.returns-then-second-lt115
returns-then-second-lt115 c = c.lower_l_5.ensures ∙ in-part 1 0x6F 0x72 (0x6C ∷ c.args.rest.now) (omega (arith, c.byte_at-second.ensures)) (omega (arith, c.byte_at-second.ensures)) lower-l

pub returns : goal.returns
returns c = c.lower_l_6.ensures ∙ in-part 1 0x73 0xFF (0x6C ∷ c.args.rest.now) (omega (arith, c.byte_at-second.ensures)) (omega (arith, c.byte_at-second.ensures)) lower-l

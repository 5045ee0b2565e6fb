-- `names_a_to_l::lower_b` meets its contract: a name is looked up in the group of its second byte as it is in all of them.
-- Made by tools/make_names.py. Assumes nothing.
use mathlib.Core.Path.{◌∙◌}
use mathlib.Core.List.{◌∷◌}
use native.Mathlib.Omega.{arith}
use Rattle.rules.specs.Names.{lower-b}
use Rattle.names_search.proofs.Lookups.{in-part}
use Rattle.names_a_to_l.proofs.lower_b.Goals as goal

pub returns-then-second-lt105 : goal.returns-then-second-lt105
returns-then-second-lt105 c = c.lower_b_1.ensures ∙ in-part 1 0x00 0x68 (0x62 ∷ c.args.rest.now) (omega (arith, c.byte_at-second.ensures)) (omega (arith, c.byte_at-second.ensures)) lower-b

pub returns-then-second-lt111 : goal.returns-then-second-lt111
returns-then-second-lt111 c = c.lower_b_2.ensures ∙ in-part 1 0x69 0x6E (0x62 ∷ c.args.rest.now) (omega (arith, c.byte_at-second.ensures)) (omega (arith, c.byte_at-second.ensures)) lower-b

pub returns-then-second-lt112 : goal.returns-then-second-lt112
returns-then-second-lt112 c = c.lower_b_3.ensures ∙ in-part 1 0x6F 0x6F (0x62 ∷ c.args.rest.now) (omega (arith, c.byte_at-second.ensures)) (omega (arith, c.byte_at-second.ensures)) lower-b

pub returns : goal.returns
returns c = c.lower_b_4.ensures ∙ in-part 1 0x70 0xFF (0x62 ∷ c.args.rest.now) (omega (arith, c.byte_at-second.ensures)) (omega (arith, c.byte_at-second.ensures)) lower-b

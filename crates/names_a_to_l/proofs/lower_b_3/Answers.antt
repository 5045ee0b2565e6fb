-- `names_a_to_l::lower_b_3` meets its contract: a name is looked up in the group of its fourth byte as it is in all of them.
-- Made by tools/make_names.py. Assumes nothing.
use mathlib.Core.Path.{◌∙◌}
use mathlib.Core.List.{◌∷◌}
use native.Mathlib.Omega.{arith}
use Rattle.rules.specs.Names.{lower-b}
use Rattle.names_search.specs.Having.{having}
use Rattle.names_search.proofs.Lookups.{in-part}
use Rattle.names_a_to_l.proofs.lower_b_3.Goals as goal

pub returns-then-fourth-lt86 : goal.returns-then-fourth-lt86
returns-then-fourth-lt86 c = c.lower_b_3_1.ensures ∙ in-part 3 0x00 0x55 (0x62 ∷ c.args.rest.now) (omega (arith, c.byte_at-fourth.ensures)) (omega (arith, c.byte_at-fourth.ensures)) (having 1 (0x6F, 0x6F) lower-b)

pub returns-then-fourth-lt116 : goal.returns-then-fourth-lt116
returns-then-fourth-lt116 c = c.lower_b_3_2.ensures ∙ in-part 3 0x56 0x73 (0x62 ∷ c.args.rest.now) (omega (arith, c.byte_at-fourth.ensures)) (omega (arith, c.byte_at-fourth.ensures)) (having 1 (0x6F, 0x6F) lower-b)

pub returns : goal.returns
returns c = c.lower_b_3_3.ensures ∙ in-part 3 0x74 0xFF (0x62 ∷ c.args.rest.now) (omega (arith, c.byte_at-fourth.ensures)) (omega (arith, c.byte_at-fourth.ensures)) (having 1 (0x6F, 0x6F) lower-b)

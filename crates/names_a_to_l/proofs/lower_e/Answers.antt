-- `names_a_to_l::lower_e` meets its contract: a name is looked up in the group of its second byte as it is in all of them.
-- Made by tools/make_names.py. Assumes nothing.
use mathlib.Core.Path.{◌∙◌}
use mathlib.Core.List.{◌∷◌}
use native.Mathlib.Omega.{arith}
use Rattle.rules.specs.Names.{lower-e}
use Rattle.names_search.proofs.Lookups.{in-part}
use Rattle.names_a_to_l.proofs.lower_e.Goals as goal

pub returns-then-second-lt111 : goal.returns-then-second-lt111
returns-then-second-lt111 c = c.lower_e_1.ensures ∙ in-part 1 0x00 0x6E (0x65 ∷ c.args.rest.now) (omega (arith, c.byte_at-second.ensures)) (omega (arith, c.byte_at-second.ensures)) lower-e

pub returns : goal.returns
returns c = c.lower_e_2.ensures ∙ in-part 1 0x6F 0xFF (0x65 ∷ c.args.rest.now) (omega (arith, c.byte_at-second.ensures)) (omega (arith, c.byte_at-second.ensures)) lower-e

-- `names_a_to_l::lower_f` meets its contract: a name is looked up in the group of its second byte as it is in all of them.
-- Made by tools/make_names.py. Assumes nothing.
use mathlib.Core.Path.{◌∙◌}
use mathlib.Core.List.{◌∷◌}
use native.Mathlib.Omega.{arith}
use Rattle.rules.specs.Names.{lower-f}
use Rattle.names_search.proofs.Lookups.{in-part}
use Rattle.names_a_to_l.proofs.lower_f.Goals as goal

pub returns-then-second-lt114 : goal.returns-then-second-lt114
returns-then-second-lt114 c = c.lower_f_1.ensures ∙ in-part 1 0x00 0x71 (0x66 ∷ c.args.rest.now) (omega (arith, c.byte_at-second.ensures)) (omega (arith, c.byte_at-second.ensures)) lower-f

pub returns : goal.returns
returns c = c.lower_f_2.ensures ∙ in-part 1 0x72 0xFF (0x66 ∷ c.args.rest.now) (omega (arith, c.byte_at-second.ensures)) (omega (arith, c.byte_at-second.ensures)) lower-f

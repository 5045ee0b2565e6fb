-- `names_a_to_l::lower_d` meets its contract: a name is looked up in the group of its second byte as it is in all of them.
-- Made by tools/make_names.py. Assumes nothing.
use mathlib.Core.Path.{◌∙◌}
use mathlib.Core.List.{◌∷◌}
use native.Mathlib.Omega.{arith}
use Rattle.rules.specs.Names.{lower-d}
use Rattle.names_search.proofs.Lookups.{in-part}
use Rattle.names_a_to_l.proofs.lower_d.Goals as goal

pub returns-then-second-lt105 : goal.returns-then-second-lt105
returns-then-second-lt105 c = c.lower_d_1.ensures ∙ in-part 1 0x00 0x68 (0x64 ∷ c.args.rest.now) (omega (arith, c.byte_at-second.ensures)) (omega (arith, c.byte_at-second.ensures)) lower-d

pub returns-then-second-lt115 : goal.returns-then-second-lt115
returns-then-second-lt115 c = c.lower_d_2.ensures ∙ in-part 1 0x69 0x72 (0x64 ∷ c.args.rest.now) (omega (arith, c.byte_at-second.ensures)) (omega (arith, c.byte_at-second.ensures)) lower-d

pub returns : goal.returns
returns c = c.lower_d_3.ensures ∙ in-part 1 0x73 0xFF (0x64 ∷ c.args.rest.now) (omega (arith, c.byte_at-second.ensures)) (omega (arith, c.byte_at-second.ensures)) lower-d

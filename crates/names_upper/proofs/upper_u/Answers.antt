-- `names_upper::upper_u` meets its contract: a name is looked up in the group of its second byte as it is in all of them.
-- Made by tools/make_names.py. Assumes nothing.
use mathlib.Core.Path.{◌∙◌}
use mathlib.Core.List.{◌∷◌}
use native.Mathlib.Omega.{arith}
use Rattle.rules.specs.Names.{upper-U}
use Rattle.names_search.proofs.Lookups.{in-part}
use Rattle.names_upper.proofs.upper_u.Goals as goal

pub returns-then-second-lt114 : goal.returns-then-second-lt114
returns-then-second-lt114 c = c.upper_u_1.ensures ∙ in-part 1 0x00 0x71 (0x55 ∷ c.args.rest.now) (omega (arith, c.byte_at-second.ensures)) (omega (arith, c.byte_at-second.ensures)) upper-U

pub returns : goal.returns
returns c = c.upper_u_2.ensures ∙ in-part 1 0x72 0xFF (0x55 ∷ c.args.rest.now) (omega (arith, c.byte_at-second.ensures)) (omega (arith, c.byte_at-second.ensures)) upper-U

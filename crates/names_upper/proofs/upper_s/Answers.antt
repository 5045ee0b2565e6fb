-- `names_upper::upper_s` meets its contract: a name is looked up in the group of its second byte as it is in all of them.
-- Made by tools/make_names.py. Assumes nothing.
use mathlib.Core.Path.{◌∙◌}
use mathlib.Core.List.{◌∷◌}
use native.Mathlib.Omega.{arith}
use Rattle.rules.specs.Names.{upper-S}
use Rattle.names_search.proofs.Lookups.{in-part}
use Rattle.names_upper.proofs.upper_s.Goals as goal

pub returns-then-second-lt117 : goal.returns-then-second-lt117
returns-then-second-lt117 c = c.upper_s_1.ensures ∙ in-part 1 0x00 0x74 (0x53 ∷ c.args.rest.now) (omega (arith, c.byte_at-second.ensures)) (omega (arith, c.byte_at-second.ensures)) upper-S

pub returns : goal.returns
returns c = c.upper_s_2.ensures ∙ in-part 1 0x75 0xFF (0x53 ∷ c.args.rest.now) (omega (arith, c.byte_at-second.ensures)) (omega (arith, c.byte_at-second.ensures)) upper-S

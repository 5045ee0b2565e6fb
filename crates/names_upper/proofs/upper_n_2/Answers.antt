-- `names_upper::upper_n_2` meets its contract: a name is looked up in the group of its fourth byte as it is in all of them.
-- Made by tools/make_names.py. Assumes nothing.
use mathlib.Core.Path.{◌∙◌}
use mathlib.Core.List.{◌∷◌}
use native.Mathlib.Omega.{arith}
use Rattle.rules.specs.Names.{upper-N}
use Rattle.names_search.specs.Having.{having}
use Rattle.names_search.proofs.Lookups.{in-part}
use Rattle.names_upper.proofs.upper_n_2.Goals as goal

pub returns-then-fourth-lt76 : goal.returns-then-fourth-lt76
returns-then-fourth-lt76 c = c.upper_n_2_1.ensures ∙ in-part 3 0x00 0x4B (0x4E ∷ c.args.rest.now) (omega (arith, c.byte_at-fourth.ensures)) (omega (arith, c.byte_at-fourth.ensures)) (having 1 (0x6F, 0x72) upper-N)

pub returns-then-fourth-lt83 : goal.returns-then-fourth-lt83
returns-then-fourth-lt83 c = c.upper_n_2_2.ensures ∙ in-part 3 0x4C 0x52 (0x4E ∷ c.args.rest.now) (omega (arith, c.byte_at-fourth.ensures)) (omega (arith, c.byte_at-fourth.ensures)) (having 1 (0x6F, 0x72) upper-N)

pub returns : goal.returns
returns c = c.upper_n_2_3.ensures ∙ in-part 3 0x53 0xFF (0x4E ∷ c.args.rest.now) (omega (arith, c.byte_at-fourth.ensures)) (omega (arith, c.byte_at-fourth.ensures)) (having 1 (0x6F, 0x72) upper-N)

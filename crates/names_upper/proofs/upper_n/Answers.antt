-- `names_upper::upper_n` meets its contract: a name is looked up in the group of its second byte as it is in all of them.
-- Made by tools/make_names.py. Assumes nothing.
use mathlib.Core.Path.{◌∙◌}
use mathlib.Core.List.{◌∷◌}
use native.Mathlib.Omega.{arith}
use Rattle.rules.specs.Names.{upper-N}
use Rattle.names_search.proofs.Lookups.{in-part}
use Rattle.names_upper.proofs.upper_n.Goals as goal

pub returns-then-second-lt111 : goal.returns-then-second-lt111
returns-then-second-lt111 c = c.upper_n_1.ensures ∙ in-part 1 0x00 0x6E (0x4E ∷ c.args.rest.now) (omega (arith, c.byte_at-second.ensures)) (omega (arith, c.byte_at-second.ensures)) upper-N

pub returns-then-second-lt115 : goal.returns-then-second-lt115
returns-then-second-lt115 c = c.upper_n_2.ensures ∙ in-part 1 0x6F 0x72 (0x4E ∷ c.args.rest.now) (omega (arith, c.byte_at-second.ensures)) (omega (arith, c.byte_at-second.ensures)) upper-N

pub returns : goal.returns
returns c = c.upper_n_3.ensures ∙ in-part 1 0x73 0xFF (0x4E ∷ c.args.rest.now) (omega (arith, c.byte_at-second.ensures)) (omega (arith, c.byte_at-second.ensures)) upper-N

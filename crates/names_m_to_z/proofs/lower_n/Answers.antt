-- `names_m_to_z::lower_n` meets its contract: a name is looked up in the group of its second byte as it is in all of them.
-- Made by tools/make_names.py. Assumes nothing.
use mathlib.Core.Path.{◌∙◌}
use mathlib.Core.List.{◌∷◌}
use native.Mathlib.Omega.{arith}
use Rattle.rules.specs.Names.{lower-n}
use Rattle.names_search.proofs.Lookups.{in-part}
use Rattle.names_m_to_z.proofs.lower_n.Goals as goal

pub returns-then-second-lt100 : goal.returns-then-second-lt100
returns-then-second-lt100 c = c.lower_n_1.ensures ∙ in-part 1 0x00 0x63 (0x6E ∷ c.args.rest.now) (omega (arith, c.byte_at-second.ensures)) (omega (arith, c.byte_at-second.ensures)) lower-n

pub returns-then-second-lt108 : goal.returns-then-second-lt108
returns-then-second-lt108 c = c.lower_n_2.ensures ∙ in-part 1 0x64 0x6B (0x6E ∷ c.args.rest.now) (omega (arith, c.byte_at-second.ensures)) (omega (arith, c.byte_at-second.ensures)) lower-n

pub returns-then-second-lt112 : goal.returns-then-second-lt112
returns-then-second-lt112 c = c.lower_n_3.ensures ∙ in-part 1 0x6C 0x6F (0x6E ∷ c.args.rest.now) (omega (arith, c.byte_at-second.ensures)) (omega (arith, c.byte_at-second.ensures)) lower-n

pub returns-then-second-lt115 : goal.returns-then-second-lt115
returns-then-second-lt115 c = c.lower_n_4.ensures ∙ in-part 1 0x70 0x72 (0x6E ∷ c.args.rest.now) (omega (arith, c.byte_at-second.ensures)) (omega (arith, c.byte_at-second.ensures)) lower-n

pub returns-then-second-lt116 : goal.returns-then-second-lt116
returns-then-second-lt116 c = c.lower_n_5.ensures ∙ in-part 1 0x73 0x73 (0x6E ∷ c.args.rest.now) (omega (arith, c.byte_at-second.ensures)) (omega (arith, c.byte_at-second.ensures)) lower-n

pub returns : goal.returns
returns c = c.lower_n_6.ensures ∙ in-part 1 0x74 0xFF (0x6E ∷ c.args.rest.now) (omega (arith, c.byte_at-second.ensures)) (omega (arith, c.byte_at-second.ensures)) lower-n

-- `read_unit` meets its contract: each context by its kind; ascii_quoted, which has a rule beside its table, is none of them.
-- Assumes nothing.
-- The rule writes a reference for é.
use mathlib.Core.Option.{some-ne-none}
use mathlib.Core.List.{[], ◌∷◌}
use Rattle.rules.specs.declared.Context.TheVariants.{InAscii}
use Rattle.reader.specs.Units.{Ruleless}
use Rattle.reader.proofs.units.read_unit.Goals as goal

unruled : Ruleless InAscii → ⊥
unruled none = some-ne-none _ (none (0xC3 ∷ 0xA9 ∷ []))

pub returns-in-InAscii : goal.returns-in-InAscii
returns-in-InAscii c = absurd (unruled (rw c.in-InAscii.is at c.requires.2))

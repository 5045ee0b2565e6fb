-- `bytes_after` meets its contract: near the end byte by byte, and else as they stand.
-- Assumes nothing.
use mathlib.Core.List.{[], ◌∷◌}
use Rattle.read_strings.proofs.units.bytes_after.Goals as goal

pub returns-then-text-at-lt6 : goal.returns-then-text-at-lt6
returns-then-text-at-lt6 c = λ j. c.byte_at.ensures j ∷ c.byte_at-then-text-at-lt6.ensures j ∷ c.byte_at-then-text-at-lt6-2.ensures j ∷ c.byte_at-then-text-at-lt6-3.ensures j ∷ c.byte_at-then-text-at-lt6-4.ensures j ∷ []

-- `put_step` meets its contract: the byte that is written is that of the definition.
-- Assumes nothing.
use mathlib.Core.List.{◌∷◌}
use mathlib.Core.Path.{ap, ◌∙◌}
use Prim.Native.Nat.{ℕ}
use lib.ListN.{drop}
use Rattle.read_units.proofs.units.put_step.Goals as goal

pub returns : goal.returns
returns c = (c.put.ensures.0, c.put.ensures.1 ∙ ap (λ (b : ℕ). b ∷ drop 1 c.args.output.now) c.step_char-character.ensures)

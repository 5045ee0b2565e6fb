-- `put_char` meets its contract: the byte that is written is the character of the definition.
-- Assumes nothing.
use mathlib.Core.List.{◌∷◌}
use mathlib.Core.Path.{ap, ◌∙◌}
use Prim.Native.Nat.{ℕ, ◌+◌}
use lib.ListN.{drop, get_or}
use Rattle.read_units.specs.Units.{char_of}
use Rattle.read_units.proofs.units.put_char.Goals as goal

pub returns : goal.returns
returns c =
    let a = c.args in
    let t = a.text.now in
    (c.put.ensures.0, c.put.ensures.1 ∙ ap (λ (b : ℕ). b ∷ drop 1 a.output.now) (c.char_of-character.ensures ∙ ap (char_of (get_or t (a.at + 1) 0) (get_or t (a.at + 3) 0)) c.byte_at.ensures))

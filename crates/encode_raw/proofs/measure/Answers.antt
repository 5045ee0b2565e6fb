-- `encode_raw::measure` meets its contract: there are as many moves as bytes, so that the moves of all bytes are all moves.
-- Assumes nothing.
use mathlib.Core.Path.{refl, ap, ◌∙◌}
use mathlib.Core.List.{List}
use lib.ListN.{length}
use Rattle.rules.specs.Moves.{Move, result}
use Rattle.encode_raw.proofs.Cuts.{whole-moves}
use Rattle.encode_raw.proofs.measure.Goals as goal

pub returns : goal.returns
returns c =
    let t = c.args.text.now in
    c.measure_to.ensures ∙ ap (λ (ms : List Move). length (result ms)) (whole-moves t (length t) refl)

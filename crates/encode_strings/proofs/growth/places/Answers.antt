-- `encode_strings::growth::places` meets its contract: in every notation it computes what `places_by` says.
-- Assumes nothing.
use mathlib.Core.Path.{refl, sym, ◌∙◌}
use native.Mathlib.Omega.{arith}
use Rattle.encode_strings.proofs.growth.places.Goals as goal

pub overflow_sub-result : goal.overflow_sub-result
overflow_sub-result c =
    let most = c.requires.0 (sym c.separates.ensures ∙ c.if-separates.true) in
    omega (arith, c.hex_growth.ensures.0, most)

pub returns-then-separates : goal.returns-then-separates
returns-then-separates c = rw (sym c.separates.ensures ∙ c.if-separates.true, c.hex_growth.ensures.0) refl

pub returns : goal.returns
returns c = rw (sym c.separates.ensures ∙ c.if-separates.false) refl

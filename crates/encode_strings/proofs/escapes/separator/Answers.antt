-- `encode_strings::escapes::separator` meets its contract: in a script `separator_at` decides, and a style string keeps E2.
-- Assumes nothing.
-- src/escapes.rt:56:8
-- src/escapes.rt:57:9
-- src/escapes.rt:57:9
use Rattle.encode_strings.proofs.Finds.{found-style}
use mathlib.Core.Path.{sym, ◌∙◌}
use Rattle.encode_strings.proofs.escapes.separator.Goals as goal

pub returns-then-separates : goal.returns-then-separates
returns-then-separates c = (c.separator_at.ensures.0 c.args.notation (sym c.separates.ensures ∙ c.if-separates.true), c.separator_at.ensures.1)

-- src/escapes.rt:52:1

pub returns : goal.returns
returns c =
    let c₀ = c in
    (λ q. found-style c₀.args.notation q c₀.args.rest.now (sym c.separates.ensures ∙ c.if-separates.false) c₀.requires.0 c₀.requires.1, c₀.requires.0)

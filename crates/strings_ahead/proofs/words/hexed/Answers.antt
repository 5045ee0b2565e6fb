-- `hexed` meets its contract: by the notation, and in a style string by the test for NUL.
-- Assumes nothing.
use mathlib.Core.Path.{sym, ◌∙◌}
use Rattle.strings_ahead.proofs.Spelt.{hexed-digits, hexed-nul, hexed-style}
use Rattle.strings_ahead.proofs.words.hexed.Goals as goal

pub returns-then-separates : goal.returns-then-separates
returns-then-separates c =
    let a = c.args in
    c.hex.ensures ∙ hexed-digits a.notation a.b (sym c.separates.ensures ∙ c.if-separates.true)

pub returns-then-b-eq0 : goal.returns-then-b-eq0
returns-then-b-eq0 c = rw c.if-b-eq0.true (hexed-nul c.args.notation (sym c.separates.ensures ∙ c.if-separates.false))

pub returns : goal.returns
returns c =
    let a = c.args in
    c.hex-2.ensures ∙ hexed-style a.notation a.b (sym c.separates.ensures ∙ c.if-separates.false) c.if-b-eq0.false

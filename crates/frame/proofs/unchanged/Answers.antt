-- `unchanged` meets its contract: what has been tested settles the row of the table (Rows), since the result is the text itself.
-- Assumes nothing.
use mathlib.Core.Path.{◌∙◌}
use Rattle.frame.proofs.Rows.{same-lent, same-room, same-written}
use Rattle.frame.proofs.unchanged.Goals as goal

pub returns-then-borrows : goal.returns-then-borrows
returns-then-borrows c =
    λ rule s. let a = c.args in
    let l = same-lent rule a.borrows a.text.now a.output.now s c.if-borrows.true in
    (c.passed.ensures ∙ l.0, l.1)

pub returns-then-output-text : goal.returns-then-output-text
returns-then-output-text c =
    λ rule s. let a = c.args in
    same-room rule a.borrows a.text.now a.output.now s c.if-borrows.false c.if-output-text.true

pub returns : goal.returns
returns c =
    λ rule s. let a = c.args in
    let l = same-written rule a.borrows a.text.now a.output.now s c.if-borrows.false c.if-output-text.false in
    (c.passed-2.ensures ∙ l.0, c.put_run.ensures.1 ∙ l.1)

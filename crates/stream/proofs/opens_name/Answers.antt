-- `opens_name` meets its contract: what is left of the bytes opens what is left of the name exactly if all of them open all of it.
-- Assumes nothing.
use mathlib.Core.Path.{sym, ◌∙◌}
use Rattle.stream.proofs.Opened.{name-on, name-off, name-past, name-within}
use Rattle.stream.proofs.opens_name.Goals as goal

pub returns-then-name-i : goal.returns-then-name-i
returns-then-name-i c =
    let a = c.args in
    sym (c.loop-i.invariant ∙ name-past a.name.now a.rest.now c.loop-i.i c.if-name-i.true c.loop-i-test.true)

pub returns-then-not-is_either_case : goal.returns-then-not-is_either_case
returns-then-not-is_either_case c =
    let a = c.args in
    sym (c.loop-i.invariant ∙ name-off a.name.now a.rest.now c.loop-i.i c.if-name-i.false c.loop-i-test.true (sym c.is_either_case.ensures ∙ c.if-not-is_either_case.true))

pub loop-i-preserved : goal.loop-i-preserved
loop-i-preserved c =
    let a = c.args in
    c.loop-i.invariant ∙ name-on a.name.now a.rest.now c.loop-i.i c.if-name-i.false c.loop-i-test.true (sym c.is_either_case.ensures ∙ c.if-not-is_either_case.false)

pub returns : goal.returns
returns c =
    let a = c.args in
    sym (c.loop-i.invariant ∙ name-within a.name.now a.rest.now c.loop-i.i c.loop-i-test.false)

-- `html_unit` meets its contract: what is found is one of the context's units exactly if its character is in the set.
-- Assumes nothing.
use Rattle.std.proofs.Common.{sym, ◌∙◌, drop}
use Rattle.base.proofs.Filled.{lent-rest}
use Rattle.reader.proofs.Narrow.{html-kept, html-dropped, html-neither}
use Rattle.reader.proofs.units.html_unit.Goals as goal

pub returns-in_err-unit : goal.returns-in_err-unit
returns-in_err-unit c = rw c.from_residual.ensures (html-neither c.args.h (drop c.args.at c.args.text.now) (rw lent-rest at c.in_err-unit.ensures.finds))

pub returns-then-not-is_in : goal.returns-then-not-is_in
returns-then-not-is_in c =
    let a = c.args in
    html-dropped a.h (drop a.at a.text.now) a.set.now c.requires.0 c.in_ok-unit.unit c.in_ok-unit.ensures.ascii (sym c.is_in.ensures ∙ c.if-not-is_in.true)
    (rw lent-rest at c.in_ok-unit.ensures.finds)

pub returns : goal.returns
returns c =
    let a = c.args in
    html-kept a.h (drop a.at a.text.now) a.set.now c.requires.0 c.in_ok-unit.unit c.in_ok-unit.ensures.ascii (sym c.is_in.ensures ∙ c.if-not-is_in.false)
    (rw lent-rest at c.in_ok-unit.ensures.finds)

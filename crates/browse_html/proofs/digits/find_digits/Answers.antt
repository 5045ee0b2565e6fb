-- `browse_html::digits::find_digits` meets its contract: without a digit there is no reference; else it ends behind its digits or its `;`.
-- Assumes nothing.
use native.Mathlib.Omega.{arith}
use Rattle.rules.specs.declared.DecodedEntityValue.TheVariants.{Character}
use mathlib.Core.Path.{refl}
use Rattle.base.proofs.Filled.{lent-rest}
use Rattle.browse_html.proofs.Readings.{keeps_none, gives-row}
use Rattle.browse_html.proofs.Runs.{counts-none, counts-row, counts_end}
use Rattle.browse_html.proofs.digits.find_digits.Goals as goal

pub returns-then-run-eq0 : goal.returns-then-run-eq0
returns-then-run-eq0 c =
    let a = c.args in
    let t = a.text.now in
    let o = c.requires in
    let run = rw (lent-rest a.from t) at c.read_run-run.ensures in
    λ kind. keeps_none kind t a.start (omega (arith, o.2, o.3)) o.0 (counts-none kind a.base t a.start a.from _ _ o.2 o.3 (o.4 kind) run c.if-run-eq0.true)

pub returns : goal.returns
returns c =
    let a = c.args in
    let t = a.text.now in
    let o = c.requires in
    let run = rw (lent-rest a.from t) at c.read_run-run.ensures in
    let b = c.browsed-character in
    λ kind. gives-row kind t a.start (omega (arith, o.2, o.3)) o.0 _
    (counts-row kind a.base t a.start a.from _ _ o.2 o.3 (o.4 kind) run c.if-run-eq0.false b.result b.ensures.0)
    (Character b.result) refl b.ensures.1 c.past_end.result
    (counts_end kind a.base t a.start a.from _ _ o.2 o.3 (o.4 kind) run c.past_end.result c.past_end.ensures)

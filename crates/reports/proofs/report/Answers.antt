-- `report` meets its contract: no reference stays, or the line of the first that does, and what comes after its `&`.
-- Assumes nothing.
use mathlib.Core.Path.{refl, ap, ◌∙◌}
use mathlib.Core.List.{List}
use Prim.Native.Nat.{ℕ}
use native.Mathlib.Omega.{arith}
use lib.ListN.{length}
use Rattle.rules.specs.Bytes.{over}
use Rattle.reports.specs.Lines.{line_of}
use Rattle.reports.proofs.Lines.{none_left, one_left}
use Rattle.reports.proofs.report.Goals as goal

pub returns-in_err-left : goal.returns-in_err-left
returns-in_err-left c = rw c.from_residual.ensures ((none_left c.args.text.now c.args.output.now c.args.from c.in_err-left.ensures).0, refl)

pub overflow_add-result : goal.overflow_add-result
overflow_add-result c = omega (arith, c.in_ok-left.ensures.1)

pub returns : goal.returns
returns c =
    let a = c.args in
    let p = c.put_line in
    let l = c.in_ok-left in
    let n = c.from.ensures in
    one_left a.text.now a.output.now p.new.output a.from p.result l.left l.ensures
    (p.ensures.0 ∙ ap (λ (r : ℕ). length (line_of l.left.place r)) n) (p.ensures.1 ∙ ap (λ (r : ℕ). over (line_of l.left.place r) a.output.now) n)

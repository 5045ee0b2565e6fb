-- `refuse` meets its contract: nothing where the status is 0, else its line.
-- Assumes nothing.
use mathlib.Core.Path.{refl, sym, ap, ◌∙◌}
use mathlib.Core.List.{List}
use Prim.Native.Nat.{ℕ}
use native.Mathlib.Omega.{arith}
use lib.ListN.{length}
use Rattle.rules.specs.Bytes.{over}
use Rattle.reports.proofs.Lines.{status_line, written-within, passes, refuses}
use Rattle.reports.proofs.refuse.Goals as goal

pub returns-then-status-eq-PASSED : goal.returns-then-status-eq-PASSED
returns-then-status-eq-PASSED c = (passes c.args.text.now c.status-status.result c.status-status.ensures c.if-status-eq-PASSED.true, refl)

pub returns : goal.returns
returns c =
    let a = c.args in
    let s = c.status-status in
    let p = c.put_field in
    let e = sym (refuses a.text.now s.result s.ensures c.if-status-eq-PASSED.false) in
    (p.ensures.0 ∙ ap length e, p.ensures.1 ∙ ap (λ (w : List ℕ). over w a.output.now) e, written-within (status_line s.result) a.output.now p.new.output p.result p.ensures.0 p.ensures.1)

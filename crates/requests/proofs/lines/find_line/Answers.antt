-- `find_line` meets its contract: the lines before `at` do not fit, and the one that begins there is found or passed.
-- Assumes nothing.
use mathlib.Core.Path.{sym, ap, ◌∙◌}
use Prim.Native.Nat.{ℕ, ◌+◌, ◌≤◌}
use native.Mathlib.Omega.{arith}
use lib.ListN.{length, length-drop}
use Rattle.base.proofs.Filled.{lent-rest}
use Rattle.requests.proofs.Header.{passed_none, passed-all, passed_on, found_here}
use Rattle.requests.proofs.lines.find_line.Goals as goal

pub loop-at-init : goal.loop-at-init
loop-at-init c = (omega arith, omega arith, passed_none c.args.names.now c.args.field.now c.args.text.now)

pub loop-at-preserved : goal.loop-at-preserved
loop-at-preserved c =
    let a = c.args in
    let l = c.loop-at in
    let f = rw lent-rest at c.first_line.ensures in
    let within : l.at + c.first_line.result ≤ length a.names.now = omega (arith, f.2, length-drop l.at a.names.now) in
    (within, omega (arith, f.1), passed_on a.names.now a.field.now a.text.now l.at _ l.number (omega arith) (ap (λ (n : ℕ). l.at + n) f.0) within l.invariant.2 (sym c.is_line.ensures ∙ c.if-is_line.false))

pub returns-then-is_line : goal.returns-then-is_line
returns-then-is_line c =
    let a = c.args in
    let l = c.loop-at in
    let f = rw lent-rest at c.first_line.ensures in
    found_here a.names.now a.field.now a.text.now l.at _ l.number (omega arith) (ap (λ (n : ℕ). l.at + n) f.0) (omega (arith, f.2, length-drop l.at a.names.now)) l.invariant.2 (sym c.is_line.ensures ∙ c.if-is_line.true)

pub returns : goal.returns
returns c = passed-all c.args.names.now c.args.field.now c.args.text.now c.loop-at.at c.loop-at.number (omega arith) c.loop-at.invariant.2

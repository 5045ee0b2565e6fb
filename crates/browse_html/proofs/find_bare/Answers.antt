-- `browse_html::find_bare` meets its contract: the name that stands behind the `&` is the reference, unless what follows blocks it.
-- Assumes nothing.
use mathlib.Core.Path.{sym, ◌∙◌}
use native.Mathlib.Omega.{arith}
use Prim.Native.Nat.{◌+◌}
use Rattle.base.proofs.Filled.{lent-rest}
use Rattle.browse_html.proofs.Names.{finds-none}
use Rattle.browse_html.proofs.Readings.{keeps_none, bare-within, bare-stays, bare-passes}
use Rattle.browse_html.proofs.find_bare.Goals as goal

pub returns-in_err-name : goal.returns-in_err-name
returns-in_err-name c =
    let a = c.args in
    let t = a.text.now in
    let o = c.requires in
    rw c.from_residual.ensures
    (keeps_none a.kind t a.start o.0 o.1 (finds-none a.kind _ o.2 (rw (lent-rest (a.start + 1) t) at c.in_err-name.ensures)))

pub overflow_add-end : goal.overflow_add-end
overflow_add-end c =
    let a = c.args in
    let o = c.requires in
    let heads = rw (lent-rest (a.start + 1) a.text.now) at c.in_ok-name.ensures in
    omega (arith, bare-within a.kind a.text.now a.start o.0 o.1 o.2 c.in_ok-name.name heads)

pub is_blocked-requires : goal.is_blocked-requires
is_blocked-requires c =
    let a = c.args in
    let o = c.requires in
    bare-within a.kind a.text.now a.start o.0 o.1 o.2 c.in_ok-name.name (rw (lent-rest (a.start + 1) a.text.now) at c.in_ok-name.ensures)

pub returns-then-is_blocked : goal.returns-then-is_blocked
returns-then-is_blocked c =
    let a = c.args in
    let o = c.requires in
    bare-stays a.kind a.text.now a.start o.0 o.1 o.2 c.in_ok-name.name (rw (lent-rest (a.start + 1) a.text.now) at c.in_ok-name.ensures) (sym c.is_blocked.ensures ∙ c.if-is_blocked.true)

pub returns : goal.returns
returns c =
    let a = c.args in
    let o = c.requires in
    bare-passes a.kind a.text.now a.start o.0 o.1 o.2 c.in_ok-name.name (rw (lent-rest (a.start + 1) a.text.now) at c.in_ok-name.ensures) (sym c.is_blocked.ensures ∙ c.if-is_blocked.false)

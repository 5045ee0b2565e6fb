-- `browse_html::digits::find_number` meets its contract: the digits are hex after `x` or `X`, else decimal.
-- Assumes nothing.
use borrow.Author.Rules.{rules}
use mathlib.Core.Logic.{inl, inr}
use mathlib.Core.Path.{◌≡◌, refl, sym, ◌∙◌}
use Prim.Native.Nat.{◌+◌, ◌<◌}
use native.Mathlib.Omega.{arith}
use lib.ListN.{length, get_or}
use Rattle.browse_html.proofs.Readings.{keeps_none}
use Rattle.browse_html.proofs.Runs.{counts-hex, counts-decimal, hash-ends}
use Rattle.browse_html.proofs.digits.find_number.Goals as goal
use Rattle.browse_html.proofs.digits.find_number.Goals.{then-hex, else-hex}

pub returns-in_err-get : goal.returns-in_err-get
returns-in_err-get c =
    let a = c.args in
    let o = c.requires in
    rw c.from_residual.ensures (λ kind. keeps_none kind a.text.now a.start (search rules) o.1 (hash-ends kind a.text.now a.start o.0 (search rules) o.2))

pub find_digits-requires : goal.find_digits-requires
find_digits-requires c =
    let a = c.args in
    let t = a.text.now in
    let o = c.requires in
    let within : a.start + 2 < length t = search rules in
    let here : c.in_ok-get.field-0.now ≡ get_or t (a.start + 2) 0 = search rules in
    let mark = rw here at (sym c.is_hex_mark-hex.ensures) in
    elim c.if-hex.branch [
      | then-hex w ↦ rw w.base-is (o.1, inr refl, omega arith, omega arith, λ kind. counts-hex kind t a.start within o.2 (mark ∙ w.if-hex.true))
      | else-hex w ↦ rw w.base-is (o.1, inl refl, omega arith, omega arith, λ kind. counts-decimal kind t a.start within o.2 (mark ∙ w.if-hex.false))
    ]

-- After `x` or `X` the digits are hex, else decimal.
-- Assumes nothing.
use mathlib.Core.Path.{sym, ◌∙◌}
use Rattle.base.proofs.Filled.{lent-rest}
use Rattle.decode_html.proofs.Bodies.{number-empty, number-hex, number-decimal, why-empty, why-hex, why-decimal}
use Rattle.decode_html.proofs.digits.read_number.Goals as goal

pub returns-then-body-eq0 : goal.returns-then-body-eq0
returns-then-body-eq0 c =
    let s = c.args.body.now in
    (sym (number-empty s c.if-body-eq0.true), why-empty s c.if-body-eq0.true)

pub returns-then-is_hex_mark : goal.returns-then-is_hex_mark
returns-then-is_hex_mark c =
    let s = c.args.body.now in
    let mark = sym c.is_hex_mark.ensures ∙ c.if-is_hex_mark.true in
    let some = c.if-body-eq0.false in
    rw (number-hex s some mark, why-hex s some mark) (rw (lent-rest 1 s) at c.read_digits.ensures)

pub returns : goal.returns
returns c =
    let s = c.args.body.now in
    let mark = sym c.is_hex_mark.ensures ∙ c.if-is_hex_mark.false in
    let some = c.if-body-eq0.false in
    rw (number-decimal s some mark, why-decimal s some mark) c.read_digits-2.ensures

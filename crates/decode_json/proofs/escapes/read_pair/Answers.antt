-- `read_pair` meets its contract: a second half must follow the first.
-- Assumes nothing.
use Rattle.std.proofs.Common.{sym, ◌∙◌, arith, length-drop}
use Rattle.base.proofs.Filled.{lent-rest}
use Rattle.base.proofs.Digits.{found-some, found-none}
use Rattle.decode_json.proofs.Told.{pair-tells, alone-tells, unpaired-tells}
use Rattle.decode_json.proofs.escapes.read_pair.Goals as goal

pub returns-in_err-low : goal.returns-in_err-low
returns-in_err-low c = rw c.from_residual.ensures (alone-tells c.args.rest.now c.args.high (rw lent-rest at (found-none _ (sym c.in_err-low.ensures.value))))

pub returns-then-not-is_low : goal.returns-then-not-is_low
returns-then-not-is_low c =
    let l = c.in_ok-low in
    unpaired-tells c.args.rest.now c.args.high l.low (rw lent-rest at (found-some _ _ (sym l.ensures.value))) (sym c.is_low.ensures ∙ c.if-not-is_low.true)

pub returns : goal.returns
returns c =
    let a = c.args in
    let l = c.in_ok-low in
    pair-tells a.rest.now a.high l.low c.requires.1 c.requires.2 (rw lent-rest at (found-some _ _ (sym l.ensures.value)))
    (omega (arith, rw (lent-rest, length-drop) at l.ensures.long.1)) (sym c.is_low.ensures ∙ c.if-not-is_low.false)

-- `put_eights` meets its contract. The invariant: the text is copied up to the k-th eight, and what lies past it is as at the start.
-- Assumes nothing.
use Rattle.std.proofs.Common.{◌≡◌, ◌+◌, ◌-◌, ◌*◌, length, ap, ◌∙◌, refl, arith}
use Rattle.base.proofs.Eights.{copied, copied-whole, copied-put}
use Rattle.base.proofs.put_eights.Goals as goal

pub loop-k-preserved : goal.loop-k-preserved
loop-k-preserved c =
    let a = c.args in
    let i = 8 * c.loop-k.k in
    let e = copied-put a.text.now a.output.now i i (omega arith) (omega arith) (omega (arith, c.div_ceil-k-end.ensures)) c.loop-k.output c.put_eight.new.output c.loop-k.invariant.1 c.put_eight.ensures in
    let s : i + 8 ≡ 8 * (c.loop-k.k + 1) = omega arith in
    (omega (arith, c.div_ceil-k-end.ensures), e ∙ ap (copied a.text.now a.output.now) s)

pub returns : goal.returns
returns c =
    let a = c.args in
    let e = copied-put a.text.now a.output.now (8 * c.loop-k.k) (length a.text.now - 8) (omega (arith, c.div_ceil-k-end.ensures)) (omega arith) (omega arith) c.loop-k.output c.put_eight-2.new.output c.loop-k.invariant.1 c.put_eight-2.ensures in
    let s : length a.text.now - 8 + 8 ≡ length a.text.now = omega arith in
    (refl, e ∙ ap (copied a.text.now a.output.now) s ∙ copied-whole a.text.now a.output.now)

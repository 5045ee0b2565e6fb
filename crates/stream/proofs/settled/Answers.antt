-- `settled` meets its contract: the bytes before the place are settled, and what is settled of the rest is still to be added.
-- Assumes nothing.
use Rattle.std.proofs.Common.{sym, ◌∙◌, arith, length-drop}
use Rattle.base.proofs.Filled.{lent-rest}
use Rattle.stream.proofs.Opened.{settled-start, settled_here, settled-next, settled-end}
use Rattle.stream.proofs.settled.Goals as goal

pub loop-i-init : goal.loop-i-init
loop-i-init c = settled-start c.args.text.now 0 c.saturating_sub-from.result (λ k h. omega (arith, h, c.saturating_sub-from.ensures))

pub begins-requires : goal.begins-requires
begins-requires c = rw (lent-rest, length-drop) (omega (arith, c.loop-i-test.true))

pub returns-then-begins : goal.returns-then-begins
returns-then-begins c =
    let a = c.args in
    (omega (arith, c.loop-i.invariant, settled_here a.text.now c.loop-i.i c.loop-i-test.true (sym c.if-begins.true ∙ c.begins.ensures)), omega arith)

pub loop-i-preserved : goal.loop-i-preserved
loop-i-preserved c =
    let a = c.args in
    omega (arith, c.loop-i.invariant, settled-next a.text.now c.loop-i.i c.loop-i-test.true (sym c.if-begins.false ∙ c.begins.ensures))

pub returns : goal.returns
returns c =
    let t = c.args.text.now in
    let l = c.loop-i in
    (omega (arith, l.invariant, l.auto.i-end, c.saturating_sub-from.ensures, settled-end t l.i c.loop-i-test.false), omega arith)

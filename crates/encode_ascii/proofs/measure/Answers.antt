-- `measure` meets its contract: what is counted so far, with what the rest of the text gives, is what the whole gives. The measure is what is left.
-- Assumes nothing.
use mathlib.Core.Path.{refl, ◌∙◌}
use native.Mathlib.Omega.{arith}
use borrow.Author.Rules.{rules}
use lib.ListN.{length-drop}
use Rattle.encode_ascii.proofs.Grown.{grown-start, grown-next, grown-end}
use Rattle.encode_ascii.proofs.measure.Goals as goal

pub loop-i-init : goal.loop-i-init
loop-i-init c = (grown-start c.args.text.now c.requires.1, refl)

pub put_next-put-requires : goal.put_next-put-requires
put_next-put-requires c = (search rules, c.loop-i.invariant.0.text, omega (arith, c.loop-i.invariant.1))

pub overflow_add-length : goal.overflow_add-length
overflow_add-length c = omega (arith, c.loop-i.invariant.0.most, c.put_next-put.ensures.1, c.requires.0)

pub overflow_add-hits : goal.overflow_add-hits
overflow_add-hits c = omega (arith, c.loop-i.invariant.0.few, c.loop-i.invariant.0.inside, c.put_next-put.ensures.6, c.requires.0)

pub overflow_add-i : goal.overflow_add-i
overflow_add-i c = omega (arith, c.loop-i.invariant.0.inside, c.put_next-put.ensures.5, length-drop c.loop-i.i c.args.text.now, c.requires.0)

pub loop-i-smaller : goal.loop-i-smaller
loop-i-smaller c = omega (arith, c.put_next-put.ensures.4, c.put_next-put.ensures.5, length-drop c.loop-i.i c.args.text.now)

pub loop-i-preserved : goal.loop-i-preserved
loop-i-preserved c = (grown-next c.loop-i.invariant.0 (search rules) c.put_next-put.result.written c.put_next-put.result c.loop-i.room c.put_next-put.new.room c.put_next-put.ensures refl, c.put_next-put.auto.room ∙ c.loop-i.invariant.1)

pub returns : goal.returns
returns c = rw c.whole.ensures (grown-end c.loop-i.invariant.0 (omega arith))

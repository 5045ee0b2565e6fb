-- `run` meets its contract. The invariant: the bytes so far are copied. The measure is what is left of the sixteen.
-- Assumes nothing.
use mathlib.Core.Path.{◌≡◌, sym, ◌∙◌}
use native.Mathlib.Omega.{arith}
use borrow.Author.Tests.{not-true, not-false}
use borrow.Author.Rules.{rules}
use borrow.Author.Count.{below_more}
use Rattle.strings_ahead.proofs.ahead.Words.run.Goals as goal

pub loop-n-init : goal.loop-n-init
loop-n-init c = λ i l. let e : i ≡ 0 = omega arith in rw e c.requires.1

pub returns-then-not-is_copied : goal.returns-then-not-is_copied
returns-then-not-is_copied c = let l = c.loop-n in (search rules, l.invariant, λ h. sym c.is_copied.ensures ∙ not-true _ c.if-not-is_copied.true-raw)

pub loop-n-preserved : goal.loop-n-preserved
loop-n-preserved c = let l = c.loop-n in below_more _ _ l.invariant (sym c.is_copied.ensures ∙ not-false _ c.if-not-is_copied.false-raw)

pub returns : goal.returns
returns c = (search rules, λ i l. c.loop-n.invariant i (omega arith), λ h. absurd (omega arith))

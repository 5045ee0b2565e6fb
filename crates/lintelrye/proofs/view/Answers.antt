-- `view` meets its contract: each return is one arm of the definition.
-- Assumes nothing.
use mathlib.Core.Path.{sym}
use borrow.Author.Tests.{eq-eqb, ne_eqb, le-leb, lt-leb}
use lib.Seq.{length-take-le}
use Rattle.lintelrye.proofs.view.Goals as goal

pub returns-then-answer-eq1 : goal.returns-then-answer-eq1
returns-then-answer-eq1 c = (simp (eq-eqb _ _ c.if-answer-eq1.true), simp (eq-eqb _ _ c.if-answer-eq1.true))

pub slice_bounds-result-end : goal.slice_bounds-result-end
slice_bounds-result-end c = sym (length-take-le _ _ c.if-n-output.true)

pub returns-then-n-output : goal.returns-then-n-output
returns-then-n-output c = (simp (ne_eqb _ _ c.if-answer-eq1.false), simp (ne_eqb _ _ c.if-answer-eq1.false, le-leb _ _ c.if-n-output.true))

pub returns : goal.returns
returns c = (simp (ne_eqb _ _ c.if-answer-eq1.false), simp (ne_eqb _ _ c.if-answer-eq1.false, lt-leb _ _ c.if-n-output.false))

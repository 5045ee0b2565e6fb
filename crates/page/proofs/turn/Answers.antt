-- `turn` meets its contract: nothing after a refusal; else the record's call on the free part, and the record passes or stops the page (Turns).
-- Assumes nothing.
use mathlib.Core.Path.{refl}
use borrow.Author.Tests.{ne_eqb}
use Rattle.page.specs.Turns.{turned, output_after}
use Rattle.page.proofs.Turns.{turn-passed, turn-refused, turn-fits}
use Rattle.page.proofs.turn.Goals as goal

pub returns-then-filled-ne-PASSED : goal.returns-then-filled-ne-PASSED
unfolding turned output_after
returns-then-filled-ne-PASSED c = rw (ne_eqb c.args.filled.status 0 c.if-filled-ne-PASSED.true) (refl, refl)

pub overflow_add-result : goal.overflow_add-result
overflow_add-result c =
    let a = c.args in
    let s = c.single-answer in
    let m = c.min-at in
    record { fits = turn-fits a.end m.result a.output.now m.ensures a.text.now a.filled a.index a.field s.result _ s.ensures.0 s.ensures.1 c.if-filled-ne-PASSED.false c.if-answer-ne-PASSED.false c.ranges.end.fits c.well_formed.0.0 }

pub returns-then-answer-ne-PASSED : goal.returns-then-answer-ne-PASSED
returns-then-answer-ne-PASSED c =
    let a = c.args in
    let s = c.single-answer in
    let m = c.min-at in
    turn-refused a.end m.result a.output.now m.ensures a.text.now a.filled a.index a.field s.result _ s.ensures.0 s.ensures.1 c.if-filled-ne-PASSED.false c.if-answer-ne-PASSED.true

pub returns : goal.returns
returns c =
    let a = c.args in
    let s = c.single-answer in
    let m = c.min-at in
    turn-passed a.end m.result a.output.now m.ensures a.text.now a.filled a.index a.field s.result _ s.ensures.0 s.ensures.1 c.if-filled-ne-PASSED.false c.if-answer-ne-PASSED.false

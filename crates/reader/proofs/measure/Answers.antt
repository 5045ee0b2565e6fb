-- `measure` meets its contract: what is counted so far, with what the reader makes of the rest, is what it makes of the whole. The measure is
-- what is left of the text.
-- Assumes nothing.
use mathlib.Core.List.{[]}
use mathlib.Core.Path.{◌≡◌, sym, ◌∙◌}
use native.Mathlib.Omega.{arith}
use Rattle.rules.proofs.Loops.{from_end, from-stop}
use Rattle.rules.specs.Utf8.{utf8}
use Rattle.rules.specs.Moves.{from}
use Rattle.base.proofs.Counted.{counted-quiet, counted-swap}
use Rattle.reader.specs.Units.{byte_step}
use Rattle.reader.proofs.Characters.{clear-keeps, unit-here, no-unit-here, no-mark-here}
use Rattle.reader.proofs.Bytewise.{read-measures}
use Rattle.reader.proofs.measure.Goals as goal
use Rattle.reader.proofs.measure.Goals.{else-loop-i-test, then-loop-i-test+then-text-i+then-e-i, then-loop-i-test+else-text-i+in_default}

pub loop-i-preserved-then-text-i : goal.loop-i-preserved-then-text-i
loop-i-preserved-then-text-i c =
    let a = c.args in
    let e = c.next_replaced-e in
    counted-quiet c.loop-i.invariant e.result e.ensures.after e.ensures.within
    (clear-keeps a.c a.text.now (λ k. (c.type_inv.text k).fits) c.of-special.result.leads (rw c.of-special.ensures at c.of-special.result.listed) c.loop-i.i e.result e.ensures)

pub loop-i-preserved : goal.loop-i-preserved
loop-i-preserved c =
    let a = c.args in
    let e = c.in-Some.unit in
    let u = unit-here a.c a.text.now c.loop-i.i (omega arith) e c.in-Some.ensures in
    rw c.char_length-length.ensures.0 (counted-swap c.loop-i.invariant e.taken (utf8 e.character) u.some u.ends u.shorter u.moves)

pub returns : goal.returns
returns c =
    let a = c.args in
    let i = c.loop-i.i in
    let rule = byte_step a.c in
    let none : from rule a.text.now i ≡ [] =
    elim c.loop-i-test.branch [
      | else-loop-i-test w ↦ from_end rule a.text.now i (omega arith)
      | then-loop-i-test+then-text-i+then-e-i w ↦
          from-stop rule a.text.now i (omega arith)
          (no-mark-here a.c a.text.now i (omega arith) (λ k. (c.type_inv.text k).fits) c.of-special.result.leads (rw c.of-special.ensures at c.of-special.result.listed)
          (λ z. w.if-text-i.true (z ∙ sym c.mark_of-mark.ensures)) (rw w.if-e-i.true at w.next_replaced-e.ensures))
      | then-loop-i-test+else-text-i+in_default w ↦
          from-stop rule a.text.now i (omega arith) (no-unit-here a.c a.text.now i (omega arith) (w.if-text-i.false ∙ c.mark_of-mark.ensures) w.in_default.ensures)
    ] in
    rw c.whole.ensures (read-measures a.c c.requires.2 a.text.now i _ _ c.requires.1 c.loop-i.invariant none)

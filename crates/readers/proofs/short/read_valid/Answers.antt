-- `read_valid` meets its contract: each outcome by what is written to the room (Rooms).
-- Assumes nothing.
use mathlib.Core.Path.{refl, sym, ap, ◌∙◌}
use native.Mathlib.Omega.{arith}
use Rattle.rules.specs.Bytes.{over}
use Rattle.readers.proofs.Rooms.{fits, whole, measured, head, reaches, head-size}
use Rattle.readers.proofs.short.read_valid.Goals as goal

pub write_read-done-requires : goal.write_read-done-requires
write_read-done-requires c =
    let a = c.args in
    let p = c.requires in
    (p.1, fits a.c a.text.now p.0)

pub returns-then-done-eq0 : goal.returns-then-done-eq0
returns-then-done-eq0 c =
    let a = c.args in
    let p = c.requires in
    let w = c.write_read-done in
    (whole a.c a.text.now p.0 w.result w.ensures.0 p.1 c.if-done-text.false, sym w.ensures.0.many ∙ c.if-done-eq0.true, refl)

pub returns-then-output-done : goal.returns-then-output-done
returns-then-output-done c =
    let a = c.args in
    let p = c.requires in
    let w = c.write_read-done in
    (whole a.c a.text.now p.0 w.result w.ensures.0 p.1 c.if-done-text.false, λ z. c.if-done-eq0.false (w.ensures.0.many ∙ z), w.ensures.0.long, c.if-output-done.true, refl)

pub slice_bounds-room-end : goal.slice_bounds-room-end
slice_bounds-room-end c =
    let a = c.args in
    let p = c.requires in
    let w = c.write_read-done in
    reaches a.c a.text.now p.0 w.result w.ensures.0 _ w.new.output w.ensures.1

pub slice_bounds-put_run-end : goal.slice_bounds-put_run-end
slice_bounds-put_run-end c =
    let a = c.args in
    let p = c.requires in
    let w = c.write_read-done in
    head-size a.c a.text.now p.0 w.result w.ensures.0 _ w.new.output w.ensures.1

pub put_run-requires : goal.put_run-requires
put_run-requires c =
    let a = c.args in
    let p = c.requires in
    let w = c.write_read-done in
    omega (arith, c.if-output-done.false, head-size a.c a.text.now p.0 w.result w.ensures.0 _ w.new.output w.ensures.1)

pub returns : goal.returns
returns c =
    let a = c.args in
    let p = c.requires in
    let w = c.write_read-done in (
      whole a.c a.text.now p.0 w.result w.ensures.0 p.1 c.if-done-text.false,
      λ z. c.if-done-eq0.false (w.ensures.0.many ∙ z),
      measured a.c a.text.now p.0 w.result w.ensures.0 c.if-done-text.false,
      omega (arith, c.if-output-done.false, w.ensures.0.long),
      c.put_run.ensures.1 ∙ ap (λ r. over r a.output.now) (head a.c a.text.now p.0 w.result w.ensures.0 _ w.new.output w.ensures.1),
    )

-- `fill_numbers` meets its contract: its loop makes the turns of the records that the numbers hold (Numbers).
-- Assumes nothing.
use native.Mathlib.Omega.{arith}
use Rattle.page.proofs.Numbers.{starts, goes_on_lem, place-fits, output-kept, ends}
use Rattle.page.proofs.fill_numbers.Goals as goal

pub loop-index-init : goal.loop-index-init
loop-index-init c = let a = c.args in starts a.contexts.now a.numbers.now a.text.now a.output.now c.min-count.result c.begin-filled.result c.min-count.ensures c.begin-filled.ensures

pub offset_bounds-numbers-first-in-loop-index : goal.offset_bounds-numbers-first-in-loop-index
offset_bounds-numbers-first-in-loop-index c =
    let a = c.args in
    let l = c.loop-index in
    record { fits = place-fits a.contexts.now a.numbers.now a.text.now a.output.now c.min-count.result l.numbers l.output l.filled l.end l.index l.invariant (omega arith) c.well_formed.1.0.1 }

pub loop-index-preserved : goal.loop-index-preserved
loop-index-preserved c =
    let a = c.args in
    let l = c.loop-index in
    let r = c.read_field-field in
    let t = c.turn-turned in
    let w = c.write_field in
    goes_on_lem a.contexts.now a.numbers.now a.text.now a.output.now c.min-count.result l.numbers l.output l.filled l.end l.index l.invariant (omega arith) r.result t.result t.new.output w.new.numbers r.ensures t.ensures.0 t.ensures.1 w.ensures

pub shape_of-output : goal.shape_of-output
shape_of-output c = let a = c.args in let l = c.loop-index in output-kept a.contexts.now a.numbers.now a.text.now a.output.now c.min-count.result l.numbers l.output l.filled l.end l.index l.invariant

pub returns : goal.returns
returns c = let a = c.args in let l = c.loop-index in ends a.contexts.now a.numbers.now a.text.now a.output.now c.min-count.result l.numbers l.output l.filled l.end l.index l.invariant (omega arith)

-- `encode_raw::write_to` meets its contract: what is written so far, with what the rest of the text gives, is the result of the whole. The measure is what is left before the end.
-- Assumes nothing.
use mathlib.Core.Path.{ap}
use native.Mathlib.Omega.{arith}
use borrow.Author.Rules.{rules}
use Rattle.rules.specs.Moves.{result}
use Rattle.base.proofs.Filled.{filled-start, filled-room, filled_next, filled_put}
use Rattle.base.proofs.Counted.{filled-all, filled_within}
use Rattle.encode_raw.proofs.Cuts.{start_left, end-left, next-quiet, next-less}
use Rattle.encode_raw.proofs.write_to.Goals as goal

pub loop-i-init : goal.loop-i-init
loop-i-init c =
    let a = c.args in
    (search rules, rw (start_left a.text.now a.end) (filled-start _ _ c.requires.1))

pub put-at-requires : goal.put-at-requires
put-at-requires c =
    let a = c.args in
    let l = c.loop-i in
    let e = c.next_cut-e in
    filled-room l.invariant.1 (next-quiet a.text.now a.end l.i e.result (search rules) e.ensures)

pub overflow_add-at : goal.overflow_add-at
overflow_add-at c =
    let a = c.args in
    let l = c.loop-i in
    let e = c.next_cut-e in
    omega (arith, c.put-at.ensures.0, filled_next l.invariant.1 (next-quiet a.text.now a.end l.i e.result (search rules) e.ensures))

pub returns-then-e-end : goal.returns-then-e-end
returns-then-e-end c =
    let a = c.args in
    let l = c.loop-i in
    let e = c.next_cut-e in
    let p = c.put-at in
    let f = filled_put l.invariant.1 (next-quiet a.text.now a.end l.i e.result (search rules) e.ensures) p.new.output p.result p.ensures.0 p.ensures.1 in
    filled-all f (ap result (end-left a.text.now a.end e.result (search rules)))

pub slice_bounds-put-count-in-loop-i-2 : goal.slice_bounds-put-count-in-loop-i-2
slice_bounds-put-count-in-loop-i-2 c =
    let a = c.args in
    let l = c.loop-i in
    let e = c.next_cut-e in
    let p = c.put-at in
    let f = filled_put l.invariant.1 (next-quiet a.text.now a.end l.i e.result (search rules) e.ensures) p.new.output p.result p.ensures.0 p.ensures.1 in
    filled_within f

pub slice_bounds-put-start-in-loop-i-2 : goal.slice_bounds-put-start-in-loop-i-2
slice_bounds-put-start-in-loop-i-2 c =
    let a = c.args in
    let l = c.loop-i in
    let e = c.next_cut-e in
    let p = c.put-at in
    let f = filled_put l.invariant.1 (next-quiet a.text.now a.end l.i e.result (search rules) e.ensures) p.new.output p.result p.ensures.0 p.ensures.1 in
    filled_within f

pub put-at-requires-in-loop-i : goal.put-at-requires-in-loop-i
put-at-requires-in-loop-i c =
    let a = c.args in
    let l = c.loop-i in
    let e = c.next_cut-e in
    let p = c.put-at in
    let f = filled_put l.invariant.1 (next-quiet a.text.now a.end l.i e.result (search rules) e.ensures) p.new.output p.result p.ensures.0 p.ensures.1 in
    filled-room f (next-less a.text.now a.end l.i e.result (search rules) e.ensures (search rules))

pub overflow_add-at-in-loop-i : goal.overflow_add-at-in-loop-i
overflow_add-at-in-loop-i c =
    let a = c.args in
    let l = c.loop-i in
    let e = c.next_cut-e in
    let p = c.put-at in
    let f = filled_put l.invariant.1 (next-quiet a.text.now a.end l.i e.result (search rules) e.ensures) p.new.output p.result p.ensures.0 p.ensures.1 in
    omega (arith, c.put-at-in-loop-i.ensures.0, filled_next f (next-less a.text.now a.end l.i e.result (search rules) e.ensures (search rules)))

pub loop-i-preserved : goal.loop-i-preserved
loop-i-preserved c =
    let a = c.args in
    let l = c.loop-i in
    let e = c.next_cut-e in
    let p = c.put-at in
    let f = filled_put l.invariant.1 (next-quiet a.text.now a.end l.i e.result (search rules) e.ensures) p.new.output p.result p.ensures.0 p.ensures.1 in
    let d = c.put-at-in-loop-i in
    (search rules, filled_put f (next-less a.text.now a.end l.i e.result (search rules) e.ensures (search rules)) d.new.output d.result d.ensures.0 d.ensures.1)

pub returns : goal.returns
returns c = filled-all c.loop-i.invariant.1 (ap result (end-left c.args.text.now c.args.end c.loop-i.i c.loop-i-test.false))

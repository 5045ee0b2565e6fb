-- `write_steps` meets its contract: what is written so far, with what the reader gives of the rest, is the result (Turns). The measure is what is left of
-- the text.
-- Assumes nothing.
use mathlib.Core.Path.{refl}
use Prim.Native.Nat.{◌+◌}
use native.Mathlib.Omega.{arith}
use lib.ListN.{get_or}
use Rattle.base.proofs.Counted.{filled_within}
use Rattle.base.proofs.Filled.{filled-room, filled_next}
use Rattle.marks.proofs.Ahead.{exact-start, exact-put, exact-rest, exact-last}
use Rattle.read_units.specs.Units.{step_length}
use Rattle.read_units.proofs.Turns.{Step, step-here}
use Rattle.read_units.proofs.fill.write_steps.Goals as goal
use Rattle.read_units.proofs.fill.write_steps.Goals.{After-step_of-i, In-loop-i}

-- The step from the place,

here : (c : In-loop-i)
    → let a = c.args in
    let l = c.loop-i in
    Step a.h a.text.now l.i (step_length (get_or a.text.now l.i 0) (get_or a.text.now (l.i + 1) 0))
here c = step-here _ _ _ _ c.loop-i.invariant.1 (omega (arith, c.loop-i-test.true)) refl

-- by its length.

step : (c : After-step_of-i) → let a = c.args in Step a.h a.text.now c.loop-i.i c.step_of-i.result
step c = step-here _ _ _ _ c.loop-i.invariant.1 (omega (arith, c.loop-i-test.true)) c.step_of-i.ensures.0

pub loop-i-init : goal.loop-i-init
loop-i-init c = (omega arith, c.requires.1, exact-start _ _ c.requires.2)

pub overflow_sub-text : goal.overflow_sub-text
overflow_sub-text c = c.loop-i.invariant.0

pub slice_bounds-put_step-count : goal.slice_bounds-put_step-count
slice_bounds-put_step-count c = filled_within c.loop-i.invariant.2.filled

pub slice_bounds-put_step-start : goal.slice_bounds-put_step-start
slice_bounds-put_step-start c = filled_within c.loop-i.invariant.2.filled

pub put_step-at-requires : goal.put_step-at-requires
put_step-at-requires c = (omega (arith, c.loop-i-test.true), filled-room c.loop-i.invariant.2.filled (here (goal.at.put_step-at-requires c).In-loop-i).next)

pub overflow_add-at : goal.overflow_add-at
overflow_add-at c = omega (arith, c.put_step-at.ensures.0, filled_next c.loop-i.invariant.2.filled (here (goal.at.overflow_add-at c).In-loop-i).next)

pub overflow_add-i-in-loop-i : goal.overflow_add-i-in-loop-i
overflow_add-i-in-loop-i c = omega (arith, (step (goal.at.overflow_add-i-in-loop-i c).After-step_of-i).ends)

pub loop-i-smaller : goal.loop-i-smaller
loop-i-smaller c = omega (arith, c.step_of-i.ensures.1, c.loop-i-test.true)

pub loop-i-preserved : goal.loop-i-preserved
loop-i-preserved c = ((step (goal.at.loop-i-preserved c).After-step_of-i).ends, (step (goal.at.loop-i-preserved c).After-step_of-i).reaches, exact-put c.loop-i.invariant.2 (step (goal.at.loop-i-preserved c).After-step_of-i).next c.put_step-at.new.output c.put_step-at.result c.put_step-at.ensures.0 c.put_step-at.ensures.1)

pub slice_bounds-write_rest-count : goal.slice_bounds-write_rest-count
slice_bounds-write_rest-count c = filled_within c.loop-i.invariant.2.filled

pub slice_bounds-write_rest-start : goal.slice_bounds-write_rest-start
slice_bounds-write_rest-start c = filled_within c.loop-i.invariant.2.filled

pub write_rest-requires : goal.write_rest-requires
write_rest-requires c = (c.loop-i.invariant.0, c.requires.0, c.loop-i.invariant.1, exact-rest c.loop-i.invariant.2)

pub returns : goal.returns
returns c = exact-last c.loop-i.invariant.2 c.write_rest.new.output c.write_rest.ensures

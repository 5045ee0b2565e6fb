-- `write_kept` meets its contract: what is written so far, with what the reader gives of the rest, is the result; a kept place is that of the next `&`
-- (Turns, Kept).
-- Assumes nothing.
use mathlib.Core.Path.{refl, sym, ap, ◌∙◌}
use Prim.Native.Nat.{ℕ, ◌+◌, ◌-◌, ◌<◌}
use native.Mathlib.Omega.{arith}
use lib.ListN.{length, take, drop}
use Rattle.base.specs.Places.{Nearest}
use Rattle.base.proofs.Counted.{filled_within}
use Rattle.base.proofs.Filled.{Next, filled-room, filled_next}
use Rattle.marks.proofs.Ahead.{Exact, with-last, exact-start, exact-put, exact-rest, exact-last}
use Rattle.marks.proofs.Kept.{start-after}
use Rattle.read_units.specs.Marks.{Rest}
use Rattle.read_units.specs.Units.{length_of, UnitAt}
use Rattle.read_units.proofs.Turns.{reach-unit, reach-next, reach_near, next-mark, next-unit}
use Rattle.read_units.proofs.fill.write_kept.Goals as goal
use Rattle.read_units.proofs.fill.write_kept.Goals.{After-from-mark, After-put_run-at}

-- The kept place is that of the next `&`,

near : (c : After-from-mark) → let a = c.args in Nearest a.text.now c.loop-place.i 38 c.from-mark.result × (c.from-mark.result < length a.text.now)
near c = rw (c.loop-place.invariant.3, c.from-mark.ensures) (c.requires.2 c.loop-place.place-index c.loop-place-test.true c.loop-place-test.true)

-- where a unit is,

unit : (c : After-from-mark) → let a = c.args in UnitAt a.h a.text.now c.from-mark.result
unit c =
    let near-here : let a = c.args in Nearest a.text.now c.loop-place.i 38 c.from-mark.result × (c.from-mark.result < length a.text.now) =
    rw (c.loop-place.invariant.3, c.from-mark.ensures) (c.requires.2 c.loop-place.place-index c.loop-place-test.true c.loop-place-test.true) in
    let a = c.args in
    let l = c.loop-place in
    let p = near-here in
    reach-unit a.h a.text.now c.from-mark.result (reach_near a.h a.text.now l.i c.from-mark.result l.invariant.1 p.0) p.1 (p.0.here p.1)

-- and the text up to it stands next in the result,

run : (c : After-from-mark)
    → let a = c.args in
    Next (Rest a.h a.text.now c.loop-place.i) (take (c.from-mark.result - c.loop-place.i) (drop c.loop-place.i a.text.now)) (Rest a.h a.text.now c.from-mark.result)
run c =
    let near-here : let a = c.args in Nearest a.text.now c.loop-place.i 38 c.from-mark.result × (c.from-mark.result < length a.text.now) =
    rw (c.loop-place.invariant.3, c.from-mark.ensures) (c.requires.2 c.loop-place.place-index c.loop-place-test.true c.loop-place-test.true) in
    let a = c.args in next-mark a.h a.text.now c.loop-place.i c.from-mark.result c.loop-place.invariant.1 (near-here).0

-- and is copied.

copied : (c : After-put_run-at)
    → let a = c.args in
    Exact (Rest a.h a.text.now 0) (Rest a.h a.text.now c.from-mark.result) (with-last c.loop-place.at c.loop-place.output c.put_run-at.new.output) (c.loop-place.at + c.put_run-at.result)
copied c =
    let run-here : let a = c.args in
    Next (Rest a.h a.text.now c.loop-place.i) (take (c.from-mark.result - c.loop-place.i) (drop c.loop-place.i a.text.now)) (Rest a.h a.text.now c.from-mark.result) =
    let near-here : let a = c.args in Nearest a.text.now c.loop-place.i 38 c.from-mark.result × (c.from-mark.result < length a.text.now) =
    rw (c.loop-place.invariant.3, c.from-mark.ensures) (c.requires.2 c.loop-place.place-index c.loop-place-test.true c.loop-place-test.true) in
    let a = c.args in next-mark a.h a.text.now c.loop-place.i c.from-mark.result c.loop-place.invariant.1 (near-here).0 in
    exact-put c.loop-place.invariant.2 (run-here) c.put_run-at.new.output c.put_run-at.result c.put_run-at.ensures.0 c.put_run-at.ensures.1

pub loop-place-init : goal.loop-place-init
loop-place-init c = (omega arith, c.requires.1, exact-start _ _ c.requires.3, refl)

pub slice_bounds-put_run-count : goal.slice_bounds-put_run-count
slice_bounds-put_run-count c = (near (goal.at.slice_bounds-put_run-count c).After-from-mark).0.after

pub slice_bounds-put_run-start : goal.slice_bounds-put_run-start
slice_bounds-put_run-start c = (near (goal.at.slice_bounds-put_run-start c).After-from-mark).0.after

pub slice_bounds-put_run-end : goal.slice_bounds-put_run-end
slice_bounds-put_run-end c = (near (goal.at.slice_bounds-put_run-end c).After-from-mark).0.within

pub slice_bounds-put_run-count-in-loop-place : goal.slice_bounds-put_run-count-in-loop-place
slice_bounds-put_run-count-in-loop-place c = filled_within c.loop-place.invariant.2.filled

pub slice_bounds-put_run-start-in-loop-place : goal.slice_bounds-put_run-start-in-loop-place
slice_bounds-put_run-start-in-loop-place c = filled_within c.loop-place.invariant.2.filled

pub put_run-at-requires : goal.put_run-at-requires
put_run-at-requires c = filled-room c.loop-place.invariant.2.filled (run (goal.at.put_run-at-requires c).After-from-mark)

pub overflow_add-at : goal.overflow_add-at
overflow_add-at c = omega (arith, c.put_run-at.ensures.0, filled_next c.loop-place.invariant.2.filled (run (goal.at.overflow_add-at c).After-from-mark))

pub slice_bounds-put_char-count : goal.slice_bounds-put_char-count
slice_bounds-put_char-count c = filled_within (copied (goal.at.slice_bounds-put_char-count c).After-put_run-at).filled

pub slice_bounds-put_char-start : goal.slice_bounds-put_char-start
slice_bounds-put_char-start c = filled_within (copied (goal.at.slice_bounds-put_char-start c).After-put_run-at).filled

pub put_char-at-requires : goal.put_char-at-requires
put_char-at-requires c =
    let u = unit (goal.at.put_char-at-requires c).After-from-mark in
    (u, filled-room (copied (goal.at.put_char-at-requires c).After-put_run-at).filled (next-unit _ _ _ _ refl u))

pub overflow_add-at-in-loop-place : goal.overflow_add-at-in-loop-place
overflow_add-at-in-loop-place c = omega (arith, c.put_char-at.ensures.0, filled_next (copied (goal.at.overflow_add-at-in-loop-place c).After-put_run-at).filled (next-unit _ _ _ _ refl (unit (goal.at.overflow_add-at-in-loop-place c).After-from-mark)))

pub overflow_add-mark : goal.overflow_add-mark
overflow_add-mark c = omega (arith, (unit (goal.at.overflow_add-mark c).After-from-mark).ends)

pub bounds-text-mark : goal.bounds-text-mark
bounds-text-mark c = omega (arith, (unit (goal.at.bounds-text-mark c).After-from-mark).ends)

pub overflow_add-i : goal.overflow_add-i
overflow_add-i c = omega (arith, (unit (goal.at.overflow_add-i c).After-from-mark).ends, c.length_of.ensures.0)

pub loop-place-preserved : goal.loop-place-preserved
loop-place-preserved c =
    let a = c.args in
    let l = c.loop-place in
    let h = a.h in
    let t = a.text.now in
    let mark = c.from-mark.result in
    let n = c.length_of.ensures.0 in
    let u = unit (goal.at.loop-place-preserved c).After-from-mark in
    let p = (near (goal.at.loop-place-preserved c).After-from-mark).0 in (
      omega (arith, u.ends, n),
      reach-next h t mark c.length_of.result n u (reach_near h t l.i mark l.invariant.1 p),
      exact-put (copied (goal.at.loop-place-preserved c).After-put_run-at) (next-unit h t mark c.length_of.result n u) c.put_char-at.new.output c.put_char-at.result c.put_char-at.ensures.0 c.put_char-at.ensures.1,
      sym (start-after length_of t a.places.now l.place-index mark c.from-mark.ensures ∙ ap (λ (m : ℕ). mark + m) (sym n)),
    )

pub slice_bounds-write_rest-count : goal.slice_bounds-write_rest-count
slice_bounds-write_rest-count c = filled_within c.loop-place.invariant.2.filled

pub slice_bounds-write_rest-start : goal.slice_bounds-write_rest-start
slice_bounds-write_rest-start c = filled_within c.loop-place.invariant.2.filled

pub write_rest-requires : goal.write_rest-requires
write_rest-requires c = (c.loop-place.invariant.0, c.requires.0, c.loop-place.invariant.1, exact-rest c.loop-place.invariant.2)

pub returns : goal.returns
returns c = exact-last c.loop-place.invariant.2 c.write_rest.new.output c.write_rest.ensures

-- `write_rest` meets its contract: what is written so far, with what the reader gives of the rest, is the result, in an output that is as long (Turns, Ahead). The
-- measure is what is left of the text.
-- Assumes nothing.
use mathlib.Core.Path.{refl, sym, ap, ◌∙◌}
use Prim.Native.Nat.{◌+◌}
use native.Mathlib.Omega.{arith}
use lib.ListN.{length}
use Rattle.rules.specs.Moves.{result}
use Rattle.rules.specs.declared.Context.TheVariants.{InHtml}
use Rattle.rules.proofs.Loops.{from_end}
use Rattle.base.proofs.Counted.{filled_within}
use Rattle.base.proofs.Filled.{filled-room, filled_next}
use Rattle.marks.proofs.Ahead.{Exact, exact-start, exact-ahead, exact-put, exact-end, with-last}
use Rattle.reader.specs.Units.{byte_step}
use Rattle.read_units.specs.Marks.{Rest, Reaches}
use Rattle.read_units.specs.Units.{UnitAt}
use Rattle.read_units.proofs.Turns.{before-end, reach-unit, reach-next, reach_near, near-length, next-mark, next-unit}
use Rattle.read_units.proofs.fill.write_rest.Goals as goal
use Rattle.read_units.proofs.fill.write_rest.Goals.{After-find_near-mark, After-put_ahead-at, Else-mark-text}

-- What lies before the next `&` is copied,

copied : (c : After-put_ahead-at)
    → let a = c.args in
    Exact (Rest a.h a.text.now a.from) (Rest a.h a.text.now c.find_near-mark.result)
    (with-last c.loop-i.at c.loop-i.output c.put_ahead-at.new.output) (c.loop-i.at + c.put_ahead-at.result)
copied c =
    let a = c.args in
    let l = c.loop-i in
    let p = c.find_near-mark.ensures in
    exact-ahead l.invariant.2 (next-mark a.h a.text.now l.i c.find_near-mark.result l.invariant.1 p) c.put_ahead-at.new.output c.put_ahead-at.result
    (c.put_ahead-at.ensures.0 ∙ sym (near-length a.h a.text.now l.i c.find_near-mark.result l.invariant.1 p)) c.put_ahead-at.ensures.1 c.put_ahead-at.ensures.2

-- from where the text can be read,

reached : (c : After-find_near-mark) → let a = c.args in Reaches a.h a.text.now c.find_near-mark.result
reached c = let a = c.args in reach_near a.h a.text.now c.loop-i.i c.find_near-mark.result c.loop-i.invariant.1 c.find_near-mark.ensures

-- and a unit is there.

unit : (c : Else-mark-text) → let a = c.args in UnitAt a.h a.text.now c.find_near-mark.result
unit c =
    let reached-here : let a = c.args in Reaches a.h a.text.now c.find_near-mark.result =
    let a = c.args in reach_near a.h a.text.now c.loop-i.i c.find_near-mark.result c.loop-i.invariant.1 c.find_near-mark.ensures in
    let a = c.args in
    let p = c.find_near-mark.ensures in
    let h = before-end c.find_near-mark.result (length a.text.now) p.within c.if-mark-text.false in
    reach-unit a.h a.text.now c.find_near-mark.result (reached-here) h (p.here h)

pub loop-i-init : goal.loop-i-init
loop-i-init c = (c.requires.0, c.requires.2, exact-start _ _ c.requires.3)

pub find_near-mark-requires : goal.find_near-mark-requires
find_near-mark-requires c = (omega arith, c.loop-i.invariant.0, c.requires.1)

pub slice_bounds-put_ahead-count : goal.slice_bounds-put_ahead-count
slice_bounds-put_ahead-count c = filled_within c.loop-i.invariant.2.filled

pub slice_bounds-put_ahead-start : goal.slice_bounds-put_ahead-start
slice_bounds-put_ahead-start c = filled_within c.loop-i.invariant.2.filled

pub put_ahead-at-requires : goal.put_ahead-at-requires
put_ahead-at-requires c =
    let a = c.args in
    let l = c.loop-i in
    let p = c.find_near-mark.ensures in
    let r = c.find_near-mark.result in
    (p.after, p.within, omega (arith, filled-room l.invariant.2.filled (next-mark a.h a.text.now l.i r l.invariant.1 p), near-length a.h a.text.now l.i r l.invariant.1 p))

pub overflow_add-at : goal.overflow_add-at
overflow_add-at c = omega (arith, filled_within (copied (goal.at.overflow_add-at c).After-put_ahead-at).filled)

pub returns-then-mark-text : goal.returns-then-mark-text
returns-then-mark-text c = let a = c.args in exact-end (copied (goal.at.returns-then-mark-text c).After-put_ahead-at) (ap result (from_end (byte_step (InHtml a.h)) a.text.now c.find_near-mark.result (omega (arith, c.if-mark-text.true))))

pub slice_bounds-put_char-count : goal.slice_bounds-put_char-count
slice_bounds-put_char-count c = filled_within (copied (goal.at.slice_bounds-put_char-count c).After-put_ahead-at).filled

pub slice_bounds-put_char-start : goal.slice_bounds-put_char-start
slice_bounds-put_char-start c = filled_within (copied (goal.at.slice_bounds-put_char-start c).After-put_ahead-at).filled

pub put_char-at-requires : goal.put_char-at-requires
put_char-at-requires c =
    let u = unit (goal.at.put_char-at-requires c).Else-mark-text in
    (u, filled-room (copied (goal.at.put_char-at-requires c).After-put_ahead-at).filled (next-unit _ _ _ _ refl u))

pub overflow_add-at-in-loop-i : goal.overflow_add-at-in-loop-i
overflow_add-at-in-loop-i c = omega (arith, c.put_char-at.ensures.0, filled_next (copied (goal.at.overflow_add-at-in-loop-i c).After-put_ahead-at).filled (next-unit _ _ _ _ refl (unit (goal.at.overflow_add-at-in-loop-i c).Else-mark-text)))

pub overflow_add-mark : goal.overflow_add-mark
overflow_add-mark c = omega (arith, (unit (goal.at.overflow_add-mark c).Else-mark-text).ends)

pub bounds-text-mark : goal.bounds-text-mark
bounds-text-mark c = omega (arith, (unit (goal.at.bounds-text-mark c).Else-mark-text).ends)

pub overflow_add-i : goal.overflow_add-i
overflow_add-i c = omega (arith, (unit (goal.at.overflow_add-i c).Else-mark-text).ends, c.length_of.ensures.0)

pub loop-i-smaller : goal.loop-i-smaller
loop-i-smaller c = omega (arith, c.find_near-mark.ensures.after, c.find_near-mark.ensures.within, (unit (goal.at.loop-i-smaller c).Else-mark-text).ends, c.length_of.ensures.0)

pub loop-i-preserved : goal.loop-i-preserved
loop-i-preserved c =
    let a = c.args in
    let u = unit (goal.at.loop-i-preserved c).Else-mark-text in
    let n = c.length_of.ensures.0 in
    let m = c.length_of.result in
    let mark = c.find_near-mark.result in (
      omega (arith, u.ends, n),
      reach-next a.h a.text.now mark m n u (reached (goal.at.loop-i-preserved c).After-find_near-mark),
      exact-put (copied (goal.at.loop-i-preserved c).After-put_ahead-at) (next-unit a.h a.text.now mark m n u) c.put_char-at.new.output c.put_char-at.result c.put_char-at.ensures.0 c.put_char-at.ensures.1,
    )

pub returns : goal.returns
returns c = let a = c.args in exact-end c.loop-i.invariant.2 (ap result (from_end (byte_step (InHtml a.h)) a.text.now c.loop-i.i (omega arith)))

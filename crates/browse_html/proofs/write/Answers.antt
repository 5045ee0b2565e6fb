-- What the bytes before place i give is counted and written.
-- Assumes nothing.
use borrow.Author.Rules.{rules}
use native.Mathlib.Omega.{arith}
use Prim.Native.Nat.{◌-◌}
use mathlib.Core.Path.{sym, ap}
use Rattle.std.specs.Prelude.{None}
use Rattle.rules.specs.Browsing.{browse_step}
use Rattle.rules.specs.Moves.{result}
use Rattle.rules.proofs.Loops.{from_end}
use Rattle.rules.proofs.Reasons.{browse-left}
use Rattle.base.proofs.Places.{nearest-past}
use Rattle.base.proofs.Part.{part_length}
use Rattle.base.proofs.Filled.{filled-start, filled_next, filled-room, filled_put}
use Rattle.base.proofs.Counted.{counted_start, counted-quiet, counted-measures, filled-all}
use Rattle.decode_html.proofs.Turns.{quiet, quiet_next, counted-found, found-next}
use Rattle.browse_html.proofs.Turns.{browsing, counted-stays, stays-next}
use Rattle.browse_html.proofs.write.Goals as goal

pub loop-i-init : goal.loop-i-init
loop-i-init c = let a = c.args in (counted_start (browse_step a.kind) a.text.now, filled-start _ _ c.requires)

pub put_until-next-requires : goal.put_until-next-requires
put_until-next-requires c =
    let a = c.args in
    let l = c.loop-i in
    (search rules, λ r near. omega (arith, near.after, part_length a.text.now l.i r near.after near.within, filled-room l.invariant.1 (quiet_next (browsing a.kind) a.text.now l.i r near)))

pub overflow_sub-at : goal.overflow_sub-at
overflow_sub-at c = omega (arith, c.put_until-next.ensures.0.after)

pub overflow_add-at : goal.overflow_add-at
overflow_add-at c =
    let a = c.args in
    let l = c.loop-i in
    let p = c.put_until-next.result in
    let near = c.put_until-next.ensures.0 in
    omega (arith, part_length a.text.now l.i p near.after near.within, filled_next l.invariant.1 (quiet_next (browsing a.kind) a.text.now l.i p near))

pub loop-i-smaller-then-text-i-ne38 : goal.loop-i-smaller-then-text-i-ne38
loop-i-smaller-then-text-i-ne38 c =
    let near = c.put_until-next.ensures.0 in
    omega (arith, nearest-past c.args.text.now c.loop-i.i 38 c.put_until-next.result (search rules) c.if-text-i-ne38.true near, near.within)

pub loop-i-preserved-then-text-i-ne38 : goal.loop-i-preserved-then-text-i-ne38
loop-i-preserved-then-text-i-ne38 c =
    let a = c.args in
    let l = c.loop-i in
    let w = c.put_until-next in
    let near = w.ensures.0 in
    let size = part_length a.text.now l.i w.result near.after near.within in (
      counted-quiet l.invariant.0 w.result near.after near.within (quiet (browsing a.kind) a.text.now l.i w.result near),
      filled_put l.invariant.1 (quiet_next (browsing a.kind) a.text.now l.i w.result near) w.new.output (w.result - l.i) (sym size) w.ensures.1,
    )

pub find_reference-requires : goal.find_reference-requires
find_reference-requires c = (search rules, c.if-text-i-ne38.false)

pub put_value-at-requires : goal.put_value-at-requires
put_value-at-requires c =
    let a = c.args in
    (c.in-Some.ensures.lies.3, filled-room c.loop-i.invariant.1 (found-next (browsing a.kind) a.text.now c.loop-i.i c.in-Some.found c.in-Some.ensures))

pub overflow_add-at-in-Some : goal.overflow_add-at-in-Some
overflow_add-at-in-Some c =
    let a = c.args in
    omega (arith, c.put_value-at.ensures.0, filled_next c.loop-i.invariant.1 (found-next (browsing a.kind) a.text.now c.loop-i.i c.in-Some.found c.in-Some.ensures))

pub loop-i-smaller-in-Some : goal.loop-i-smaller-in-Some
loop-i-smaller-in-Some c = let lies = c.in-Some.ensures.lies in omega (arith, lies.1, lies.2)

pub loop-i-preserved-in-Some : goal.loop-i-preserved-in-Some
loop-i-preserved-in-Some c =
    let a = c.args in
    let l = c.loop-i in
    let p = c.put_value-at in
    let e = c.in-Some.found in
    let gives = c.in-Some.ensures in (
      rw p.ensures.0 (counted-found (browsing a.kind) a.text.now l.i e gives l.invariant.0),
      filled_put l.invariant.1 (found-next (browsing a.kind) a.text.now l.i e gives) p.new.output p.result p.ensures.0 p.ensures.1,
    )

pub put-at-requires : goal.put-at-requires
put-at-requires c = let a = c.args in filled-room c.loop-i.invariant.1 (stays-next a.kind a.text.now c.loop-i.i (search rules) c.if-text-i-ne38.false c.in-None.ensures)

pub overflow_add-at-in-None : goal.overflow_add-at-in-None
overflow_add-at-in-None c =
    let a = c.args in
    omega (arith, c.put-at.ensures.0, filled_next c.loop-i.invariant.1 (stays-next a.kind a.text.now c.loop-i.i (search rules) c.if-text-i-ne38.false c.in-None.ensures))

pub loop-i-preserved : goal.loop-i-preserved
loop-i-preserved c =
    let a = c.args in
    let l = c.loop-i in
    let p = c.put-at in
    let amp = c.if-text-i-ne38.false in
    let none = c.in-None.ensures in (
      rw p.ensures.0 (counted-stays a.kind a.text.now l.i (search rules) amp none l.invariant.0),
      filled_put l.invariant.1 (stays-next a.kind a.text.now l.i (search rules) amp none) p.new.output p.result p.ensures.0 p.ensures.1,
    )

pub returns : goal.returns
returns c =
    let a = c.args in
    let l = c.loop-i in
    let none = from_end (browse_step a.kind) a.text.now l.i (search rules) in
    record { fact = rw c.whole.ensures (counted-measures l.invariant.0 None none (browse-left a.kind a.text.now)); output_after = (filled-all l.invariant.1 (ap result none)).1 }

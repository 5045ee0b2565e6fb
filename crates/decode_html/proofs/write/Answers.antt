-- What the bytes before place i give is counted and written, and the first reference that stays before it is noted.
-- Assumes nothing.
use Prim.Native.Nat.{◌-◌}
use native.Mathlib.Omega.{arith}
use mathlib.Core.Path.{sym, ap}
use borrow.Author.Rules.{rules}
use Rattle.rules.specs.Moves.{result}
use Rattle.rules.proofs.Loops.{from_end}
use Rattle.base.proofs.Places.{nearest-past}
use Rattle.base.proofs.Part.{part_length}
use Rattle.base.proofs.Filled.{filled-start, filled_next, filled-room, filled_put}
use Rattle.base.proofs.Counted.{counted_start, counted-quiet, counted-measures, noted-start, noted-quiet, noted-end, filled-all}
use Rattle.rules.specs.References.{reference_step}
use Rattle.decode_html.proofs.Turns.{decoding, quiet, quiet_next, counted-stays, noted-stays, stays-next, counted-found, noted-found, found-next}
use Rattle.decode_html.proofs.write.Goals as goal

pub loop-i-init : goal.loop-i-init
loop-i-init c =
    let a = c.args in
    (counted_start reference_step a.text.now, filled-start _ _ c.requires, noted-start reference_step a.text.now)

pub put_until-next-requires : goal.put_until-next-requires
put_until-next-requires c =
    let t = c.args.text.now in
    let i = c.loop-i.i in
    (search rules, λ r near. omega (arith, near.after, part_length t i r near.after near.within, filled-room c.loop-i.invariant.1 (quiet_next decoding t i r near)))

pub overflow_sub-at : goal.overflow_sub-at
overflow_sub-at c = omega (arith, c.put_until-next.ensures.0.after)

pub overflow_add-at : goal.overflow_add-at
overflow_add-at c =
    let p = c.put_until-next.result in
    let near = c.put_until-next.ensures.0 in
    let a = c.args in
    let l = c.loop-i in
    omega (arith, part_length a.text.now l.i p near.after near.within, filled_next l.invariant.1 (quiet_next decoding a.text.now l.i p near))

pub loop-i-smaller-then-text-i-ne38 : goal.loop-i-smaller-then-text-i-ne38
loop-i-smaller-then-text-i-ne38 c =
    let near = c.put_until-next.ensures.0 in
    omega (arith, nearest-past c.args.text.now c.loop-i.i 38 c.put_until-next.result (search rules) c.if-text-i-ne38.true near, near.within)

pub loop-i-preserved-then-text-i-ne38 : goal.loop-i-preserved-then-text-i-ne38
loop-i-preserved-then-text-i-ne38 c =
    let w = c.put_until-next in
    let near = w.ensures.0 in
    let t = c.args.text.now in
    let l = c.loop-i in
    let size = part_length t l.i w.result near.after near.within in (
      counted-quiet l.invariant.0 w.result near.after near.within (quiet decoding t l.i w.result near),
      filled_put l.invariant.1 (quiet_next decoding t l.i w.result near) w.new.output (w.result - l.i) (sym size) w.ensures.1,
      noted-quiet l.invariant.2 w.result near.after near.within (quiet decoding t l.i w.result near),
    )

pub find_decoded_entity-requires : goal.find_decoded_entity-requires
find_decoded_entity-requires c = (search rules, c.if-text-i-ne38.false)

pub put_value-at-requires : goal.put_value-at-requires
put_value-at-requires c =
    let l = c.loop-i in
    (c.in-Ok.ensures.lies.3, filled-room l.invariant.1 (found-next decoding c.args.text.now l.i c.in-Ok.found c.in-Ok.ensures))

pub overflow_add-at-in-Ok : goal.overflow_add-at-in-Ok
overflow_add-at-in-Ok c =
    let l = c.loop-i in
    omega (arith, c.put_value-at.ensures.0, filled_next l.invariant.1 (found-next decoding c.args.text.now l.i c.in-Ok.found c.in-Ok.ensures))

pub loop-i-smaller-in-Ok : goal.loop-i-smaller-in-Ok
loop-i-smaller-in-Ok c = let lies = c.in-Ok.ensures.lies in omega (arith, lies.1, lies.2)

pub loop-i-preserved-in-Ok : goal.loop-i-preserved-in-Ok
loop-i-preserved-in-Ok c =
    let t = c.args.text.now in
    let l = c.loop-i in
    let p = c.put_value-at in
    let e = c.in-Ok.found in
    let gives = c.in-Ok.ensures in (
      rw p.ensures.0 (counted-found decoding t l.i e gives l.invariant.0),
      filled_put l.invariant.1 (found-next decoding t l.i e gives) p.new.output p.result p.ensures.0 p.ensures.1,
      noted-found decoding t l.i e gives l.invariant.2,
    )

pub put-at-requires : goal.put-at-requires
put-at-requires c = let l = c.loop-i in filled-room l.invariant.1 (stays-next c.args.text.now l.i c.in-Err.reason (search rules) c.in-Err.ensures)

pub overflow_add-at-in-Err : goal.overflow_add-at-in-Err
overflow_add-at-in-Err c =
    let l = c.loop-i in
    omega (arith, c.put-at.ensures.0, filled_next l.invariant.1 (stays-next c.args.text.now l.i c.in-Err.reason (search rules) c.in-Err.ensures))

pub loop-i-preserved : goal.loop-i-preserved
loop-i-preserved c =
    let t = c.args.text.now in
    let l = c.loop-i in
    let w = c.in-Err.reason in
    let p = c.put-at in (
      rw p.ensures.0 (counted-stays t l.i w (search rules) c.in-Err.ensures l.invariant.0),
      filled_put l.invariant.1 (stays-next t l.i w (search rules) c.in-Err.ensures) p.new.output p.result p.ensures.0 p.ensures.1,
      noted-stays t l.i w (search rules) c.in-Err.ensures l.left l.invariant.2 c.unwrap_or.result c.unwrap_or.ensures,
    )

pub returns : goal.returns
returns c =
    let a = c.args in
    let l = c.loop-i in
    let none = from_end reference_step a.text.now l.i (search rules) in record { fact = counted-measures l.invariant.0 l.left none (noted-end l.left l.invariant.2 none); output_after = (filled-all l.invariant.1 (ap result none)).1 }

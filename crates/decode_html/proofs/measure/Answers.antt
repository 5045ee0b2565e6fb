-- The bytes before place i are counted, and the first reference that stays before it is noted.
-- Assumes nothing.
use borrow.Author.Rules.{rules}
use native.Mathlib.Omega.{arith}
use Rattle.rules.proofs.Loops.{from_end}
use Rattle.base.proofs.Places.{nearest-past}
use Rattle.base.proofs.Counted.{counted_start, counted-quiet, counted-measures, noted-start, noted-quiet, noted-end}
use Rattle.rules.specs.References.{reference_step}
use Rattle.decode_html.proofs.Turns.{decoding, quiet, counted-stays, noted-stays, counted-found, noted-found}
use Rattle.decode_html.proofs.measure.Goals as goal

pub loop-i-init : goal.loop-i-init
loop-i-init c = let a = c.args in (counted_start reference_step a.text.now, noted-start reference_step a.text.now)

pub loop-i-smaller-then-text-i-ne38 : goal.loop-i-smaller-then-text-i-ne38
loop-i-smaller-then-text-i-ne38 c =
    let near = c.find_byte-next.ensures in
    omega (arith, nearest-past c.args.text.now c.loop-i.i 38 c.find_byte-next.result (search rules) c.if-text-i-ne38.true near, near.within)

pub loop-i-preserved-then-text-i-ne38 : goal.loop-i-preserved-then-text-i-ne38
loop-i-preserved-then-text-i-ne38 c =
    let a = c.args in
    let l = c.loop-i in
    let near = c.find_byte-next.ensures in
    let q = quiet decoding a.text.now l.i c.find_byte-next.result near in
    (counted-quiet l.invariant.0 c.find_byte-next.result near.after near.within q, noted-quiet l.invariant.1 c.find_byte-next.result near.after near.within q)

pub find_decoded_entity-requires : goal.find_decoded_entity-requires
find_decoded_entity-requires c = (search rules, c.if-text-i-ne38.false)

pub loop-i-smaller-in-Ok : goal.loop-i-smaller-in-Ok
loop-i-smaller-in-Ok c = let lies = c.in-Ok.ensures.lies in omega (arith, lies.1, lies.2)

pub loop-i-preserved-in-Ok : goal.loop-i-preserved-in-Ok
loop-i-preserved-in-Ok c =
    let t = c.args.text.now in
    let l = c.loop-i in
    let e = c.in-Ok.found in
    (rw c.value_length-length.ensures.0 (counted-found decoding t l.i e c.in-Ok.ensures l.invariant.0), noted-found decoding t l.i e c.in-Ok.ensures l.invariant.1)

pub loop-i-preserved : goal.loop-i-preserved
loop-i-preserved c =
    let t = c.args.text.now in
    let l = c.loop-i in
    let w = c.in-Err.reason in
    (counted-stays t l.i w (search rules) c.in-Err.ensures l.invariant.0, noted-stays t l.i w (search rules) c.in-Err.ensures l.left l.invariant.1 c.unwrap_or.result c.unwrap_or.ensures)

pub returns : goal.returns
returns c =
    let l = c.loop-i in
    let none = from_end reference_step c.args.text.now l.i (search rules) in
    counted-measures l.invariant.0 l.left none (noted-end l.left l.invariant.1 none)

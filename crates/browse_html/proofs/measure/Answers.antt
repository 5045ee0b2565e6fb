-- The bytes before place i are counted.
-- Assumes nothing.
use borrow.Author.Rules.{rules}
use native.Mathlib.Omega.{arith}
use Rattle.std.specs.Prelude.{None}
use Rattle.rules.specs.Browsing.{browse_step}
use Rattle.rules.proofs.Loops.{from_end}
use Rattle.rules.proofs.Reasons.{browse-left}
use Rattle.base.proofs.Places.{nearest-past}
use Rattle.base.proofs.Counted.{counted_start, counted-quiet, counted-measures}
use Rattle.decode_html.proofs.Turns.{quiet, counted-found}
use Rattle.browse_html.proofs.Turns.{browsing, counted-stays}
use Rattle.browse_html.proofs.measure.Goals as goal

pub loop-i-init : goal.loop-i-init
loop-i-init c = let a = c.args in counted_start (browse_step a.kind) a.text.now

pub loop-i-smaller-then-text-i-ne38 : goal.loop-i-smaller-then-text-i-ne38
loop-i-smaller-then-text-i-ne38 c =
    let near = c.find_byte-next.ensures in
    omega (arith, nearest-past c.args.text.now c.loop-i.i 38 c.find_byte-next.result (search rules) c.if-text-i-ne38.true near, near.within)

pub loop-i-preserved-then-text-i-ne38 : goal.loop-i-preserved-then-text-i-ne38
loop-i-preserved-then-text-i-ne38 c =
    let a = c.args in
    let l = c.loop-i in
    let near = c.find_byte-next.ensures in
    counted-quiet l.invariant c.find_byte-next.result near.after near.within (quiet (browsing a.kind) a.text.now l.i c.find_byte-next.result near)

pub find_reference-requires : goal.find_reference-requires
find_reference-requires c = (search rules, c.if-text-i-ne38.false)

pub loop-i-smaller-in-Some : goal.loop-i-smaller-in-Some
loop-i-smaller-in-Some c = let lies = c.in-Some.ensures.lies in omega (arith, lies.1, lies.2)

pub loop-i-preserved-in-Some : goal.loop-i-preserved-in-Some
loop-i-preserved-in-Some c =
    let a = c.args in
    rw c.value_length-length.ensures.0 (counted-found (browsing a.kind) a.text.now c.loop-i.i c.in-Some.found c.in-Some.ensures c.loop-i.invariant)

pub loop-i-preserved : goal.loop-i-preserved
loop-i-preserved c = let a = c.args in counted-stays a.kind a.text.now c.loop-i.i (search rules) c.if-text-i-ne38.false c.in-None.ensures c.loop-i.invariant

pub returns : goal.returns
returns c =
    let a = c.args in
    rw c.whole.ensures (counted-measures c.loop-i.invariant None (from_end (browse_step a.kind) a.text.now c.loop-i.i (search rules)) (browse-left a.kind a.text.now))

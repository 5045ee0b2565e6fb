-- `write_most` meets its contract: each turn is a run of copied bytes and then, unless it is sixteen, what is written for the byte after it. The invariant:
-- the text is written so far (`Reached`, `Spilt`), and sixteen bytes of it are left. The measure is what is left of the text.
-- Assumes nothing.
use mathlib.Core.List.{◌++◌}
use Prim.Native.Nat.{◌+◌, ◌-◌, ◌≤◌}
use native.Mathlib.Omega.{arith}
use lib.ListN.{length, take, drop, length-drop}
use Rattle.rules.specs.Operations.{encode_of}
use Rattle.rules.specs.Contexts.{written_in}
use Rattle.rules.proofs.Growth.{strings-sixfold, encode-six}
use Rattle.base.proofs.Spilt.{Spilt, spilt-start, spilt-done}
use Rattle.base.proofs.Filled.{lent-rest}
use Rattle.strings_ahead.specs.Ahead.{Reached}
use Rattle.strings_ahead.proofs.Turns.{later-byte, turn-run, turn-room, turn-next, turn-reached, turn-put}
use Rattle.strings_ahead.proofs.Reach.{reached-start}
use Rattle.strings_ahead.proofs.ahead.Words.write_most.Goals as goal
use Rattle.strings_ahead.proofs.ahead.Words.write_most.Goals.{After-slice_known-in-loop-i-1}

-- What a run of copied bytes leaves, and that it is within the output.

ran : (c : After-slice_known-in-loop-i-1)
    → let a = c.args in
    let t = a.text.now in
    let l = c.loop-i in
    let x = c.write_run-n in
    Reached a.self.now.notation a.self.now.quotes t (l.i + x.result) (l.at + x.result) l.places
    × Spilt 16 0 (encode_of (written_in a.self.now.notation a.self.now.quotes) t) (encode_of (written_in a.self.now.notation a.self.now.quotes) (drop (l.i + x.result) t)) a.output.now (take l.at l.output ++ (x.new.output ++ drop (length l.output - l.at) (drop l.at l.output))) (l.at + x.result)
    × (l.i + x.result + 16 ≤ length t)
    × (l.at + x.result ≤ length a.output.now)
ran c =
    let a = c.args in
    let t = a.text.now in
    let l = c.loop-i in
    let x = c.write_run-n in
    let n = a.self.now.notation in
    let q = a.self.now.quotes in
    let far : l.i + x.result + 16 ≤ length t = omega (arith, c.loop-i-test.true, x.ensures.upper_bound.0) in
    let g = x.ensures.upper_bound.2 in (
      turn-run n q l.invariant.0 g,
      turn-put n q l.invariant.0 l.invariant.3 g far x.new.output x.auto.output x.ensures.spills,
      far,
      turn-next n q l.invariant.0 l.invariant.3 g far,
    )

pub loop-i-init : goal.loop-i-init
loop-i-init c =
    let pre = c.requires in
    let a = c.args in (reached-start a.self.now.notation a.self.now.quotes a.text.now, omega (arith, pre.text_long.0), omega arith, spilt-start _ _ (omega (arith, pre.text_in_bounds)))

pub overflow_sub-text : goal.overflow_sub-text
overflow_sub-text c = omega (arith, c.loop-i.invariant.1)

pub write_run-n-requires : goal.write_run-n-requires
write_run-n-requires c =
    let a = c.args in
    let l = c.loop-i in record { text_sixteen = rw (lent-rest, length-drop) (omega (arith, c.loop-i-test.true)); text_in_bounds = turn-room a.self.now.notation a.self.now.quotes l.invariant.0 l.invariant.3 }

pub overflow_add-i : goal.overflow_add-i
overflow_add-i c = omega (arith, (ran (goal.at.overflow_add-i c).After-slice_known-in-loop-i-1).2)

pub overflow_add-at : goal.overflow_add-at
overflow_add-at c = omega (arith, (ran (goal.at.overflow_add-at c).After-slice_known-in-loop-i-1).3)

pub loop-i-smaller-then-n-eq-PART : goal.loop-i-smaller-then-n-eq-PART
loop-i-smaller-then-n-eq-PART c = omega (arith, c.if-n-eq-PART.true, (ran (goal.at.loop-i-smaller-then-n-eq-PART c).After-slice_known-in-loop-i-1).2)

pub loop-i-preserved-then-n-eq-PART : goal.loop-i-preserved-then-n-eq-PART
loop-i-preserved-then-n-eq-PART c = let r = ran (goal.at.loop-i-preserved-then-n-eq-PART c).After-slice_known-in-loop-i-1 in (r.0, r.2, omega (arith, c.loop-i.invariant.2), r.1)

pub slice_bounds-write_escape-count : goal.slice_bounds-write_escape-count
slice_bounds-write_escape-count c = omega (arith, (ran (goal.at.slice_bounds-write_escape-count c).After-slice_known-in-loop-i-1).2)

pub slice_bounds-write_escape-start : goal.slice_bounds-write_escape-start
slice_bounds-write_escape-start c = omega (arith, (ran (goal.at.slice_bounds-write_escape-start c).After-slice_known-in-loop-i-1).2)

pub slice_bounds-write_escape-count-in-loop-i : goal.slice_bounds-write_escape-count-in-loop-i
slice_bounds-write_escape-count-in-loop-i c = let r = ran (goal.at.slice_bounds-write_escape-count-in-loop-i c).After-slice_known-in-loop-i-1 in omega (arith, r.3, r.1.kept)

pub slice_bounds-write_escape-start-in-loop-i : goal.slice_bounds-write_escape-start-in-loop-i
slice_bounds-write_escape-start-in-loop-i c = let r = ran (goal.at.slice_bounds-write_escape-start-in-loop-i c).After-slice_known-in-loop-i-1 in omega (arith, r.3, r.1.kept)

pub write_escape-next-requires : goal.write_escape-next-requires
write_escape-next-requires c =
    let a = c.args in
    let l = c.loop-i in
    let x = c.write_run-n in
    let r = ran (goal.at.write_escape-next-requires c).After-slice_known-in-loop-i-1 in
    let next = later-byte a.text.now l.i x.result in
    let hot = x.ensures.upper_bound.1 (omega (arith, x.ensures.upper_bound.0, c.if-n-eq-PART.false)) in record { text_eight = (rw (lent-rest, length-drop) (omega (arith, r.2)), rw next at hot); text_in_bounds = turn-room a.self.now.notation a.self.now.quotes r.0 r.1 }

pub overflow_add-i-in-loop-i : goal.overflow_add-i-in-loop-i
overflow_add-i-in-loop-i c =
    let a = c.args in
    let t = a.text.now in
    let l = c.loop-i in
    let x = c.write_run-n in
    let y = c.write_escape-next in
    let r = ran (goal.at.overflow_add-i-in-loop-i c).After-slice_known-in-loop-i-1 in
    let far : l.i + x.result + y.result.place + 16 ≤ length t = omega (arith, c.loop-i-test.true, x.ensures.upper_bound.0, y.ensures.reached.2) in
    omega (arith, far, c.requires.text_long.1)

pub overflow_add-at-in-loop-i : goal.overflow_add-at-in-loop-i
overflow_add-at-in-loop-i c =
    let a = c.args in
    let t = a.text.now in
    let l = c.loop-i in
    let x = c.write_run-n in
    let y = c.write_escape-next in
    let r = ran (goal.at.overflow_add-at-in-loop-i c).After-slice_known-in-loop-i-1 in
    let far : l.i + x.result + y.result.place + 16 ≤ length t = omega (arith, c.loop-i-test.true, x.ensures.upper_bound.0, y.ensures.reached.2) in
    omega (arith, (turn-reached a.self.now.notation a.self.now.quotes r.0 r.1 y.ensures.reached.0 far).long, encode-six (written_in a.self.now.notation a.self.now.quotes) (strings-sixfold a.self.now.notation a.self.now.quotes) t, c.requires.text_long.1)

pub overflow_add-places : goal.overflow_add-places
overflow_add-places c =
    let a = c.args in
    let t = a.text.now in
    let l = c.loop-i in
    let x = c.write_run-n in
    let y = c.write_escape-next in
    let r = ran (goal.at.overflow_add-places c).After-slice_known-in-loop-i-1 in
    let far : l.i + x.result + y.result.place + 16 ≤ length t = omega (arith, c.loop-i-test.true, x.ensures.upper_bound.0, y.ensures.reached.2) in
    omega (arith, l.invariant.2, y.ensures.reached.3, far, c.requires.text_long.1)

pub loop-i-smaller : goal.loop-i-smaller
loop-i-smaller c =
    let a = c.args in
    let t = a.text.now in
    let l = c.loop-i in
    let x = c.write_run-n in
    let y = c.write_escape-next in
    let r = ran (goal.at.loop-i-smaller c).After-slice_known-in-loop-i-1 in
    let far : l.i + x.result + y.result.place + 16 ≤ length t = omega (arith, c.loop-i-test.true, x.ensures.upper_bound.0, y.ensures.reached.2) in
    omega (arith, far, y.ensures.reached.1)

pub loop-i-preserved : goal.loop-i-preserved
loop-i-preserved c =
    let a = c.args in
    let t = a.text.now in
    let l = c.loop-i in
    let x = c.write_run-n in
    let y = c.write_escape-next in
    let r = ran (goal.at.loop-i-preserved c).After-slice_known-in-loop-i-1 in
    let far : l.i + x.result + y.result.place + 16 ≤ length t = omega (arith, c.loop-i-test.true, x.ensures.upper_bound.0, y.ensures.reached.2) in
    let g = y.ensures.reached.0 in (
      turn-reached a.self.now.notation a.self.now.quotes r.0 r.1 g far,
      far,
      omega (arith, l.invariant.2, y.ensures.reached.3),
      turn-put a.self.now.notation a.self.now.quotes r.0 r.1 g far y.new.output y.auto.output y.ensures.spills,
    )

pub returns : goal.returns
returns c = let l = c.loop-i in rw c.whole.ensures (record { reached = (l.invariant.0, l.invariant.1, l.invariant.2); spills = spilt-done l.invariant.3 })

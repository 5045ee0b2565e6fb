-- `release` meets its contract: there is room for what is needed, and then the two pieces are written one after the other.
-- Assumes nothing.
-- Past the test there is room for both pieces,
use mathlib.Core.Path.{refl}
use mathlib.Core.List.{[]}
use Prim.Native.Nat.{◌+◌, ◌≤◌}
use native.Mathlib.Omega.{arith}
use lib.ListN.{length}
use Rattle.base.proofs.Filled.{Filled, Next, filled-room, filled_next, filled_put}
use Rattle.base.proofs.Counted.{filled-all, filled_within}
use Rattle.stream.specs.Seams.{front, both}
use Rattle.stream.proofs.Rows.{needed-room, front_long, released-none, released-all}
use Rattle.stream.proofs.Two.{second, first-filled}
use Rattle.stream.proofs.release.Goals as goal
use Rattle.stream.proofs.release.Goals.{After-slice_known-2-1, Else-output-length}

room : (c : Else-output-length) → length (front c.args.s c.args.seam.now) + length (front c.args.e c.args.rest.now) ≤ length c.args.output.now
room c =
    let a = c.args in
    needed-room a.seam.now a.s a.rest.now a.e (length a.output.now) c.needed-length.ensures c.if-output-length.false

-- and then the first is written, and the second is left.

first : (c : After-slice_known-2-1)
    → Filled (both c.args.seam.now c.args.s c.args.rest.now c.args.e) (front c.args.e c.args.rest.now) c.args.output.now c.write_to-at.new.output c.write_to-at.result
first c =
    let room-here : length (front c.args.s c.args.seam.now) + length (front c.args.e c.args.rest.now) ≤ length c.args.output.now =
    let a = c.args in
    needed-room a.seam.now a.s a.rest.now a.e (length a.output.now) c.needed-length.ensures c.if-output-length.false in
    let a = c.args in
    let w = c.write_to-at in
    first-filled (front a.s a.seam.now) (front a.e a.rest.now) a.output.now (room-here) w.new.output w.result w.ensures.0 w.ensures.1

rest : (c : After-slice_known-2-1) → Next (front c.args.e c.args.rest.now) (front c.args.e c.args.rest.now) []
rest c =
    let a = c.args in
    second (front a.e a.rest.now)

pub returns-then-output-length : goal.returns-then-output-length
returns-then-output-length c =
    let a = c.args in
    released-none a.seam.now a.s a.rest.now a.e a.output.now c.needed-length.ensures c.if-output-length.true c.refusal.ensures

pub write_to-at-requires : goal.write_to-at-requires
write_to-at-requires c = (c.requires.0, let r = room (goal.at.write_to-at-requires c).Else-output-length in omega (arith, r))

pub slice_bounds-write_with-count : goal.slice_bounds-write_with-count
slice_bounds-write_with-count c = filled_within (first (goal.at.slice_bounds-write_with-count c).After-slice_known-2-1)

pub slice_bounds-write_with-start : goal.slice_bounds-write_with-start
slice_bounds-write_with-start c = filled_within (first (goal.at.slice_bounds-write_with-start c).After-slice_known-2-1)

pub write_with-requires : goal.write_with-requires
write_with-requires c =
    let k = c in
    (k.requires.1, filled-room (first (goal.at.write_with-requires c).After-slice_known-2-1) (rest (goal.at.write_with-requires c).After-slice_known-2-1), k.requires.4)

pub overflow_add-n : goal.overflow_add-n
overflow_add-n c = omega (arith, c.write_with.ensures.0, filled_next (first (goal.at.overflow_add-n c).After-slice_known-2-1) (rest (goal.at.overflow_add-n c).After-slice_known-2-1))

pub overflow_sub-n : goal.overflow_sub-n
overflow_sub-n c =
    let k = c in
    let a = k.args in
    omega (arith, c.write_to-at.ensures.0, c.write_with.ensures.0, front_long a.s a.seam.now k.requires.0, front_long a.e a.rest.now k.requires.1)

pub returns : goal.returns
returns c =
    let k = c in
    let a = c.args in
    let w = c.write_with in
    let f = filled_put (first (goal.at.returns k).After-slice_known-2-1) (rest (goal.at.returns k).After-slice_known-2-1) w.new.output w.result w.ensures.0 w.ensures.1 in
    released-all a.seam.now a.s a.rest.now a.e a.output.now (room (goal.at.returns k).Else-output-length) (filled-all f refl) c.passed.ensures

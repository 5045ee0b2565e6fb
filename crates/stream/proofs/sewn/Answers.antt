-- `sewn` meets its contract: what the seam does not settle is the rest of the seam or, after a long part, lies in the part.
-- Assumes nothing.
use native.Mathlib.Omega.{arith}
use borrow.Author.Rules.{rules}
use lib.ListN.{length-drop}
use Rattle.rules.specs.Stream.{held_in}
use Rattle.base.proofs.Filled.{lent-rest}
use Rattle.stream.proofs.Rows.{short-rest, short-size, long_after, long_rest, long-size, part-joined}
use Rattle.stream.proofs.sewn.Goals as goal

pub joined-requires : goal.joined-requires
joined-requires c =
    let k = c in
    let a = k.args in
    let l = short-size (held_in a.state) a.text.now a.seam.now k.requires.0 c.settled-s.result c.settled-s.ensures.0 c.if-text-le-HELD.true in
    let s = c.settled-s in
    (s.ensures.0, s.ensures.1, omega (arith, l, k.requires.1, k.requires.2, c.if-text-le-HELD.true), rw (lent-rest, length-drop) (omega (arith, l, k.requires.1, k.requires.4, s.ensures.1)))

pub returns-then-text-le-HELD : goal.returns-then-text-le-HELD
returns-then-text-le-HELD c =
    let k = c in
    let a = k.args in
    let s = c.settled-s in
    part-joined a.state a.text.now a.output.now a.seam.now k.requires.0 k.requires.3 (short-rest (held_in a.state) a.text.now a.seam.now k.requires.0 s.result s.ensures.0 c.if-text-le-HELD.true) c.joined.ensures

pub overflow_sub-s : goal.overflow_sub-s
overflow_sub-s c =
    let k = c in
    let a = k.args in
    long_after (held_in a.state) a.text.now a.seam.now k.requires.0 c.settled-s.result c.settled-s.ensures.0 a.count k.requires.1 (search rules)

pub slice_bounds-joined-count-2 : goal.slice_bounds-joined-count-2
slice_bounds-joined-count-2 c =
    let k = c in
    let a = k.args in
    omega (arith, long-size (held_in a.state) a.text.now a.seam.now k.requires.0 c.settled-s.result c.settled-s.ensures.0 a.count k.requires.1 (search rules), c.settled-s.ensures.1, c.if-text-le-HELD.false)

pub slice_bounds-joined-start-2 : goal.slice_bounds-joined-start-2
slice_bounds-joined-start-2 c =
    let k = c in
    let a = k.args in
    omega (arith, long-size (held_in a.state) a.text.now a.seam.now k.requires.0 c.settled-s.result c.settled-s.ensures.0 a.count k.requires.1 (search rules), c.settled-s.ensures.1, c.if-text-le-HELD.false)

pub joined-requires-2 : goal.joined-requires-2
joined-requires-2 c =
    let k = c in
    let a = k.args in
    let l = long-size (held_in a.state) a.text.now a.seam.now k.requires.0 c.settled-s.result c.settled-s.ensures.0 a.count k.requires.1 (search rules) in
    let s = c.settled-s in
    (s.ensures.0, s.ensures.1, omega (arith, l, k.requires.2), rw (lent-rest, length-drop) (omega (arith, l, long_after (held_in a.state) a.text.now a.seam.now k.requires.0 s.result s.ensures.0 a.count k.requires.1 (search rules), k.requires.4, s.ensures.1, c.if-text-le-HELD.false)))

pub returns : goal.returns
returns c =
    let k = c in
    let a = k.args in
    let s = c.settled-s in
    part-joined a.state a.text.now a.output.now a.seam.now k.requires.0 k.requires.3 (long_rest (held_in a.state) a.text.now a.seam.now k.requires.0 s.result s.ensures.0 a.count k.requires.1 (search rules)) c.joined-2.ensures

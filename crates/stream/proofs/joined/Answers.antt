-- `joined` meets its contract: what has been tested of the seam and of the rest settles the row of the table (Rows), and with it answer, state and output.
-- Assumes nothing.
use native.Mathlib.Omega.{arith}
use lib.ListN.{length, length-drop}
use Rattle.rules.proofs.Stream.{settled-most}
use Rattle.base.proofs.Filled.{lent-rest}
use Rattle.stream.proofs.Rows.{seam-broken, rest-broken, part-refused, part-passed}
use Rattle.stream.proofs.joined.Goals as goal

pub returns-in-Some : goal.returns-in-Some
returns-in-Some c =
    λ u e f. let k = c in
    let a = k.args in
    seam-broken a.state a.seam.now a.rest.now u a.output.now a.s k.requires.0 k.requires.3 e f c.in-Some.v c.in-Some.ensures.0 c.in-Some.ensures.1 c.refusal-answer.ensures

pub broken_with-requires : goal.broken_with-requires
broken_with-requires c = c.is_without-clear.ensures

pub returns-in-Some-broken_with : goal.returns-in-Some-broken_with
returns-in-Some-broken_with c =
    λ u e f. let k = c in
    let a = k.args in
    rest-broken a.state a.seam.now a.rest.now u a.output.now a.s k.requires.0 k.requires.3 e f (length a.seam.now) c.in_default.ensures (omega arith) c.in-Some-broken_with.w c.in-Some-broken_with.ensures.0 c.in-Some-broken_with.ensures.1 c.refusal-answer-in-Some-broken_with.ensures

pub returns-then-answer-ne-PASSED : goal.returns-then-answer-ne-PASSED
returns-then-answer-ne-PASSED c =
    λ u e f. let k = c in
    let a = k.args in
    let s = c.settled-e in
    part-refused a.state a.seam.now a.rest.now u a.output.now a.s k.requires.0 k.requires.3 e f (length a.seam.now) c.in_default.ensures (omega arith) (length a.rest.now) c.in_default-broken_with.ensures (omega arith) s.result s.ensures.0 c.release-answer.ensures c.if-answer-ne-PASSED.true

pub holding-next-requires : goal.holding-next-requires
holding-next-requires c =
    let a = c.args in
    rw (lent-rest, length-drop) (omega (arith, settled-most a.rest.now, c.settled-e.ensures.0))

pub returns : goal.returns
returns c =
    λ u e f. let k = c in
    let a = k.args in
    let s = c.settled-e in
    part-passed a.state a.seam.now a.rest.now u a.output.now a.s k.requires.0 k.requires.3 e f (length a.seam.now) c.in_default.ensures (omega arith) (length a.rest.now) c.in_default-broken_with.ensures (omega arith) s.result s.ensures.0 c.release-answer.ensures c.if-answer-ne-PASSED.false (rw lent-rest at c.holding-next.ensures)

-- `needed` meets its contract: the room is enough for a quarter more than what is read, or what is written is measured.
-- Assumes nothing.
use native.Mathlib.Omega.{arith}
use Rattle.stream.proofs.Rows.{both-short, needed-quick, needed-measured}
use Rattle.stream.proofs.needed.Goals as goal

pub returns-then-most-room : goal.returns-then-most-room
returns-then-most-room c =
    let a = c.args in
    needed-quick a.seam.now a.s a.rest.now a.e a.room c.if-most-room.true

pub overflow_add-result : goal.overflow_add-result
overflow_add-result c =
    let k = c in
    let a = k.args in
    omega (arith, c.measure_to.ensures, c.measure_to-2.ensures, both-short a.seam.now a.s a.rest.now a.e, k.requires.2, k.requires.3)

pub returns : goal.returns
returns c =
    let a = c.args in
    needed-measured a.seam.now a.s a.rest.now a.e a.room c.measure_to.result c.measure_to-2.result c.measure_to.ensures c.measure_to-2.ensures

-- `end_with` meets its contract: what has been tested settles the row of the table (Rows), and with it answer, state and output.
-- Assumes nothing.
use mathlib.Core.Path.{◌∙◌}
use Prim.Native.Nat.{◌+◌}
use native.Mathlib.Omega.{arith}
use borrow.Author.Rules.{rules}
use borrow.Author.Tests.{le-ltb}
use lib.ListN.{length}
use Rattle.rules.proofs.Growth.{raw-replaced}
use Rattle.base.proofs.Filled.{lent-rest}
use Rattle.stream.proofs.Rows.{finish-invalid, finish-room, finish-written, finish-held}
use Rattle.stream.proofs.end_with.Goals as goal

pub returns-then-valid-held : goal.returns-then-valid-held
returns-then-valid-held c =
    let k = c in
    let a = k.args in
    let v = c.valid_to-valid in
    let t = c.status in
    let l = finish-held a.state a.held.now a.output.now k.requires.0 (finish-invalid a.state a.held.now a.output.now k.requires.2 (le-ltb 65536 (a.state.done + length a.held.now) k.requires.3) v.result t.result v.ensures.0 c.if-valid-held.true (rw lent-rest at t.ensures)) in
    (c.refusal-answer.ensures ∙ l.0, l.1, l.2)

pub returns-then-output-length : goal.returns-then-output-length
returns-then-output-length c =
    let k = c in
    let a = k.args in
    let m = c.measure-length in
    let l = finish-held a.state a.held.now a.output.now k.requires.0 (finish-room a.state a.held.now a.output.now k.requires.2 (le-ltb 65536 (a.state.done + length a.held.now) k.requires.3) (search rules) m.result m.ensures c.if-output-length.true) in
    (c.refusal-answer-then-output-length.ensures ∙ l.0, l.1, l.2)

pub overflow_sub-length : goal.overflow_sub-length
overflow_sub-length c =
    let a = c.args in
    omega (arith, c.measure-length.ensures, raw-replaced a.held.now)

pub returns : goal.returns
returns c =
    let k = c in
    let a = k.args in
    let m = c.measure-length in
    let l = finish-held a.state a.held.now a.output.now k.requires.0 (finish-written a.state a.held.now a.output.now k.requires.2 (le-ltb 65536 (a.state.done + length a.held.now) k.requires.3) (search rules) m.result m.ensures c.if-output-length.false) in
    (c.passed-answer.ensures ∙ l.0, c.holding-next.ensures ∙ l.1, c.write.ensures.1 ∙ l.2)

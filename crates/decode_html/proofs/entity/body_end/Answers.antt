-- `decode_html::entity::body_end` meets its contract. The invariant: neither `;` nor `&` is among the bytes passed.
-- Assumes nothing.
use borrow.Author.Rules.{rules}
use Prim.Native.Nat.{◌+◌}
use native.Mathlib.Omega.{arith}
use Rattle.base.proofs.Places.{absent-step}
use Rattle.decode_html.proofs.Bodies.{ends-here, ends-amp, ends-after}
use Rattle.decode_html.proofs.entity.body_end.Goals as goal

pub returns-in-59 : goal.returns-in-59
returns-in-59 c =
    let h = c.loop-i.invariant in
    ends-here c.args.text.now c.args.from c.loop-i.i c.loop-i.auto.i (omega arith) h.0 h.1 (omega arith) c.in-59.is

pub returns-in-38 : goal.returns-in-38
returns-in-38 c =
    let h = c.loop-i.invariant in
    ends-amp c.args.text.now c.args.from c.loop-i.i c.loop-i.auto.i (omega arith) h.0 h.1 (omega arith) c.in-38.is

pub loop-i-preserved : goal.loop-i-preserved
loop-i-preserved c =
    let h = c.loop-i.invariant in
    let t = c.args.text.now in
    (absent-step t c.args.from c.loop-i.i 59 h.0 (search rules), absent-step t c.args.from c.loop-i.i 38 h.1 (search rules))

pub returns : goal.returns
returns c =
    let h = c.loop-i.invariant in
    let a = c.args in
    let r = a.from + c.min-most.result in
    ends-after a.text.now a.from r (omega arith) (omega arith) (λ k l m. h.0 k l (omega arith)) (λ k l m. h.1 k l (omega arith)) c.far_end.result c.far_end.ensures

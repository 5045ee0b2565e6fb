-- `next_halt` meets its contract. The invariant: no such byte is among those that are passed. The measure is what is left.
-- Assumes nothing.
use borrow.Author.Rules.{rules}
use Prim.Native.Nat.{◌+◌}
use native.Mathlib.Omega.{arith}
use Rattle.base.proofs.Firsts.{free-start, free-join}
use Rattle.decode_json.specs.Escapes.{halt_at}
use Rattle.decode_json.proofs.halts.next_halt.Goals as goal

-- src/halts.rt:73:5

pub loop-i-init : goal.loop-i-init
loop-i-init c = (search rules, search rules, free-start (halt_at c.args.text.now) c.args.from)

-- src/halts.rt:73:17

-- src/halts.rt:74:13

-- src/halts.rt:76:20

pub overflow_add-result : goal.overflow_add-result
overflow_add-result c = omega (arith, c.first-n.ensures.within)

-- src/halts.rt:76:13

pub returns-then-n-lt16 : goal.returns-then-n-lt16
returns-then-n-lt16 c =
    let a = c.args in
    let l = c.loop-i in
    let n = c.first-n in
    record { after = omega (arith, n.ensures.after); within = omega (arith, n.ensures.within); none = free-join (halt_at a.text.now) a.from l.i (l.i + n.result) l.invariant.2 n.ensures.none; here = λ h. n.ensures.here (omega arith) }

-- src/halts.rt:78:9

-- src/halts.rt:73:5

-- src/halts.rt:73:5

pub loop-i-preserved : goal.loop-i-preserved
loop-i-preserved c =
    let a = c.args in
    let l = c.loop-i in
    let n = c.first-n in
    (search rules, search rules, λ k h m. free-join (halt_at a.text.now) a.from l.i (l.i + n.result) l.invariant.2 n.ensures.none k h (omega (arith, c.if-n-lt16.false)))

-- src/halts.rt:80:5

-- src/halts.rt:68:1

pub returns : goal.returns
returns c =
    let a = c.args in
    let l = c.loop-i in
    let w = c.walk.ensures in
    record { after = omega (arith, l.invariant.0, w.after); within = w.within; none = free-join (halt_at a.text.now) a.from l.i c.walk.result l.invariant.2 w.none; here = w.here }

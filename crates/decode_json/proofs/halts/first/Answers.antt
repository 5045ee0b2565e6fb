-- `first` meets its contract: of the bytes so far, the number tells the first such byte.
-- Assumes nothing.
use mathlib.Core.Path.{◌≡◌, subst}
use Prim.Native.Nat.{ℕ}
use native.Mathlib.Omega.{arith}
use Rattle.decode_json.specs.Escapes.{halt_at}
use Rattle.decode_json.proofs.Contents.{Sought, sought-start, sought-next, sought-end}
use Rattle.decode_json.proofs.halts.first.Goals as goal

pub loop-j-init : goal.loop-j-init
loop-j-init c = sought-start (halt_at c.args.text.now) c.args.at

pub loop-j-preserved : goal.loop-j-preserved
loop-j-preserved c =
    let l = c.loop-j in
    rw c.min-n.ensures (sought-next (halt_at c.args.text.now) c.args.at l.j l.n c.distance.result l.invariant (omega arith) c.distance.ensures.1)

pub returns : goal.returns
returns c =
    let a = c.args in
    let l = c.loop-j in
    let e : l.j ≡ 16 = omega (arith, l.invariant.few) in
    sought-end (halt_at a.text.now) a.at l.n (subst (λ (j : ℕ). Sought (halt_at a.text.now) a.at j l.n) e l.invariant)

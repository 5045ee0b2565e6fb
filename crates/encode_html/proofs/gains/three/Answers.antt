-- The sum is the one that is computed for every byte.
-- Assumes nothing.
use mathlib.Core.Path.{◌≡◌, ◌∙◌}
use mathlib.Core.Bool.{cond}
use Prim.Native.Nat.{◌+◌}
use native.Mathlib.Omega.{arith}
use lib.Dec.{eqb}
use Rattle.encode_html.specs.Gains.{grows}
use Rattle.encode_html.proofs.Growth.{three-is, small, few}
use Rattle.encode_html.proofs.gains.three.Goals as goal

pub overflow_add-result : goal.overflow_add-result
overflow_add-result c =
    let s = c in
    omega (arith, small s.args.g.html 62 _ s.args.g.right.2)

pub returns : goal.returns
returns c =
    let s = c in
    let a = s.args in
    let x = c.when in
    let y = c.when-2 in
    let sum : x.result + y.result ≡ cond (eqb a.b 60) 1 0 + cond (eqb a.b 62) (grows a.g.html 62) 0 = rw (x.ensures.0, y.ensures.0, a.g.right.2) in
    few a.g.html 3 a.b _ (sum ∙ three-is a.g.html a.b s.ranges.b.fits)

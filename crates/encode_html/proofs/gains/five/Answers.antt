-- In each kind of context the sum is the one that is computed for every byte.
-- Assumes nothing.
use mathlib.Core.Path.{◌≡◌, sym, ◌∙◌}
use Prim.Native.Nat.{◌+◌}
use native.Mathlib.Omega.{arith}
use Rattle.encode_html.proofs.Growth.{quotes, five-none, five-unquoted, five-is, small, few}
use Rattle.encode_html.proofs.gains.five.Goals as goal

pub returns-then-g : goal.returns-then-g
returns-then-g c =
    let s = c in
    few s.args.g.html 5 s.args.b 0 (five-none s.args.g.html s.args.b s.ranges.b.fits (sym s.args.g.right.0 ∙ c.if-g.true))

pub returns-then-g-2 : goal.returns-then-g-2
returns-then-g-2 c =
    let s = c in
    let a = s.args in
    let kind = sym s.args.g.right.1 ∙ c.if-g-2.true in
    few a.g.html 5 a.b _ (c.five_unquoted.ensures ∙ five-unquoted a.g.html a.b s.ranges.b.fits kind)

pub overflow_add-result : goal.overflow_add-result
overflow_add-result c =
    let s = c in
    omega (arith, small s.args.g.html 34 _ s.args.g.right.3, small s.args.g.html 39 _ s.args.g.right.4, small s.args.g.html 47 _ s.args.g.right.5)

pub overflow_add-result-2 : goal.overflow_add-result-2
overflow_add-result-2 c =
    let s = c in
    omega (arith, small s.args.g.html 34 _ s.args.g.right.3, small s.args.g.html 39 _ s.args.g.right.4, small s.args.g.html 47 _ s.args.g.right.5)

pub returns : goal.returns
unfolding quotes
returns c =
    let s = c in
    let a = s.args in
    let x = c.when in
    let y = c.when-2 in
    let z = c.when-3 in
    let sum : x.result + y.result + z.result ≡ quotes a.g.html a.b = rw (x.ensures.0, y.ensures.0, z.ensures.0, a.g.right.3, a.g.right.4, a.g.right.5) in
    let kind = sym s.args.g.right.1 ∙ c.if-g-2.false in
    few a.g.html 5 a.b _ (sum ∙ five-is a.g.html a.b s.ranges.b.fits kind)

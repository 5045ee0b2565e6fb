-- `least` meets its contract: the least so far is at most that of each byte that is passed.
-- Assumes nothing.
use mathlib.Core.Path.{sym, ap, ◌∙◌, subst}
use Prim.Native.Nat.{ℕ, ◌-◌, ◌≤◌}
use native.Mathlib.Omega.{arith}
use lib.ListN.{get_or}
use borrow.Author.Count.{below_more}
use Rattle.plain.proofs.Xors.{lesser-most}
use Rattle.plain.specs.Plain.{lesser}
use Rattle.read_strings.specs.Clear.{far_of, before_in}
use Rattle.read_strings.proofs.Looks.{before-in, first-only}
use Rattle.read_strings.proofs.look.least.Goals as goal

pub loop-i-init : goal.loop-i-init
loop-i-init c = first-only (λ (k : ℕ). c.far-m.result ≤ far_of c.args.keys.now (before_in c.args.before c.args.part.now k) (get_or c.args.part.now k 0)) (omega (arith, c.far-m.ensures))

pub loop-i-preserved : goal.loop-i-preserved
loop-i-preserved c =
    let a = c.args in
    let l = c.loop-i in
    let p = a.part.now in
    let most = lesser-most l.m (far_of a.keys.now (get_or p (l.i - 1) 0) (get_or p l.i 0)) in
    let low = c.min-m.ensures ∙ ap (lesser l.m) c.far.ensures in
    below_more _ _ (λ k h. omega (arith, l.invariant k h, most, low))
    (subst (λ (b : ℕ). c.min-m.result ≤ far_of a.keys.now b (get_or p l.i 0)) (sym (before-in a.before p l.i (omega arith))) (omega (arith, most, low)))

pub returns : goal.returns
returns c = let l = c.loop-i in λ k h. l.invariant k (omega arith)

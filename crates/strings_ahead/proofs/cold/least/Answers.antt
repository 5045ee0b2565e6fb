-- `least` meets its contract. The invariant: where the number is above 0 so far, each byte passed is none of them.
-- Assumes nothing.
use Prim.Native.Nat.{◌<◌}
use native.Mathlib.Omega.{arith}
use borrow.Author.Count.{below_more}
use lib.Seq.{length-take-le}
use Rattle.std.proofs.lemmas.List.{get_or-take}
use Rattle.plain.proofs.Xors.{lesser-some}
use Rattle.strings_ahead.proofs.cold.least.Goals as goal

pub loop-b-preserved : goal.loop-b-preserved
loop-b-preserved c =
    let a = c.args in
    let l = c.loop-b in
    let few : l.b-index < 16 = omega (arith, length-take-le 16 a.text.now c.requires) in
    λ e.
    let both = lesser-some l.m c.far.result (rw c.min-m.ensures at e) in
    below_more _ _ (l.invariant both.0) (rw (c.far.ensures, get_or-take 16 a.text.now l.b-index 0 few) at both.1)

pub returns : goal.returns
returns c = λ e x h. c.loop-b.invariant e x (omega (arith, length-take-le 16 c.args.text.now c.requires))

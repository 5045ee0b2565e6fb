-- `is_clear` meets its contract: if every byte of what is left is far from the keys, every byte of the text is, and then it is clear.
-- Assumes nothing.
use Rattle.std.proofs.Common.{List, ℕ, ◌<◌, subst, arith, get_or}
use Rattle.plain.proofs.Parts.{each_both}
use Rattle.read_html.specs.Clear.{far_of}
use Rattle.read_html.proofs.Clearing.{far-clear}
use Rattle.read_html.proofs.look.is_clear.Goals as goal

pub loop-part-preserved : goal.loop-part-preserved
loop-part-preserved c = λ w. c.loop-part.invariant (rw c.in-Some.ensures.steps.1.0 (each_both (λ (b : ℕ). 128 < far_of c.keys_of-keys.result b) c.in-Some.part.now _ (λ k h. omega (arith, c.least.ensures k h, c.if-least-le128.false)) w))

pub returns : goal.returns
returns c =
    let a = c.args in
    λ z k h. far-clear a.h (get_or a.text.now k 0) (c.type_inv.text k).fits (subst (λ (keys : List ℕ). 128 < far_of keys (get_or a.text.now k 0)) c.keys_of-keys.ensures (c.loop-part.invariant (λ i m. absurd (omega (arith, m, c.in-None.ensures.steps.1.0))) k h))

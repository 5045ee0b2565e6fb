-- If no byte of what is left is special, none of the text is; then every byte is unchanged (Unchanged).
-- Assumes nothing.
use Rattle.std.proofs.Common.{false, ◌≡◌, ℕ, sym, ◌∙◌, subst, arith, get_or}
use Rattle.encode_html.specs.Keys.{special}
use Rattle.encode_html.specs.declared.look.Keys.{Keys}
use Rattle.plain.proofs.Parts.{each_both}
use Rattle.encode_html.proofs.Unchanged.{special-unchanged}
use Rattle.encode_html.proofs.look.is_unchanged.Goals as goal

pub loop-part-preserved : goal.loop-part-preserved
loop-part-preserved c = λ w. c.loop-part.invariant (rw c.in-Some.ensures.steps.1.0 (each_both (λ (b : ℕ). special c.keys_of-k.result b ≡ false) c.in-Some.part.now _ (λ j h. c.has_special.ensures c.if-has_special.false j (omega arith) h) w))

pub returns : goal.returns
returns c = λ e j l.
    let a = c.args in
    let k = c.keys_of-k in
    special-unchanged a.g.html (sym a.g.right.1 ∙ c.if-g.false) (get_or a.text.now j 0)
    (subst (λ (k : Keys). special k (get_or a.text.now j 0) ≡ false) k.ensures (c.loop-part.invariant (λ i m. absurd (omega (arith, m, c.in-None.ensures.steps.1.0))) j l))

-- What is counted so far, with what is left, is the whole; if none was counted as high, the text is ASCII if what is left is.
-- Assumes nothing.
use Rattle.std.proofs.Common.{◌∙◌, arith}
use Rattle.plain.proofs.Parts.{each_both}
use Rattle.encode_html.specs.Gains.{Ascii}
use Rattle.encode_html.proofs.Growth.{grown-cut, grown-all, hit-cut, hit-all}
use Rattle.encode_html.proofs.look.count.Goals as goal

pub loop-part-preserved : goal.loop-part-preserved
loop-part-preserved c =
    let a = c.args in
    let l = c.loop-part in
    let y = c.tally-found in
    let s = c.in-Some.ensures.steps in
    let x = c.in-Some.part.now in (
      s.0 ∙ l.invariant.0,
      grown-cut a.g.html a.text.now _ x _ _ _ s.1.0 y.ensures.0 l.invariant.1,
      hit-cut a.g.html a.text.now _ x _ _ _ s.1.0 y.ensures.1 l.invariant.2,
      λ e w. l.invariant.3 (omega (arith, e, c.max.ensures)) (rw s.1.0 (each_both Ascii x _ (y.ensures.2 (omega (arith, e, c.max.ensures))) w)),
    )

pub returns : goal.returns
returns c =
    let a = c.args in
    let l = c.loop-part in
    let none = c.in-None.ensures.steps.1.0 in
    (grown-all a.g.html a.text.now _ _ none l.invariant.1, hit-all a.g.html a.text.now _ _ none l.invariant.2, λ e. l.invariant.3 e (λ k m. absurd (omega (arith, m, none))))

-- `misfits` meets its contract: while none is counted, each byte passed fits. What is left to cut is the part from the next window on.
-- Assumes nothing.
use Rattle.std.proofs.Common.{[], ◌∷◌, sym, ◌∙◌, ap, arith, length, drop, length-append, length-drop}
use borrow.Author.Count.{below_more}
use borrow.Author.Rules.{rules}
use lib.Seq.{drop-drop}
use Rattle.utf8.proofs.Parts.{fits-window, all_fit}
use Rattle.utf8.proofs.misfits.Goals as goal

pub loop-four-preserved : goal.loop-four-preserved
loop-four-preserved c =
    let l = c.loop-four in
    let i = l.invariant in
    let s = c.in-Some.ensures.steps in
    let k = length l.yielded in
    let w = c.args.part.now in
    rw (length-append l.yielded (c.in-Some.four ∷ [])) (
      s.0 ∙ i.0,
      s.1.2 ∙ ap (drop 1) i.1 ∙ drop-drop 1 k w,
      omega (arith, s.1.0, i.0, ap length i.1, length-drop k w),
      search rules,
      λ e. below_more _ _ (i.4 e) (fits-window w c.in-Some.four.now k (s.1.1 ∙ rw (i.0, i.1)) (sym c.is_fit.ensures ∙ c.if-not-is_fit.false)),
    )

pub returns : goal.returns
returns c =
    let i = c.loop-four.invariant in
    let w = c.args.part.now in
    λ e. all_fit w (search rules) (sym c.heads_fit.ensures ∙ c.if-not-heads_fit.false)
    (λ j h. i.4 e j (omega (arith, c.in-None.ensures.steps.1.0, i.0, ap length i.1, length-drop (length c.loop-four.yielded) w)))

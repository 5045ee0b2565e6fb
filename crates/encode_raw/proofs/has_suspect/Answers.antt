-- `encode_raw::has_suspect` meets its contract. The invariant: the answer so far is false only where no pair that is passed is suspect.
-- Assumes nothing.
use Rattle.std.proofs.Common.{[], ◌∷◌, ◌∙◌, ap, arith, length, drop, length-append, length-drop}
use lib.Seq.{drop-drop}
use Rattle.encode_raw.proofs.Cuts.{pair-more}
use Rattle.encode_raw.proofs.has_suspect.Goals as goal

pub loop-pair-preserved : goal.loop-pair-preserved
loop-pair-preserved c =
    let l = c.loop-pair in
    let i = l.invariant in
    let s = c.in-Some.ensures.steps in
    let k = length l.yielded in
    let b = c.args.block.now in
    rw (length-append l.yielded (c.in-Some.pair ∷ [])) (
      s.0 ∙ i.0,
      s.1.2 ∙ ap (drop 1) i.1 ∙ drop-drop 1 k b,
      pair-more b c.in-Some.pair.now k l.hit c.is_suspect-hit.result (s.1.1 ∙ rw (i.0, i.1)) c.is_suspect-hit.ensures i.2,
    )

pub returns : goal.returns
returns c =
    let i = c.loop-pair.invariant in
    let b = c.args.block.now in
    λ e k h. i.2 e k (omega (arith, c.in-None.ensures.steps.1.0, i.0, ap length i.1, length-drop (length c.loop-pair.yielded) b))

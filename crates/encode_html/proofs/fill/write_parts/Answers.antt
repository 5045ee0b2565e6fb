-- What is written so far, with what the rest of the text gives, is the encoding of the whole.
-- Assumes nothing.
use Rattle.std.proofs.Common.{List, ℕ, ap, ◌∙◌, subst, arith}
use Rattle.std.specs.Slice.Iter.{chunks_rest}
use Rattle.rules.specs.Operations.{encode_of}
use Rattle.rules.specs.declared.Context.TheVariants.{InHtml}
use Rattle.base.proofs.Spilt.{Spilt, spilt-start, spilt-room, spilt-next, spilt-put, spilt-end}
use Rattle.encode_html.proofs.Text.{next-cut, empty-none}
use Rattle.encode_html.proofs.fill.write_parts.Goals as goal

pub loop-part-init : goal.loop-part-init
loop-part-init c = rw (ap chunks_rest c.into_iter-part-iterator.ensures.into_iter_gives ∙ c.chunks-part-items.ensures.rest) (spilt-start _ _ c.requires.text_in_bounds)

pub write_part-at-requires-clause-part_in_bounds : goal.write_part-at-requires-clause-part_in_bounds
write_part-at-requires-clause-part_in_bounds c = spilt-room c.loop-part.invariant (next-cut c.args.h _ c.in-Some.part.now _ c.in-Some.ensures.steps.1.0) (omega arith)

pub overflow_add-at : goal.overflow_add-at
overflow_add-at c = omega (arith, c.write_part-at.ensures.value, spilt-next c.loop-part.invariant (next-cut c.args.h _ c.in-Some.part.now _ c.in-Some.ensures.steps.1.0) (omega arith))

pub loop-part-preserved : goal.loop-part-preserved
loop-part-preserved c =
    let p = c.write_part-at in
    spilt-put c.loop-part.invariant (next-cut c.args.h _ c.in-Some.part.now _ c.in-Some.ensures.steps.1.0) (omega arith) p.new.output p.result p.ensures.value p.auto.output p.ensures.spills

pub returns : goal.returns
returns c =
    let l = c.loop-part in
    let none = empty-none c.args.h (chunks_rest l.part-iterator) c.in-None.ensures.steps.1.0 in
    let e = spilt-end (subst (λ (r : List ℕ). Spilt 7 7 (encode_of (InHtml c.args.h) c.args.text.now) r c.args.output.now l.output l.at) none l.invariant) in
    record { value = e.0; spills = e.1 }

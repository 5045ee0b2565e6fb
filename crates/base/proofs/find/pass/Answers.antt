-- `crate::find::pass` meets its contract. The invariant: what is left to cut is what is left from place i on, and the byte is at no place before.
-- Assumes nothing.
use Rattle.std.proofs.Common.{sym, ap, ◌∙◌, arith}
use Rattle.std.specs.Slice.Iter.{chunks_exact_rest, chunks_exact_size}
use borrow.Author.Rules.{rules}
use Rattle.base.proofs.Filled.{lent-rest}
use Rattle.base.proofs.Places.{absent-block}
use Rattle.base.proofs.find.pass.Goals as goal

pub loop-block-init : goal.loop-block-init
loop-block-init c =
    let e = c.into_iter-block-iterator.ensures.into_iter_gives in
    let s = c.chunks_exact-block-items.ensures in
    (ap chunks_exact_size e ∙ s.size, sym (ap chunks_exact_rest e ∙ s.rest ∙ lent-rest c.args.from c.args.text.now), search rules, search rules, λ k a b. absurd (omega arith))

pub loop-block-preserved : goal.loop-block-preserved
loop-block-preserved c =
    let l = c.loop-block in
    let s = c.in-Some.ensures.steps in
    let a = absent-block c.args.text.now c.in-Some.block.now _ c.args.from l.i 16 c.args.byte l.invariant.3 (l.invariant.1 ∙ s.1.0) (s.1.1 ∙ l.invariant.0) c.if-contains.ensures.cases l.invariant.4 in
    (s.0 ∙ l.invariant.0, a.0, search rules, a.1, a.2)

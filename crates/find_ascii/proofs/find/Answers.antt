-- `find` meets its contract: what is left to cut is what is left from place i on, and the byte is at no place before.
-- Assumes nothing.
use Rattle.std.proofs.Common.{◌+◌, sym, ap, ◌∙◌, arith}
use Rattle.std.specs.Slice.Iter.{chunks_exact_rest, chunks_exact_size}
use borrow.Author.Rules.{rules}
use Rattle.base.proofs.Filled.{lent-rest}
use Rattle.base.proofs.Part.{cut-rest, cut-within}
use Rattle.base.proofs.Places.{absent-join, nearest-after}
use Rattle.find_ascii.proofs.Lowest.{cut-near, cut-absent, cut-ascii}
use Rattle.find_ascii.proofs.find.Goals as goal

pub loop-block-init : goal.loop-block-init
loop-block-init c =
    let e = c.into_iter-block-iterator.ensures.into_iter_gives in
    let s = c.chunks_exact-block-items.ensures in
    (ap chunks_exact_size e ∙ s.size, sym (ap chunks_exact_rest e ∙ s.rest ∙ lent-rest c.args.from c.args.text.now), search rules, search rules, λ k a b. absurd (omega arith))

pub first_of_eight-requires : goal.first_of_eight-requires
first_of_eight-requires c =
    let l = c.loop-block in
    let s = c.in-Some.ensures.steps in
    let n = s.1.1 ∙ l.invariant.0 in
    (c.requires.0, n, cut-ascii c.args.text.now l.i c.args.byte c.in-Some.block.now _ l.invariant.3 (l.invariant.1 ∙ s.1.0) n c.requires.2)

pub overflow_add-result : goal.overflow_add-result
overflow_add-result c =
    let l = c.loop-block in
    let s = c.in-Some.ensures.steps in
    let n = s.1.1 ∙ l.invariant.0 in
    omega (arith, c.in-Some-first_of_eight.ensures.1, cut-within c.args.text.now c.in-Some.block.now _ l.i 8 l.invariant.3 (l.invariant.1 ∙ s.1.0) n)

pub returns-in-Some-first_of_eight : goal.returns-in-Some-first_of_eight
returns-in-Some-first_of_eight c =
    let a = c.args in
    let l = c.loop-block in
    let s = c.in-Some.ensures.steps in
    let j = c.in-Some-first_of_eight.j in
    let near = cut-near a.text.now l.i a.byte c.in-Some.block.now _ j l.invariant.3 (l.invariant.1 ∙ s.1.0) (s.1.1 ∙ l.invariant.0) c.in-Some-first_of_eight.ensures in
    nearest-after a.text.now a.from l.i a.byte (l.i + j) l.invariant.2 l.invariant.4 near.0

pub loop-block-preserved : goal.loop-block-preserved
loop-block-preserved c =
    let a = c.args in
    let t = a.text.now in
    let l = c.loop-block in
    let x = c.in-Some.block.now in
    let s = c.in-Some.ensures.steps in
    let e = l.invariant.1 ∙ s.1.0 in
    let n = s.1.1 ∙ l.invariant.0 in (
      s.0 ∙ l.invariant.0,
      cut-rest t x _ l.i 8 l.invariant.3 e n,
      search rules,
      cut-within t x _ l.i 8 l.invariant.3 e n,
      absent-join t a.from l.i (l.i + 8) a.byte l.invariant.4 (cut-absent t l.i a.byte x _ l.invariant.3 e n c.in_default.ensures),
    )
